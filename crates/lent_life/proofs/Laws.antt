-- The laws of a lent life (laws). Assumes nothing.
use Rattle.sites.proofs.Lives.{every_life}
use Rattle.lent_life.specs.Laws.{Laws}
use Rattle.lent_life.proofs.Same.{same, one_life}
use Rattle.lent_life.proofs.Histories.{as_history, tallies_seen, exchanged, reordered}
use Rattle.lent_life.proofs.Isolation.{isolation}
use Rattle.lent_life.proofs.Lived.{lived, every_lent, summary_seen, slot_seen}
use Rattle.lent_life.proofs.Apart.{told_apart}

-- ALL OF THEM
pub laws : Laws
laws =
    record {
      as_by_value = same;
      one_outcome = one_life;
      as_history = as_history;
      tallies_seen = tallies_seen;
      exchanged = exchanged;
      reordered = reordered;
      isolation = isolation;
      as_life = λ from all st l is lives. let w = lived from all st l is lives in (w, every_life l st w);
      every_life = every_lent;
      summary_seen = summary_seen;
      slot_seen = slot_seen;
      told_apart = told_apart;
    }
