-- All of it (`specs/Laws.antt`).
-- Assumes nothing.
use mathlib.Core.Path.{sym, ap, ◌∙◌}
use Rattle.book.specs.Entry.{entry_of}
use Rattle.heard.specs.Laws.{AllLaws}
use Rattle.heard.proofs.OneFrame.{frame_heard}
use Rattle.heard.proofs.Showing.{first_shows, only_shown, slot_dated}
use Rattle.heard.proofs.Days.{one_day_lem}
use Rattle.heard.proofs.Sky.{sky_taken, sky_held}
use Rattle.heard.proofs.SkyHeard.{sky_heard, sky_heard_in_code}

pub laws : AllLaws
laws =
    record {
      frame = frame_heard;
      shows = first_shows;
      only = λ cs st run k a b t shown all. sym (slot_dated cs st run k a b t shown) ∙ ap entry_of (only_shown cs st run k a b t shown all);
      one_day_lem = one_day_lem;
      taken = sky_taken;
      held = sky_held;
      sky = sky_heard;
      sky_in_code = sky_heard_in_code;
    }
