-- Demand 3 reads a block as its calls: calls and blocks from any station are a run of their calls (as-calls), so all that is demanded of histories holds
-- of them (blocks-as-calls).
-- Assumes nothing.
use mathlib.Core.Path.{sym, subst}
use mathlib.Core.List.{List, [], ◌∷◌}
use Prim.Native.Nat.{ℕ}
use Rattle.fields.specs.Block.{Call, Offer, Reset, calls_in}
use Rattle.station.specs.declared.Station.{Station}
use Rattle.station.specs.declared.Stepped.{Stepped}
use Rattle.station.specs.declared.Emptied.{Emptied}
use Rattle.station.specs.Station.{fresh_station, station_after, station_reset}
use Rattle.station.specs.History.{Offer as MadeOffer, Reset as MadeReset, Runs}
use Rattle.station.specs.Said.{Said, said, RunsFrom, none as None, offers as Offers, resets as Resets}
use Rattle.station.proofs.EveryHistory.{some_answer, offer_answers, reset_answer, reset_answers}
use Rattle.station.proofs.Demands.{demands}
use Rattle.blocks.specs.Taking.{answer_in, after_call, after_calls, answers_to}
use Rattle.blocks.specs.Histories.{Event, RunsBy, none, offers, resets, hands, made, said_then, said_in, calls_by, BlocksAsCalls}
use Rattle.blocks.proofs.Along.{as_calls as along-is}

-- ---- a call of a block is a call
one_more_lem : (from : Station) (before : List Said) (st : Station) (card : ℕ) (call : Call) → RunsFrom from before st
    → RunsFrom from (said (made card call) (answer_in st card call) ∷ before) (after_call st card call)
unfolding answer_in after_call
one_more_lem from before st card (Offer c epoch s) run =
    let r : Stepped = record { station = station_after st card c epoch s; answer = (some_answer st card c epoch s).answer } in
    subst (λ (a : List ℕ). RunsFrom from (said (MadeOffer card c epoch s) a ∷ before) (station_after st card c epoch s)) (some_answer st card c epoch s).is
    (Offers card c epoch s before st r run (offer_answers st card c epoch s))
one_more_lem from before st card (Reset c) run =
    let r : Emptied = record { station = station_reset st card c; answer = reset_answer card c } in
    subst (λ (a : List ℕ). RunsFrom from (said (MadeReset card c) a ∷ before) (station_reset st card c)) (reset_answers st card c).answer
    (Resets card c before st r run (reset_answers st card c))

-- so the calls of a block, the first made first, are calls one after the other
all_more : (from : Station) (card : ℕ) (calls : List Call) (before : List Said) (st : Station) → RunsFrom from before st
    → RunsFrom from (said_then before card calls (answers_to st card calls)) (after_calls st card calls)
unfolding said_then answers_to after_calls
all_more from card [] before st run = run
all_more from card (call ∷ calls) before st run = all_more from card calls _ (after_call st card call) (one_more_lem from before st card call run)

-- ---- CALLS AND BLOCKS ARE THEIR CALLS, from any station
pub as_calls : (from : Station) (h : List Event) (st : Station) → RunsBy from h st → RunsFrom from (said_in h) st
unfolding said_in
as_calls from h st none = None
as_calls from h st (offers card c epoch s before old r run o) = Offers card c epoch s (said_in before) old r (as_calls from before old run) o
as_calls from h st (resets card c before old r run o) = Resets card c (said_in before) old r (as_calls from before old run) o
as_calls from h st (hands card block answers before old r last ended run o along) =
    let a = (along-is old card block answers last ended along).same_answers in
    subst (λ (x : Station). RunsFrom from (said_then (said_in before) card (calls_in block) answers) x) (sym o.station)
    (subst (λ (l : List (List ℕ)). RunsFrom from (said_then (said_in before) card (calls_in block) l) (after_calls old card (calls_in block))) (sym a)
    (all_more from card (calls_in block) (said_in before) old (as_calls from before old run)))

-- ---- DEMAND 3 READS A BLOCK AS ITS CALLS
module _ {h : List Event} {st : Station} (run : RunsBy fresh_station h st) where
  its_run : RunsFrom fresh_station (said_in h) st
  its_run = as_calls fresh_station h st run

  its_calls : Runs (calls_by h) st
  its_calls = demands.said_run (said_in h) st its_run

pub blocks_as_calls : BlocksAsCalls
blocks_as_calls =
    record {
      as_calls = as_calls;
      one_station = λ h st run. demands.one_station (calls_by h) st (its_calls run);
      well_made = λ h st run. demands.made (calls_by h) st (its_calls run);
      answers = λ h st run. demands.answers (calls_by h) st (its_calls run);
      tallies = λ h st run. demands.tallies (said_in h) st (its_run run);
      counts = λ h st run. demands.counts (calls_by h) st (its_calls run);
      exchange = λ later earlier x y h st n run e.
          demands.exchange later earlier x y st n (subst (λ (l : List Said). RunsFrom fresh_station l st) e (its_run run));
      packed = λ later earlier x y g h st st' n run e run' e'.
          (demands.exchange later earlier x y st n (subst (λ (l : List Said). RunsFrom fresh_station l st) e (its_run run))).only (said_in h) st'
          (its_run run') e';
      reordering = λ g h st st' run run'. demands.reordering (said_in g) (said_in h) st st' (its_run run) (its_run run');
      two_stations = λ g h st st' run run' same. demands.two_stations (calls_by g) (calls_by h) same st st' (its_calls run) (its_calls run');
      book = λ h st run. demands.book (calls_by h) st (its_calls run);
      summary = λ h st run. demands.summary (calls_by h) st (its_calls run);
      health = λ h st run. demands.health (calls_by h) st (its_calls run);
      isolated = λ card from from' g h st st' w w' agree run run' same.
          demands.isolated card from from' (said_in g) (said_in h) st st' w w' agree (as_calls from g st run) (as_calls from' h st' run') same;
    }
