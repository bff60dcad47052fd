-- What holds of every block that is handed to a station, whatever the station, the card and the bytes. Proved as `laws` in `proofs/Laws.antt`.
-- Assumes nothing.
use Rattle.std.specs.Prelude.{ℕ, ◌+◌, ◌≤◌, ◌<◌, false, List, [], ◌∷◌, ◌++◌, ◌↔◌, ◌≡◌, length, drop, Result, Ok, ⊤}
use Rattle.fields.specs.declared.Why.{Why}
use Rattle.strings.specs.Numbers.{Exactly}
use Rattle.fields.specs.Fields.{length_in, tests_in, is_good}
use Rattle.fields.specs.Block.{end_in}
use Rattle.fields.specs.Written.{Item, block_of, calls_among, AllFit}
use Rattle.station.specs.declared.Station.{Station}
use Rattle.station.specs.Demand1.{OneAnswer}
use Rattle.blocks.specs.declared.Told.TheVariants.{End}
use Rattle.blocks.specs.declared.Taken.{Taken}
use Rattle.blocks.specs.declared.Handed.{Handed}
use Rattle.blocks.specs.Taking.{after_calls, told_paper, Takes}
use Rattle.blocks.specs.Handing.{HandsOver}
use Rattle.blocks.specs.Along.{Along, Passed, AsCalls}

pub record Laws : Type 0 where
  -- every call answers, of any station and any bytes, and no second answer fits
  pub field_answers : (st : Station) (card : ℕ) (block : List ℕ) (at : ℕ) → OneAnswer Taken (Takes st card block at)
  pub block_answers : (st : Station) (card : ℕ) (block : List ℕ) → OneAnswer Handed (HandsOver st card block)
  -- the end is told exactly at the end and past it; and before it each number exactly where its test is the first to fit
  pub ends : (st : Station) (card : ℕ) (block : List ℕ) (at : ℕ) (r : Taken) → Takes st card block at r → (r.told ≡ End) ↔ (length block ≤ at)
  pub exactly : (st : Station) (card : ℕ) (block : List ℕ) (at : ℕ) (r : Taken) → Takes st card block at r → at < length block
      → Exactly (tests_in at (drop at block)) (told_paper r.told)
  -- a field that is refused changes nothing, and the reading stays there
  pub refused : (st : Station) (card : ℕ) (block : List ℕ) (at : ℕ) (r : Taken) → Takes st card block at r → is_good (drop at block) ≡ false
      → (r.station ≡ st) × (r.after ≡ at)
  -- the fields of a block one by one have the answers of its calls one by one, and lead to the station and to the end that the whole block is handed over to
  pub passes : (st : Station) (card : ℕ) (block : List ℕ) → Passed st card block 0
  pub as_calls : (st : Station) (card : ℕ) (block : List ℕ) (answers : List (List ℕ)) (last : Station) (ended : Result ⊤ (Why × ℕ))
      → Along card block st 0 answers last ended
      → AsCalls st card block answers last ended
  pub same_station : (st : Station) (card : ℕ) (block : List ℕ) (answers : List (List ℕ)) (last : Station) (ended : Result ⊤ (Why × ℕ)) (r : Handed)
      → Along card block st 0 answers last ended → HandsOver st card block r → (last ≡ r.station) × (ended ≡ r.ended)
  -- a block that is written from calls and remarks does exactly these calls, and ends whole
  pub written : (st : Station) (card : ℕ) (items : List Item) → AllFit items → (r : Handed) → HandsOver st card (block_of items) r
      → (r.station ≡ after_calls st card (calls_among items)) × (r.ended ≡ Ok tt)
  -- two blocks end to end are the one and then the other, where the first ends whole
  pub follow : (st : Station) (card : ℕ) (a b : List ℕ) (r q s : Handed) → HandsOver st card a r → r.ended ≡ Ok tt → HandsOver r.station card b q
      → HandsOver st card (a ++ b) s
      → s.station ≡ q.station
  -- "the work stops there, keeps what went before": of what is refused nothing is done,
  pub keeps : (st : Station) (card : ℕ) (before rest : List ℕ) (r q : Handed) → end_in before ≡ 0 ∷ [] → is_good rest ≡ false
      → HandsOver st card (before ++ rest) r → HandsOver st card before q → r.station ≡ q.station
  -- and what stands after it has no effect, whatever it is
  pub no_effect : (st : Station) (card : ℕ) (before field x y : List ℕ) (r q : Handed) → end_in before ≡ 0 ∷ [] → is_good field ≡ false
      → 3 + length_in field ≤ length field
      → HandsOver st card (before ++ (field ++ x)) r → HandsOver st card (before ++ (field ++ y)) q → r ≡ q
