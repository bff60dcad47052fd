-- What the calls on a lent station are, since `spineyarrow_fresh`. Where books are joined that other such lives have sent, they are a life (`sites`): so the book
-- after joins is as `EveryLife` says. Where none is joined they are a history (`station`), with these answers: so all that is demanded of histories holds of it.
-- Assumes nothing.
use Rattle.std.specs.Prelude.{ℕ, ◌≤◌, min, Bool, true, false, not, ◌&&◌, List, [], ◌∷◌, ◌++◌, map, ◌≡◌, eqb, ℤ, length}
use Rattle.fields.specs.Block.{Call as InField}
use Rattle.tallies.specs.Tallies.{causes, limit}
use Rattle.book.specs.Entry.{Three, even_words, odd_words}
use Rattle.book.specs.Book.{slots}
use Rattle.station.specs.declared.Station.{Station}
use Rattle.station.specs.Station.{fresh_station, is_served}
use Rattle.station.specs.Queries.{kept_at, health_by}
use Rattle.station.specs.History.{Call, Offer as MadeOffer, Reset as MadeReset, channel_of, station_of}
use Rattle.station.specs.Said.{Said, RunsFrom, calls_of as calls_in}
use Rattle.station.specs.Demand1.{WellMade}
use Rattle.station.specs.Demand2.{answers_since, says_no, says_number, says_clean, says_repaired, count, Tallied, Counted}
use Rattle.station.specs.Demand3.{Answered, Exchanged, BookRule}
use Rattle.station.specs.Summary.{SummaryRule}
use Rattle.station.specs.Health.{HealthIn}
use Rattle.sites.specs.Lives.{Life, Fresh as Begun, Then, Joined, ShownTo, GreatestTo}
use Rattle.blocks.specs.Taking.{calls_at}
use Rattle.blocks.specs.Histories.{made}
use Rattle.told.specs.Told.{packed}
use Rattle.lent_blocks.specs.Laws.{answers_read}
use Rattle.lent_queries.specs.Lent.{entry_list}
use Rattle.lent_sites.specs.Lent.{book_length}
use Rattle.lent_life.specs.Life.{Question, Book, LentCall, Fresh, Offer, Reset, Field, Join, Ask, Back, Nothing, Number, Numbers, Words, Started, Seen, seen, calls_of, LivesLent}

-- ---- a life
-- a field of a block is the offer or the reset that it holds, or no call
abbrev pub then_calls : ℕ → List InField → Life → Life
then_calls card [] l = l
then_calls card (call ∷ calls) l = then_calls card calls (Then (made card call) l)

-- the life that calls are since the latest `spineyarrow_fresh`, whatever the memory held before it: a call that only reads is none of it, and a join with the
-- bytes that another such life has sent is a join with that life
pub data IsLife : List Seen → Life → Type 0 where
  fresh : (back : Back) (before : List Seen) → IsLife (seen Fresh back ∷ before) Begun
  offer : (card c epoch : ℕ) (s : List ℕ) (back : Back) (before : List Seen) (l : Life) → IsLife before l
      → IsLife (seen (Offer card c epoch s) back ∷ before) (Then (MadeOffer card c epoch s) l)
  reset : (card c : ℕ) (back : Back) (before : List Seen) (l : Life) → IsLife before l → IsLife (seen (Reset card c) back ∷ before) (Then (MadeReset card c) l)
  field : (card : ℕ) (block : List ℕ) (at : ℕ) (back : Back) (before : List Seen) (l : Life) → IsLife before l
      → IsLife (seen (Field card block at) back ∷ before) (then_calls card (calls_at block at) l)
  ask : (q : Question) (back : Back) (before : List Seen) (l : Life) → IsLife before l → IsLife (seen (Ask q) back ∷ before) l
  join : (s : List ℕ) (back : Back) (before : List Seen) (l : Life) (from : Station) (other : List Seen) (m : Life) (out : List ℕ) (last : Station) → IsLife before l
      → IsLife other m → LivesLent from (seen (Ask (Book out)) (Numbers 0 s) ∷ other) last → IsLife (seen (Join s) back ∷ before) (Joined l m)
  no_book : (s : List ℕ) (back : Back) (before : List Seen) (l : Life) → (length s ≡ book_length → ⊥) → IsLife before l → IsLife (seen (Join s) back ∷ before) l

-- a life that is lived on lent memory, whatever that held: it can be, of every life
pub record LivedOn (from : Station) (l : Life) : Type 0 where
  pub all : List Seen
  pub is : IsLife all l
  pub st : Station
  pub lives : LivesLent from all st

-- what the host sees of a slot after a life: the words of the greatest entry that was shown in it or in one joined into it; or 13 NOTHING, and none was shown
abbrev pub words_of : Three → List ℤ
words_of t = entry_list t.day (even_words t) (odd_words t)

pub data SlotSeen (l : Life) (slot : ℕ) (out : List ℤ) : Back → Type 0 where
  greatest : (t : Three) → GreatestTo l slot t → SlotSeen l slot out (Words 0 (words_of t))
  empty : ((t : Three) → ShownTo l slot t → ⊥) → SlotSeen l slot out (Words 13 out)

-- ---- a history: the calls since the latest `spineyarrow_fresh`, the latest first
abbrev pub then_made : ℕ → List InField → List Call → List Call
then_made card [] before = before
then_made card (call ∷ calls) before = then_made card calls (made card call ∷ before)

abbrev pub made_by : LentCall → List Call → List Call
made_by Fresh before = []
made_by (Offer card c epoch s) before = MadeOffer card c epoch s ∷ before
made_by (Reset card c) before = MadeReset card c ∷ before
made_by (Field card block at) before = then_made card (calls_at block at) before
made_by (Join s) before = before
made_by (Ask q) before = before

abbrev pub history_in : List LentCall → List Call
history_in [] = []
history_in (call ∷ before) = made_by call (history_in before)

-- it was begun so, and no book was joined since: bytes of another number are none
abbrev pub alone_by : LentCall → Bool → Bool
alone_by Fresh before = true
alone_by (Offer card c epoch s) before = before
alone_by (Reset card c) before = before
alone_by (Field card block at) before = before
alone_by (Join s) before = not (eqb (length s) book_length) && before
alone_by (Ask q) before = before

abbrev pub is_alone : List LentCall → Bool
is_alone [] = false
is_alone (call ∷ before) = alone_by call (is_alone before)

-- ---- the numbers in which the host reads the answers of these calls, the latest first: of a field what stands above the lowest byte, where it holds a call
abbrev pub number_in : Back → ℕ
number_in Nothing = 0
number_in (Number r) = r
number_in (Numbers r out) = r
number_in (Words r out) = r
number_in (Started r words start) = r

abbrev pub read_by : LentCall → ℕ → List ℕ → List ℕ
read_by Fresh r before = []
read_by (Offer card c epoch s) r before = r ∷ before
read_by (Reset card c) r before = r ∷ before
read_by (Field card block at) r before = answers_read (r ∷ []) ++ before
read_by (Join s) r before = before
read_by (Ask q) r before = before

abbrev pub answers_seen : List Seen → List ℕ
answers_seen [] = []
answers_seen (x ∷ before) = read_by x.call (number_in x.back) (answers_seen before)

-- ---- what is demanded of histories, of these calls with these answers and the station that they left (the fields of `AllDemands` of the same names)
pub record Demanded (all : List Said) (st : Station) : Type 0 where
  pub one_station : st ≡ station_of (calls_in all)
  pub made : WellMade st
  pub answers : Answered (calls_in all) st
  pub tallies : (card c : ℕ) → is_served card c ≡ true → Tallied all st c
  pub counts : (card c : ℕ) → is_served card c ≡ true → Counted (calls_in all) st c
  pub exchange : (later earlier : List Said) (x y : Said) → all ≡ later ++ (x ∷ y ∷ earlier) → (channel_of x.call ≡ channel_of y.call → ⊥)
      → Exchanged later earlier x y st
  pub book : (slot : ℕ) → 1 ≤ slot → slot ≤ slots → BookRule (calls_in all) st slot
  pub summary : SummaryRule (calls_in all) st
  pub health : (card c : ℕ) → is_served card c ≡ true → HealthIn (calls_in all) c (health_by (kept_at st c) st.book)

-- the fourteen tallies of a channel as the answers say that were given: strings offered, clean, repaired and refused since its reset, and the refused by cause
abbrev pub true_counts : ℕ → List Said → List ℕ
true_counts c all =
    let given = answers_since c all in
    min limit (length given) ∷ min limit (count says_clean given) ∷ min limit (count says_repaired given) ∷ min limit (count says_no given)
    ∷ map (λ (k : ℕ). min limit (count (says_number k) given)) causes

-- an answer in one number
abbrev pub in_one : Said → ℕ
in_one x = packed x.answer

-- a lent life as a history: its calls, with the answers that the host read, packed, lead from a fresh station to this one
pub record AsHistory (all : List Seen) (st : Station) : Type 0 where
  pub history : List Said
  pub run : RunsFrom fresh_station history st
  pub its_calls : calls_in history ≡ history_in (calls_of all)
  pub its_answers : map in_one history ≡ answers_seen all
  pub demanded : Demanded history st
