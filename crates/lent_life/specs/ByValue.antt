-- The same calls on a station by value, and what a host would be told of them: an answer in the paper's numbers, packed; and where there is an output, ROOM
-- of it, which no call by value has, after the gate and SLOT and before NOTHING.
-- Assumes nothing.
use Rattle.std.specs.Prelude.{ℕ, Bool, List, [], ◌∷◌, ◌≡◌, eqb, ℤ, length, get_or, take, Result, Ok, Err}
use Rattle.navigation.specs.declared.Unwritten.{Unwritten}
use Rattle.station.specs.declared.Health.{Health as TheHealth}
use Rattle.summary.specs.declared.Summary.{Summary as TheSummary}
use Rattle.tallies.specs.declared.Tallies.{Tallies as TheTallies}
use Rattle.book.specs.declared.Entry.{Entry as TheEntry}
use Rattle.strings.specs.declared.Refusal.{Refusal}
use Rattle.records.specs.declared.named.ImmediateWords.{ImmediateWords}
use Rattle.strings.specs.Pick.{pick, is_one_of}
use Rattle.strings.specs.Calls.{written_paper}
use Rattle.channel.specs.Offers.{answer_paper}
use Rattle.wire.specs.Bytes.{book_bytes, book_from}
use Rattle.station.specs.declared.Station.{Station}
use Rattle.station.specs.declared.Stepped.{Stepped}
use Rattle.station.specs.declared.Emptied.{Emptied}
use Rattle.station.specs.Station.{fresh_station, OffersTo, Resets}
use Rattle.station.specs.Queries.{FindsRecord, record_paper, FindsEntry, entry_paper, FindsTallies, tallies_paper, all_counts, FindsSummary, summary_paper, summary_numbers, FindsHealth, health_paper}
use Rattle.sites.specs.Joining.{site_joined}
use Rattle.blocks.specs.declared.Taken.{Taken}
use Rattle.blocks.specs.Taking.{told_paper, Takes}
use Rattle.navigation.specs.Writes.{answer_paper as navigationPaper, Writes}
use Rattle.told.specs.Told.{packed}
use Rattle.lent_blocks.specs.Taking.{numbers_in}
use Rattle.lent_queries.specs.Lent.{entry_numbers, words_list}
use Rattle.lent_sites.specs.Lent.{book_length}
use Rattle.lent_life.specs.Life.{Question, Next, Summary, Health, Tallies, Immediate, Entry, Book, Navigation, LentCall, Fresh, Offer, Reset, Field, Join, Ask, Back, Nothing, Number, Numbers, Words, Started, Seen, Lives}

-- ---- an output: it has room where it has as many elements as are wanted
abbrev pub has_room : {X : Type 0} → ℕ → List X → Bool
has_room n out = eqb (length out) n

-- the number of an answer; and 12 ROOM where there is none, before 13 NOTHING and before 0
abbrev pub number_told : Bool → List ℕ → ℕ
number_told room answer = pick room (get_or answer 0 0) (pick (is_one_of (0 ∷ 13 ∷ []) (get_or answer 0 0)) 12 (get_or answer 0 0))

-- what is found, in the output; else it is as it was
abbrev pub summary_out : Result TheSummary Refusal → List ℕ → List ℕ
summary_out (Ok s) out = summary_numbers s
summary_out (Err why) out = out

abbrev pub tallies_out : Result TheTallies Refusal → List ℕ → List ℕ
tallies_out (Ok t) out = all_counts t
tallies_out (Err why) out = out

abbrev pub entry_out : Result TheEntry Refusal → List ℤ → List ℤ
entry_out (Ok e) out = entry_numbers e
entry_out (Err why) out = out

abbrev pub words_out : Result (ImmediateWords × ℕ) Refusal → List ℤ → List ℤ
words_out (Ok (w, start)) words = words_list w
words_out (Err why) words = words

abbrev pub start_out : Result (ImmediateWords × ℕ) Refusal → ℕ → ℕ
start_out (Ok (w, start)) was = start
start_out (Err why) was = was

-- ---- what the host is told of each answer
abbrev pub summary_back : Result TheSummary Refusal → List ℕ → Back
summary_back x out = let room = has_room 3 out in Numbers (number_told room (summary_paper x)) (pick room (summary_out x out) out)

abbrev pub tallies_back : Result TheTallies Refusal → List ℕ → Back
tallies_back x out = let room = has_room 14 out in Numbers (number_told room (tallies_paper x)) (pick room (tallies_out x out) out)

abbrev pub entry_back : Result TheEntry Refusal → List ℤ → Back
entry_back x out = let room = has_room 13 out in Words (number_told room (entry_paper x)) (pick room (entry_out x out) out)

abbrev pub record_back : Result (ImmediateWords × ℕ) Refusal → List ℤ → ℕ → Back
record_back x words start =
    let room = has_room 26 words in
    Started (number_told room (record_paper x)) (pick room (words_out x words) words) (pick room (start_out x start) start)

abbrev pub health_back : Result TheHealth Refusal → Back
health_back x = Number (packed (health_paper x))

abbrev pub field_back : Taken → Back
field_back r = Number (packed (numbers_in (told_paper r.told)))

-- a navigation record: n, and the text, whose epoch is not told a second time. Its own 17 LINES, after all else, is of an output that has no room
abbrev pub navigation_back : Result (ℕ × ℕ) Unwritten → List ℕ → Back
navigation_back x out = Numbers (packed (take 2 (navigationPaper x))) out

-- ---- the calls that only read
pub data TellsByValue : Station → Question → Back → Type 0 where
  next : (st : Station) (card : ℕ) (block : List ℕ) (at : ℕ) (r : Taken) → Takes st card block at r → TellsByValue st (Next block at) (Number r.after)
  summary : (st : Station) (card : ℕ) (out : List ℕ) (x : Result TheSummary Refusal) → FindsSummary st card x → TellsByValue st (Summary card out) (summary_back x out)
  health : (st : Station) (card c : ℕ) (x : Result TheHealth Refusal) → FindsHealth st card c x → TellsByValue st (Health card c) (health_back x)
  tallies : (st : Station) (card c : ℕ) (out : List ℕ) (x : Result TheTallies Refusal) → FindsTallies st card c x → TellsByValue st (Tallies card c out) (tallies_back x out)
  immediate : (st : Station) (card c : ℕ) (words : List ℤ) (start : ℕ) (x : Result (ImmediateWords × ℕ) Refusal) → FindsRecord st card c x
      → TellsByValue st (Immediate card c words start) (record_back x words start)
  entry : (st : Station) (card k : ℕ) (out : List ℤ) (x : Result TheEntry Refusal) → FindsEntry st card k x → TellsByValue st (Entry card k out) (entry_back x out)
  book : (st : Station) (out : List ℕ) → length out ≡ book_length → TellsByValue st (Book out) (Numbers 0 (book_bytes st.book))
  no_room_lem : (st : Station) (out : List ℕ) → (length out ≡ book_length → ⊥) → TellsByValue st (Book out) (Numbers 12 out)
  navigation : (st : Station) (card c : ℕ) (out : List ℕ) (x : Result (ℕ × ℕ) Unwritten) (out' : List ℕ) → Writes st card c out x out'
      → TellsByValue st (Navigation card c out) (navigation_back x out')

-- ---- all of them
pub data DoesByValue : Station → LentCall → Back → Station → Type 0 where
  fresh : (st : Station) → DoesByValue st Fresh Nothing fresh_station
  offer : (st : Station) (card c epoch : ℕ) (s : List ℕ) (r : Stepped) → OffersTo st card c epoch s r
      → DoesByValue st (Offer card c epoch s) (Number (packed (answer_paper r.answer))) r.station
  reset : (st : Station) (card c : ℕ) (r : Emptied) → Resets st card c r → DoesByValue st (Reset card c) (Number (packed (written_paper r.answer))) r.station
  field : (st : Station) (card : ℕ) (block : List ℕ) (at : ℕ) (r : Taken) → Takes st card block at r → DoesByValue st (Field card block at) (field_back r) r.station
  join : (st : Station) (s : List ℕ) → length s ≡ book_length → DoesByValue st (Join s) (Number 0) (site_joined st (book_from s))
  no_book : (st : Station) (s : List ℕ) → (length s ≡ book_length → ⊥) → DoesByValue st (Join s) (Number 2) st
  ask : (st : Station) (q : Question) (back : Back) → TellsByValue st q back → DoesByValue st (Ask q) back st

-- A LIFE BY VALUE
abbrev pub LivesByValue : Station → List Seen → Station → Type 0
LivesByValue from all st = Lives DoesByValue from all st
