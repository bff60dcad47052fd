-- Offering a string to a row: one relation between what was handed in, the answer and the row left behind (the paper, "Numbers that say no").
-- Assumes nothing.
use Rattle.std.specs.Prelude.{ℕ, Bool, true, false, not, ◌&&◌, List, [], ◌∷◌, ◌++◌, ◌≡◌, eqb, get_or, Result, Ok, Err}
use Rattle.channel.specs.declared.TakenString.{TakenString}
use Rattle.strings.specs.declared.Refusal.{Refusal}
use Rattle.strings.specs.Pick.{pick, is_one_of}
use Rattle.strings.specs.declared.Refusal.TheVariants.{Conflict}
use Rattle.strings.specs.declared.Verdict.{Verdict}
use Rattle.strings.specs.Number.{number_of}
use Rattle.strings.specs.Numbers.{refusal_paper, verdict_paper, Test, first_of, answer_of}
use Rattle.words.specs.Calls.{number_in}
use Rattle.relative.specs.declared.Polarity.{Polarity}
use Rattle.relative.specs.Polarity.{first_symbol, polarity_number}
use Rattle.hearing.specs.Hears.{whole_of, verdict_in, hear_tests}
use Rattle.channel.specs.declared.News.{News}
use Rattle.channel.specs.declared.News.TheVariants.{AlreadyHeld, Kept, RecordBuilt, RecordOutOfRange}
use Rattle.channel.specs.declared.Fate.{Fate}
use Rattle.channel.specs.declared.Fate.TheVariants.{Held as Here, New}
use Rattle.channel.specs.declared.Row.{Row}
use Rattle.channel.specs.declared.Offered.{Offered}
use Rattle.tallies.specs.declared.Tallies.{Tallies}
use Rattle.tallies.specs.Tallies.{Outcome, is_clean, is_repaired, causes, cause_of, one_more, one_more_if}
use Rattle.tallies.specs.Tallies.Outcome.{Refused as REFUSED, Taken as TAKEN}
use Rattle.channel.specs.Frame.{Frame, with_string, start_of, data_in, is_of_frame, is_here, place_tests, news_at, news_of}
use Rattle.immediate.specs.Kept.{record_by}
use Rattle.channel.specs.Row.{is_present, string_in, Held, frame_in, held_of, frame_of, stored, held_with, holding, is_built, counted}

-- ---- the answer in the paper's numbers
-- news: 0 already held, 1 kept, 2 record built, 3 record out of range
abbrev pub news_number : News → ℕ
news_number AlreadyHeld = 0
news_number Kept = 1
news_number RecordBuilt = 2
news_number RecordOutOfRange = 3

-- "A taken offer answers m, a verdict .. and news"
abbrev pub told_as : ℕ → Verdict → News → List ℕ
told_as m v w = m ∷ (verdict_paper v ++ (news_number w ∷ []))

-- 0 and what is told of a plain string that is taken; or the number that says no
abbrev pub placed_paper : Result (ℕ × Verdict × News) Refusal → List ℕ
placed_paper (Ok (m, v, w)) = 0 ∷ told_as m v w
placed_paper (Err r) = refusal_paper r

-- an offer's answer where the string is taken
abbrev pub took : ℕ → Verdict → News → Polarity → Result TakenString Refusal
took m v w p = Ok (record { m = m; verdict = v; news = w; polarity = p })

-- "The offer's taken answer carries it": the polarity of the symbols, 0 upright or 1 inverted, is told last
abbrev pub answer_paper : Result TakenString Refusal → List ℕ
answer_paper (Ok said) = 0 ∷ (told_as said.m said.verdict said.news ++ (polarity_number said.polarity ∷ []))
answer_paper (Err r) = refusal_paper r

-- the answer to a plain string, told with the polarity of the symbols that it was read from
abbrev pub told_with : Result (ℕ × Verdict × News) Refusal → Polarity → Result TakenString Refusal
told_with (Ok (m, v, w)) p = took m v w p
told_with (Err r) p = Err r

abbrev pub is_placed : Result (ℕ × Verdict × News) Refusal → Bool
is_placed (Ok (m, v, w)) = true
is_placed (Err r) = false

-- whether it is told that a record is built
abbrev pub tells_record : Result (ℕ × Verdict × News) Refusal → Bool
tells_record (Ok (m, v, w)) = is_built w
tells_record (Err r) = false

-- ---- the tests are tried in order; "offers refused with 2..9 add to the tallies offered and refused" and change nothing else
abbrev pub settled {ℓ} : {A : Type ℓ} → List Test → A → A → A
settled tests a taken = pick (eqb (first_of tests) 0) taken a

-- an offer to what is held that tries these tests in this order: its answer in the paper's numbers, and what is held after it, where a taken
-- string tells `told` and leaves `taken`
pub record Settles (tests : List Test) (told : List ℕ) (h taken : Held) (a : Result (ℕ × Verdict × News) Refusal) (h' : Held) : Type 0 where
  pub answer : placed_paper a ≡ answer_of tests told
  pub left : h' ≡ settled tests h taken

-- ---- a string that the check left, with its verdict, placed at an epoch
abbrev pub told_of : Frame → ℕ → ℕ → Verdict → List ℕ
told_of f epoch n v = told_as (number_in n) v (news_of f epoch n)

-- after these tests
abbrev pub PlacesBy : List Test → Held → ℕ → ℕ → Verdict → Result (ℕ × Verdict × News) Refusal → Held → Type 0
PlacesBy tests h epoch n v a h' = Settles tests (told_of (frame_in h) epoch n v) h (held_with h epoch n) a h'

-- 5 to 9
abbrev pub Places : Held → ℕ → ℕ → Verdict → Result (ℕ × Verdict × News) Refusal → Held → Type 0
Places h epoch n v a h' = PlacesBy (place_tests (frame_in h) epoch n) h epoch n v a h'

-- stored where it is new: the answer and what is held
pub record StoresIn (h : Held) (n : ℕ) (v : Verdict) (a : Result (ℕ × Verdict × News) Refusal) (h' : Held) : Type 0 where
  pub answer : a ≡ Ok (number_in n, v, news_at (with_string (frame_in h) n) (number_in n))
  pub left : h' ≡ stored h n

-- ---- the fate of such a string in numbers: the number that says no; 0 0, already held; 0 1, new, with the start of its frame and the mask that this has
abbrev pub fate_paper : Result Fate Refusal → List ℕ
fate_paper (Err r) = refusal_paper r
fate_paper (Ok Here) = 0 ∷ 0 ∷ []
fate_paper (Ok (New start mask)) = 0 ∷ 1 ∷ start ∷ mask ∷ []

abbrev pub fate_told : Held → ℕ → ℕ → List ℕ
fate_told h epoch n =
    pick (is_here (frame_in h) epoch n) (0 ∷ []) (1 ∷ start_of epoch n ∷ pick (is_of_frame (frame_in h) (start_of epoch n)) h.mask 0 ∷ [])

abbrev pub FateBy : List Test → Held → ℕ → ℕ → Result Fate Refusal → Type 0
FateBy tests h epoch n r = fate_paper r ≡ answer_of tests (fate_told h epoch n)

-- in the held frame, whose start is the string's
abbrev pub fate_within : Held → ℕ → Result Fate Refusal
fate_within h n =
    pick (is_present h.mask (number_in n))
    (pick (eqb (data_in (string_in h.bytes (number_in n))) (data_in n)) (Ok Here) (Err Conflict))
    (Ok (New h.start h.mask))

-- ---- an offer of bytes of any length: 2 to 4 by what is heard of them, then 5 to 9 of the string as the check leaves it
abbrev pub offer_tests : Frame → ℕ → List ℕ → List Test
offer_tests f epoch s = hear_tests s ++ place_tests f epoch (whole_of s)

-- what is said of its plain string, and what is held after it
abbrev pub OffersApart : Held → ℕ → List ℕ → Result (ℕ × Verdict × News) Refusal → Held → Type 0
OffersApart h epoch s a h' = PlacesBy (offer_tests (frame_in h) epoch s) h epoch (whole_of s) (verdict_in s) a h'

-- ---- the row that it leaves
-- a taken string: what is held, and the record by the news
unfoldable pub taken_row : Row → ℕ → ℕ → Row
taken_row row epoch n =
    let h = held_with (held_of row) epoch n in
    holding row h (record_by (is_built (news_of (frame_of row) epoch n)) h.start h.bytes row.immediate)

-- what becomes of it, as far as the tallies go
abbrev pub outcome_by : List Test → Verdict → Outcome
outcome_by tests v = pick (eqb (first_of tests) 0) (TAKEN v) (REFUSED (first_of tests))

abbrev pub offered_row : Row → ℕ → List ℕ → Row
offered_row row epoch s =
    counted (outcome_by (offer_tests (frame_of row) epoch s) (verdict_in s)) (settled (offer_tests (frame_of row) epoch s) row (taken_row row epoch (whole_of s)))

-- an offer: its answer in the paper's numbers, and the whole row that it leaves
pub record Leaves (said : List ℕ) (next : Row) (r : Offered) : Type 0 where
  pub answer : answer_paper r.answer ≡ said
  pub left : r.row ≡ next

-- what a taken offer tells: of the string that was heard, and last its first symbol
abbrev pub told_to : Frame → ℕ → List ℕ → List ℕ
told_to f epoch s = told_of f epoch (whole_of s) (verdict_in s) ++ (first_symbol (number_of s) ∷ [])

unfoldable pub Offers : Row → ℕ → List ℕ → Offered → Type 0
Offers row epoch s r = Leaves (answer_of (offer_tests (frame_of row) epoch s) (told_to (frame_of row) epoch s)) (offered_row row epoch s) r

-- what an answer counts as
abbrev pub outcome_of : Result TakenString Refusal → Outcome
outcome_of (Ok said) = TAKEN said.verdict
outcome_of (Err r) = REFUSED (get_or (refusal_paper r) 0 0)

-- ---- "a refused string changes nothing but its channel's tallies of strings offered and refused", and "its own cause's tally too": that of the number
-- which it was answered
abbrev pub is_taken : Result TakenString Refusal → Bool
is_taken (Ok said) = true
is_taken (Err r) = false

-- the number that an answer begins with: 0, or the one that says no
abbrev pub number_said : Result TakenString Refusal → ℕ
number_said a = get_or (answer_paper a) 0 0

pub record OnlyCounted (number : ℕ) (row row' : Row) : Type 0 where
  pub strings : row'.strings ≡ row.strings
  pub start : row'.start ≡ row.start
  pub present : row'.present ≡ row.present
  pub immediate : row'.immediate ≡ row.immediate
  pub offered : row'.tallies.offered ≡ one_more row.tallies.offered
  pub clean : row'.tallies.clean ≡ row.tallies.clean
  pub repaired : row'.tallies.repaired ≡ row.tallies.repaired
  pub refused : row'.tallies.refused ≡ one_more row.tallies.refused
  pub among : is_one_of causes number ≡ true
  pub cause : cause_of row'.tallies number ≡ one_more (cause_of row.tallies number)
  pub others : (k : ℕ) → is_one_of causes k ≡ true → (k ≡ number → ⊥) → cause_of row'.tallies k ≡ cause_of row.tallies k

-- ---- a taken one "adds to offered and to clean or repaired by the verdict", and to no cause
pub record TakenCounted (a : Result TakenString Refusal) (t t' : Tallies) : Type 0 where
  pub offered : t'.offered ≡ one_more t.offered
  pub clean : t'.clean ≡ one_more_if (is_clean (outcome_of a)) t.clean
  pub repaired : t'.repaired ≡ one_more_if (is_repaired (outcome_of a)) t.repaired
  pub refused : t'.refused ≡ t.refused
  pub causes_stay : t'.causes ≡ t.causes

-- ---- whether an offer stored a string: "one already held changes only tallies"
abbrev pub is_new : News → Bool
is_new AlreadyHeld = false
is_new Kept = true
is_new RecordBuilt = true
is_new RecordOutOfRange = true

abbrev pub is_stored : Result TakenString Refusal → Bool
is_stored (Ok said) = is_new said.news
is_stored (Err r) = false

-- so where it is taken, and its string was not held
abbrev pub stores_it : Frame → ℕ → List ℕ → Bool
stores_it f epoch s = eqb (first_of (offer_tests f epoch s)) 0 && not (is_here f epoch (whole_of s))
