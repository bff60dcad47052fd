-- What a row and an entry tell: where one of them has nothing (put-missing), and from what `write_all` answers (put_written), of whose numbers the first two are
-- told (two-told); a row's words are as their bits give them (row_read).
-- Assumes nothing.
use Prim.Native.Nat.{ℕ, zero, suc, ◌*◌}
use native.Mathlib.Nat.{suc-ne-zero}
use native.Mathlib.Omega.{arith}
use mathlib.Core.Bool.{Bool, true, false, ◌&&◌}
use mathlib.Core.List.{List, [], ◌∷◌}
use mathlib.Core.Path.{◌≡◌, refl, sym, ap, subst, ◌∙◌}
use borrow.Author.Tests.{ne_eqb}
use lib.Dec.{T, eqb}
use lib.ListN.{length, take}
use Rattle.strings.specs.Pick.{pick}
use Rattle.navigation.specs.declared.Unwritten.{Unwritten}
use Rattle.std.specs.Prelude.{Result, Ok}
use Rattle.strings.specs.declared.Refusal.{Refusal}
use Rattle.strings.specs.declared.Refusal.TheVariants.{Channel, Shape, Damaged, Idle, Number, Early, Stale, OffBeat, Conflict, Range, Place, Room, Nothing, Slot, Owner, Card}
use Rattle.strings.specs.Numbers.{refusal_paper, Test, first_of, place_of, said_by, answer_of, left_by}
use Rattle.strings.proofs.Below.{and_left, and_right, both}
use Rattle.book.specs.declared.Entry.{Entry}
use Rattle.book.specs.Book.{empty_book}
use Rattle.book.specs.Entry.{meaning, odd_words}
use Rattle.immediate.specs.Kept.{has_record}
use Rattle.summary.specs.Walk.{none_filled}
use Rattle.channel.specs.declared.Row.{Row}
use Rattle.channel.specs.Row.{is_present, still_holds}
use Rattle.station.specs.declared.Station.{Station}
use Rattle.navigation_queries.specs.Five.{has_five, five_of}
use Rattle.navigation_queries.proofs.Five.{text_there}
use Rattle.navigation.specs.Writes.{answer_paper}
use Rattle.navigation.specs.Gathers.{all_tests, WritesAll, AsRead}
use Rattle.navigation.proofs.Read.{as_read}
use Rattle.told.specs.Told.{packed}
use Rattle.lent_navigation.specs.Lent.{words_in, n4_in, is_there_in, PutsNavigation}

-- ---- the first two numbers
-- each test tells one place at most, and so does the answer
abbrev is_short : List ℕ → Bool
is_short [] = true
is_short (x ∷ []) = true
is_short (x ∷ y ∷ l) = false

abbrev pub short_places : List Test → Bool
short_places [] = true
short_places (t ∷ ts) = is_short t.place && short_places ts

one_place : (l : List ℕ) → T (is_short l) → take 1 l ≡ l
one_place [] t = refl
one_place (x ∷ []) t = refl
one_place (x ∷ y ∷ l) t = absurd t

short_place : (ts : List Test) → T (short_places ts) → take 1 (place_of ts) ≡ place_of ts
short_place [] a = refl
short_place (t ∷ ts) a =
    by t.fits t.place (place_of ts) (one_place t.place (and_left (is_short t.place) (short_places ts) a)) (short_place ts (and_right (is_short t.place) (short_places ts) a))
  where
    by : (b : Bool) (p q : List ℕ) → take 1 p ≡ p → take 1 q ≡ q → take 1 (pick b p q) ≡ pick b p q
    by true p q e f = e
    by false p q e f = f

pub two_told : (ts : List Test) (n quarter : ℕ) → T (short_places ts) → take 2 (answer_of ts (n ∷ quarter ∷ [])) ≡ answer_of ts (n ∷ [])
two_told ts n quarter s = by (first_of ts) (place_of ts) (short_place ts s)
  where
    by : (k : ℕ) (p : List ℕ) → take 1 p ≡ p → take 2 (said_by k p (n ∷ quarter ∷ [])) ≡ said_by k p (n ∷ [])
    by zero p e = refl
    by (suc k) p e = ap (λ (l : List ℕ). suc k ∷ l) e

-- of a record, and of a refusal
pub written_two : (n quarter : ℕ) → 256 * n ≡ packed (take 2 (answer_paper (Ok (n, quarter))))
written_two n quarter = omega arith

pub refusal_two : (why : Refusal) → take 2 (refusal_paper why) ≡ refusal_paper why
refusal_two Channel = refl
refusal_two Shape = refl
refusal_two (Damaged d) = refl
refusal_two Idle = refl
refusal_two Number = refl
refusal_two Early = refl
refusal_two Stale = refl
refusal_two OffBeat = refl
refusal_two Conflict = refl
refusal_two (Range place) = refl
refusal_two Place = refl
refusal_two Room = refl
refusal_two Nothing = refl
refusal_two Slot = refl
refusal_two Owner = refl
refusal_two Card = refl

-- what is left, by the number
pub left_is : (k : ℕ) (made out : List ℕ) → left_by k made out ≡ pick (eqb k 0) made out
left_is zero made out = refl
left_is (suc k) made out = ap (λ (t : Bool). pick t made out) (sym (ne_eqb (suc k) 0 (λ z. suc-ne-zero k z)))

-- ---- by a row and an entry
module _ (row : Row) (e : Entry) (out : List ℕ) where
  pub put_missing : is_there_in row e ≡ false → PutsNavigation row e out out 13
  put_missing q = record { answer = rw q; output = rw q }

  pub put_written : (a : Result (ℕ × ℕ) Unwritten) (out' : List ℕ) (r : ℕ) → is_there_in row e ≡ true → WritesAll (words_in row) (n4_in row) (odd_words (meaning e)).h out a out'
      → r ≡ packed (take 2 (answer_paper a)) → PutsNavigation row e out out' r
  unfolding WritesAll
  put_written a out' r q g t =
      let rest = all_tests (words_in row) (n4_in row) (length out) in
      record {
        answer = t ∙ ap (λ (l : List ℕ). packed (take 2 l)) g.answer ∙ ap packed (two_told rest _ _ tt) ∙ rw q;
        output = g.output ∙ left_is (first_of rest) _ out ∙ rw q;
      }

-- ---- a row that has string 5 has a record, whose words are as its bits give them
has_both_lem : (row : Row) → has_five row ≡ true → has_record row.immediate ≡ true
unfolding has_five
has_both_lem row h = (both (has_record row.immediate) _ (both (still_holds row) (is_present row.present 5) h).0).0

pub row_read : (row : Row) → has_five row ≡ true → AsRead (words_in row) (n4_in row)
row_read row h =
    let st : Station = record { rows = row ∷ []; book = empty_book; summary = none_filled } in
    subst (λ (n : ℕ). AsRead (words_in row) (five_of n).n4) (text_there row h) (as_read st 0 (has_both_lem row h))
