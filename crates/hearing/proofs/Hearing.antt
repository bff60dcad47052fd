-- What is heard of an offer's bytes: SHAPE as the relative code says, then DAMAGED and IDLE as the check says.
-- Assumes nothing.
use mathlib.Core.Path.{◌≡◌, refl, sym, ap, subst, ◌∙◌}
use mathlib.Core.Bool.{Bool, true, false, true≢false}
use mathlib.Core.List.{List, [], ◌∷◌, ◌++◌}
use Prim.Native.Nat.{ℕ, zero, suc, ◌^◌, ◌<◌}
use native.Mathlib.Omega.{arith}
use lib.Dec.{eqb, lit<}
use lib.ListN.{length}
use borrow.Author.Tests.{eq-eqb, ne_eqb}
use Rattle.strings.specs.declared.Refusal.{Refusal}
use Rattle.strings.specs.declared.hamming.Damage.{Damage}
use Rattle.std.specs.Prelude.{Result, Ok, Err}
use Rattle.strings.specs.declared.Verdict.{Verdict}
use Rattle.strings.specs.Number.{number_of, misshapen, bytes_of_string}
use Rattle.strings.specs.Hamming.{ruling, is_damaged}
use Rattle.strings.specs.Numbers.{refusal_paper, verdict_paper, Test, test, first_of, place_of, said_by, answer_of, Answers}
use Rattle.strings.specs.Calls.{Checks, verdict_told, sound_tests}
use Rattle.relative.specs.declared.Polarity.{Polarity}
use Rattle.relative.specs.Polarity.{first_symbol, polarity_number}
use Rattle.relative.specs.Calls.{decoded_paper, ReadsRelative}
use Rattle.strings.proofs.Answer.{verdict_same, first_given, taken_made, not_taken}
use Rattle.strings.proofs.Below.{unfit}
use Rattle.strings.proofs.Tests.{past_first}
use Rattle.strings.proofs.SoundTests.{IsSound, sound_alone, sound_first, sound_then}
use Rattle.strings.proofs.Judge.{mended_lt}
use Rattle.relative.proofs.RelativeCode.{read_lt, reads_exactly}
use Rattle.strings.proofs.Shape.{has_room_lem, string_shaped}
use Rattle.strings.proofs.Value.{string_number_lem}
use Rattle.hearing.specs.Hears.{verdict_of, plain_of, whole_of, verdict_in, hear_tests, Hears}

-- ---- what the relative code says of any bytes
module _ (s plain plain' : List ℕ) (c : Result Polarity Refusal) (room : length plain ≡ 11) (a : ReadsRelative s plain c plain') (out : List ℕ) where
  -- it refuses, and nothing is written
  pub hears_no : (q : Refusal) → c ≡ Err q → Hears s out (Err q) out
  unfolding Hears ReadsRelative
  hears_no q e = by (misshapen s) (rw (has_room_lem plain room) at (ap decoded_paper (sym e) ∙ a.answer))
    where
      by : (b : Bool) → refusal_paper q ≡ answer_of (test 2 b ∷ []) (first_symbol (number_of s) ∷ [])
          → Answers (test 2 b ∷ sound_tests (plain_of s)) (verdict_told (ruling (plain_of s))) (bytes_of_string (whole_of s)) out (refusal_paper q) out
      by true e = record { answer = e; output = refl }
      by false e = absurd (not_taken q _ e)

  -- it reads the plain string, whichever way up it came: what the check says of that is heard
  pub hears_on : (p : Polarity) → c ≡ Ok p → (x : Result Verdict Refusal) (out' : List ℕ) → length out ≡ 11 → Checks plain' out x out' → Hears s out x out'
  unfolding Hears Checks ReadsRelative
  hears_on p e x out' room' b =
      let done : ReadsRelative s plain (Ok p) plain' = subst (λ (y : Result Polarity Refusal). ReadsRelative s plain y plain') e a in
      let is : plain' ≡ bytes_of_string (plain_of s) = taken_made (polarity_number p ∷ []) done in
      let small : plain_of s < 2 ^ 85 = omega (arith, read_lt (number_of s)) in
      let shape : misshapen plain' ≡ false = ap misshapen is ∙ string_shaped (plain_of s) small in
      let number : number_of plain' ≡ plain_of s = ap number_of is ∙ string_number_lem (plain_of s) small in
      let clear : misshapen s ≡ false = unfit (misshapen s) ((reads_exactly s plain (Ok p) plain' done).taken.0 refl 1 (lit< tt)) in
      record {
        answer = rw clear (rw (has_room_lem out room', shape, number) at b.answer);
        output = rw clear (rw (has_room_lem out room', shape, number) at b.output);
      }

-- ---- what is refused
-- one of the three tests fits
pub heard_not : (s out out' : List ℕ) (q : Refusal) → Hears s out (Err q) out' → eqb (first_of (hear_tests s)) 0 ≡ false
unfolding Hears
heard_not s out out' q a = by (first_of (hear_tests s)) a.answer
  where
    by : (k : ℕ) → refusal_paper q ≡ said_by k (place_of (hear_tests s)) (verdict_told (ruling (plain_of s))) → eqb k 0 ≡ false
    by zero e = absurd (not_taken q _ e)
    by (suc k) e = ne_eqb (suc k) 0 (λ z. omega arith)

-- ---- what is heard is taken
pub whole_lt : (s : List ℕ) → whole_of s < 2 ^ 85
whole_lt s = mended_lt (plain_of s) (omega (arith, read_lt (number_of s)))

verdict_is : (x : Result Verdict Damage) (v : Verdict) → is_damaged x ≡ false → verdict_paper v ≡ verdict_told x → v ≡ verdict_of x
verdict_is (Ok w) v d e = verdict_same v w e
verdict_is (Err y) v d e = absurd (true≢false d)

-- the list without its first number
rest : List ℕ → List ℕ
rest [] = []
rest (x ∷ l) = l

module _ (s out out' : List ℕ) (v : Verdict) (a : Hears s out (Ok v) out') where
  none : first_of (hear_tests s) ≡ 0
  unfolding Hears
  none = first_given (hear_tests s) (verdict_told (ruling (plain_of s))) a.answer

  pub none_fits_lem : (misshapen s ≡ false) × IsSound (plain_of s)
  none_fits_lem = let p = past_first 1 (misshapen s) (sound_tests (plain_of s)) none in (p.0, sound_alone (plain_of s) p.1)

  pub heard_clear : eqb (first_of (hear_tests s)) 0 ≡ true
  heard_clear = eq-eqb (first_of (hear_tests s)) 0 none

  pub heard_bytes : out' ≡ bytes_of_string (whole_of s)
  unfolding Hears
  heard_bytes = taken_made (verdict_paper v) a

  pub heard_number : number_of out' ≡ whole_of s
  heard_number = ap number_of heard_bytes ∙ string_number_lem (whole_of s) (whole_lt s)

  pub heard_shape : misshapen out' ≡ false
  heard_shape = ap misshapen heard_bytes ∙ string_shaped (whole_of s) (whole_lt s)

  pub heard_verdict : v ≡ verdict_in s
  unfolding Hears rest
  heard_verdict =
      let x = ruling (plain_of s) in
      verdict_is x v none_fits_lem.1.sound (ap rest (a.answer ∙ ap (λ (k : ℕ). said_by k (place_of (hear_tests s)) (verdict_told x)) none))

-- ---- other tests after these
module _ (s : List ℕ) (ts : List Test) where
  -- none fits
  pub heard_first : first_of (hear_tests s ++ ts) ≡ 0 → (misshapen s ≡ false) × (IsSound (plain_of s) × (first_of ts ≡ 0))
  heard_first e = let p = past_first 1 (misshapen s) (sound_tests (plain_of s) ++ ts) e in (p.0, sound_first (plain_of s) ts p.1)

  -- these do not fit: the others decide
  pub heard_then : misshapen s ≡ false → IsSound (plain_of s) → (first_of (hear_tests s ++ ts) ≡ first_of ts) × (place_of (hear_tests s ++ ts) ≡ place_of ts)
  heard_then e i = let p = sound_then (plain_of s) i ts in (rw e p.0, rw e p.1)
