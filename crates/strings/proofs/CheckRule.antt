-- What the public check answers and writes, over its answers and bytes: for an encoded string, for the same with one or two bits flipped, and for
-- what it has written itself. That no second answer fits; that each number is given exactly where it belongs.
-- Assumes nothing.
use mathlib.Core.Path.{◌≡◌, ◌∙◌, sym, ap, subst}
use mathlib.Core.Bool.{false}
use mathlib.Core.List.{List, [], ◌∷◌}
use Prim.Native.Nat.{ℕ, ◌^◌, ◌≤◌, ◌<◌}
use native.Mathlib.Omega.{arith}
use borrow.Author.Tests.{eq-eqb, eqb-false}
use lib.Dec.{eqb}
use lib.ListN.{length, drop}
use Rattle.strings.specs.declared.Refusal.{Refusal}
use Rattle.std.specs.Prelude.{Result, Ok, Err}
use Rattle.strings.specs.declared.Refusal.TheVariants.{Damaged as DAMAGED, Idle}
use Rattle.strings.specs.declared.Verdict.{Verdict}
use Rattle.strings.specs.declared.Verdict.TheVariants.{Clean, Repaired}
use Rattle.strings.specs.declared.hamming.Damage.{Damage}
use Rattle.strings.specs.declared.hamming.Damage.TheVariants.{Unplaced, Even}
use Rattle.strings.specs.Number.{Bytes, number_of, misshapen, bit_of, flip, bytes_of_string}
use Rattle.strings.specs.Hamming.{ruling, mended, mended_by, Encoded, Whole}
use Rattle.strings.specs.Numbers.{verdict_paper, first_of, Exactly}
use Rattle.strings.specs.Calls.{Checks, sound_tests, check_tests, checked_paper, verdict_told, no_room, is_idle}
use Rattle.strings.proofs.Digits.{bit_lt, flip_lt, flip_undo}
use Rattle.strings.proofs.Value.{number_lt, string_number_lem}
use Rattle.strings.proofs.Shape.{shaped, string_shaped}
use Rattle.strings.proofs.Answer.{same_answer, checked_same, exactly, first_given, taken_made, refused_left}
use Rattle.strings.proofs.Tests.{past_first}
use Rattle.strings.proofs.SoundTests.{IsSound, sound_alone}
use Rattle.strings.proofs.CheckAnswers.{check_damaged, check_idle, check_taken}
use Rattle.strings.proofs.Judge.{mended_lt}
use Rattle.strings.proofs.Flips.{encoded_ruling, one_flip_ruling, bit_8_ruling, two_flips_ruling, left_encoded}

-- ---- no second answer fits, and each number exactly where its test fits and none before it does
module _ (s out : List ℕ) where
  pub check_once : (r q : Result Verdict Refusal) (out' out'' : List ℕ) → Checks s out r out' → Checks s out q out'' → (r ≡ q) × (out' ≡ out'')
  unfolding Checks
  check_once r q out' out'' a b = let e = same_answer a b in (checked_same r q e.0, e.1)

  -- where no test fits, the bytes have the shape of a string, which is neither damaged nor idle
  pub check_first : first_of (check_tests s out) ≡ 0 → (misshapen s ≡ false) × IsSound (number_of s)
  check_first e =
      let p = past_first 11 (no_room out) (drop 1 (check_tests s out)) e in
      let q = past_first 1 (misshapen s) (drop 2 (check_tests s out)) p.1 in
      (q.0, sound_alone (number_of s) q.1)

  pub check_took : (v : Verdict) (out' : List ℕ) → Checks s out (Ok v) out' → (misshapen s ≡ false) × IsSound (number_of s)
  unfolding Checks
  check_took v out' a = check_first (first_given (check_tests s out) (verdict_told (ruling (number_of s))) a.answer)

  -- "Refusals leave outputs untouched"
  pub check_untouched : (q : Refusal) (out' : List ℕ) → Checks s out (Err q) out' → out' ≡ out
  unfolding Checks
  check_untouched q out' a = refused_left q a

  pub check_numbers : (r : Result Verdict Refusal) (out' : List ℕ) → Checks s out r out' → Exactly (check_tests s out) (checked_paper r)
  unfolding Checks sound_tests
  check_numbers r out' a = exactly tt a

-- ---- the answer for the bytes of a string, by its ruling and its idle bit
module _ (n : ℕ) (h : n < 2 ^ 85) (out : List ℕ) (room : length out ≡ 11) where
  says_damaged : (d : Damage) → ruling n ≡ Err d → Checks (bytes_of_string n) out (Err (DAMAGED d)) out
  says_damaged d e = check_damaged _ out room (string_shaped n h) d (ap ruling (string_number_lem n h) ∙ e)

  module _ (v : Verdict) (e : ruling n ≡ Ok v) where
    ruled : ruling (number_of (bytes_of_string n)) ≡ Ok v
    ruled = ap ruling (string_number_lem n h) ∙ e

    left : mended_by (Ok v) (number_of (bytes_of_string n)) ≡ mended_by (Ok v) n
    left = ap (mended_by (Ok v)) (string_number_lem n h)

    says-idle : bit_of (mended_by (Ok v) n) 85 ≡ 1 → Checks (bytes_of_string n) out (Err Idle) out
    says-idle b = check_idle _ out room (string_shaped n h) v ruled (eq-eqb _ _ (ap (λ (m : ℕ). bit_of m 85) left ∙ b))

    says-taken : bit_of (mended_by (Ok v) n) 85 ≡ 0 → Checks (bytes_of_string n) out (Ok v) (bytes_of_string (mended_by (Ok v) n))
    says-taken b =
        subst (λ (m : ℕ). Checks (bytes_of_string n) out (Ok v) (bytes_of_string m)) left
        (check_taken _ out room (string_shaped n h) v ruled (ap (λ (m : ℕ). is_idle m) left ∙ ap (λ (b : ℕ). eqb b 1) b))

-- ---- "So from an encoded string one flip is repaired unless it is bit 8, and every two flips are DAMAGED"
module _ (n : ℕ) (h : n < 2 ^ 85) (v : Encoded n) (out : List ℕ) (room : length out ≡ 11) (r : Result Verdict Refusal) (out' : List ℕ) where
  -- an encoded string whose idle bit is 0 is clean, and is written as it came
  pub encoded_clean : bit_of n 85 ≡ 0 → Checks (bytes_of_string n) out r out' → (r ≡ Ok Clean) × (out' ≡ bytes_of_string n)
  encoded_clean b a = check_once _ out r _ out' _ a (says-taken n h out room Clean (encoded_ruling n v) b)

  -- one whose idle bit is 1 is refused, and nothing is written
  pub idle_refused : bit_of n 85 ≡ 1 → Checks (bytes_of_string n) out r out' → (r ≡ Err Idle) × (out' ≡ out)
  idle_refused b a = check_once _ out r _ out' _ a (says-idle n h out room Clean (encoded_ruling n v) b)

  -- "By the last line a flip of bit 8 alone is refused": 31, and nothing is written
  pub bit_8_damaged : Checks (bytes_of_string (flip n 8)) out r out' → (checked_paper r ≡ 31 ∷ []) × (out' ≡ out)
  bit_8_damaged a =
      let e =
      check_once _ out r _ out' _ a (says_damaged (flip n 8) (flip_lt 85 n 8 h (omega arith) (omega arith)) out room Unplaced (bit_8_ruling n v))
      in
      (ap checked_paper e.0, e.1)

  module _ (i : ℕ) (l : 1 ≤ i) (u : i ≤ 85) where
    back : flip (flip n i) i ≡ n
    back = flip_undo 85 n i h l u

    -- one flip of any bit but 8 is repaired, its number is told, and the string is written as it was sent
    pub one_flip_repaired : (i ≡ 8 → ⊥) → bit_of n 85 ≡ 0 → Checks (bytes_of_string (flip n i)) out r out' → (r ≡ Ok (Repaired i)) × (out' ≡ bytes_of_string n)
    one_flip_repaired ne b a =
        let m = flip n i in
        let e = check_once _ out r _ out' _ a
        (says-taken m (flip_lt 85 n i h l u) out room (Repaired i) (one_flip_ruling n i v l u ne) (ap (λ (m : ℕ). bit_of m 85) back ∙ b)) in
        (e.0, e.1 ∙ ap bytes_of_string back)

    -- where the idle bit was sent as 1 it is refused: the repair leaves, or sets, that bit at 1
    pub one_flip_idle : (i ≡ 8 → ⊥) → bit_of n 85 ≡ 1 → Checks (bytes_of_string (flip n i)) out r out' → (r ≡ Err Idle) × (out' ≡ out)
    one_flip_idle ne b a =
        check_once _ out r _ out' _ a
        (says-idle (flip n i) (flip_lt 85 n i h l u) out room (Repaired i) (one_flip_ruling n i v l u ne) (ap (λ (m : ℕ). bit_of m 85) back ∙ b))

    -- two different flips are DAMAGED: 32, and nothing is written
    pub two_flips_damaged : (j : ℕ) → 1 ≤ j → j ≤ 85 → (i ≡ j → ⊥) → Checks (bytes_of_string (flip (flip n i) j)) out r out'
        → (checked_paper r ≡ 32 ∷ []) × (out' ≡ out)
    two_flips_damaged j l' u' ne a =
        let m = flip (flip n i) j in
        let e =
        check_once _ out r _ out' _ a
        (says_damaged m (flip_lt 85 (flip n i) j (flip_lt 85 n i h l u) l' u') out room Even (two_flips_ruling n i j v l u l' u' ne))
        in
        (ap checked_paper e.0, e.1)

-- ---- whatever the check writes is encoded and has its idle bit at 0; and checking it again is clean
module _ (s : List ℕ) (b : Bytes s) (out : List ℕ) (v : Verdict) (out' : List ℕ) (a : Checks s out (Ok v) out') where
  pub written_whole : Whole out'
  unfolding Checks
  written_whole =
      let n = number_of s in
      let c = check_took s out v out' a in
      let len = (shaped s c.0).0 in
      record {
        number = mended n;
        small = mended_lt n (number_lt s b len);
        bytes = taken_made (verdict_paper v) a;
        encoded = left_encoded n c.1.sound;
        idle = omega (arith, bit_lt (mended n) 85, eqb-false (bit_of (mended n) 85) 1 c.1.idle);
      }

  pub checked_again : (again : List ℕ) (q : Result Verdict Refusal) (again' : List ℕ) → length again ≡ 11 → Checks out' again q again' → (q ≡ Ok Clean) × (again' ≡ out')
  checked_again again q again' room c =
      let w = written_whole in
      let e = encoded_clean w.number w.small w.encoded again room q again' w.idle (subst (λ (l : List ℕ). Checks l again q again') w.bytes c) in
      (e.0, e.1 ∙ sym w.bytes)
