-- 31, 32 and 33 are told of the strings that the check rule calls damaged, each of its own, and of no other (damaged-exactly): computed at the 256 pairs
-- of S and C.
-- Assumes nothing.
use mathlib.Core.Path.{◌≡◌, subst}
use mathlib.Core.Bool.{Bool, ◌&&◌}
use Prim.Native.Nat.{ℕ}
use lib.Dec.{T, eqb, eqb→eq}
use Rattle.strings.specs.Pick.{pick}
use Rattle.strings.specs.declared.hamming.Damage.{Damage}
use Rattle.strings.specs.declared.Verdict.{Verdict}
use Rattle.std.specs.Prelude.{Result, Ok, Err}
use Rattle.strings.specs.Hamming.{sum_all, syndrome, sums_set, highest, placed, judge, ruling, is_damaged}
use Rattle.strings.specs.Numbers.{damage_number, first_of}
use Rattle.strings.specs.Calls.{damage_tests}
use Rattle.strings.specs.Damage.{fitting, DamagedExactly}
use Rattle.strings.proofs.Below.{and_left, and_right, below, below_at}
use Rattle.strings.proofs.Sums.{syndrome_lt, sum_all_lt}

abbrev cause_test : ℕ → ℕ → Result Verdict Damage → Bool
cause_test s c (Ok v) = eqb (fitting (damage_tests s c)) 0
cause_test s c (Err d) = eqb (fitting (damage_tests s c)) 1 && eqb (first_of (damage_tests s c)) (damage_number d)

causes : T (below 2 (λ c. below 128 (λ s. cause_test s c (judge s c))))
unfolding judge placed highest sums_set
causes = tt

at_sums : (n : ℕ) → T (cause_test (syndrome n) (sum_all n) (ruling n))
unfolding ruling
at_sums n =
    below_at 128 (λ s. cause_test s (sum_all n) (judge s (sum_all n)))
    (below_at 2 (λ c. below 128 (λ s. cause_test s c (judge s c))) causes (sum_all n) (sum_all_lt n)) (syndrome n) (syndrome_lt n)

module _ (s c : ℕ) where
  one_fits : (r : Result Verdict Damage) → T (cause_test s c r) → fitting (damage_tests s c) ≡ pick (is_damaged r) 1 0
  one_fits (Ok v) t = eqb→eq (fitting (damage_tests s c)) 0 t
  one_fits (Err d) t = eqb→eq (fitting (damage_tests s c)) 1 (and_left (eqb (fitting (damage_tests s c)) 1) (eqb (first_of (damage_tests s c)) (damage_number d)) t)

pub damaged_exactly : (n : ℕ) → DamagedExactly n
damaged_exactly n =
    let ts = damage_tests (syndrome n) (sum_all n) in
    record {
      one = one_fits (syndrome n) (sum_all n) (ruling n) (at_sums n);
      cause = λ d e.
          eqb→eq (first_of ts) (damage_number d)
          (and_right (eqb (fitting ts) 1) (eqb (first_of ts) (damage_number d)) (subst (λ (r : Result Verdict Damage). T (cause_test (syndrome n) (sum_all n) r)) e (at_sums n)));
    }
