-- What the tests of the ruling say of S, at each of its 128 values: computed once.
-- Assumes nothing.
use mathlib.Core.Path.{◌≡◌, refl, ◌∙◌, subst, ap}
use mathlib.Core.Bool.{Bool, true, false, not, ◌&&◌, ◌||◌, beq}
use Prim.Native.Nat.{ℕ, ◌-◌, ◌*◌, ◌%◌, ◌^◌, ◌≤◌, ◌<◌}
use native.Mathlib.Nat.{one-mul}
use native.Mathlib.Omega.{arith}
use borrow.Author.Tests.{ne_eqb}
use lib.Dec.{T, eqb, leb, leb→le, lit<}
use lib.Pow.{shl_exact}
use Rattle.strings.specs.declared.Verdict.{Verdict}
use Rattle.strings.specs.declared.hamming.Damage.{Damage}
use Rattle.std.specs.Prelude.{Result, Ok, Err}
use Rattle.strings.specs.declared.Verdict.TheVariants.{Clean, Repaired}
use Rattle.strings.specs.Hamming.{syndrome, sum_all, highest, sums_set, placed, judge, ruling, mended_by, mended, NamesBit}
use Rattle.strings.proofs.Below.{and_left, and_right, below, below_at}
use Rattle.strings.proofs.Digits.{flip_lt}
use Rattle.strings.proofs.Sums.{syndrome_lt, sum_all_lt}

beq→eq : (a b : Bool) → T (beq a b) → a ≡ b
beq→eq true true t = refl
beq→eq true false t = absurd t
beq→eq false true t = absurd t
beq→eq false false t = refl

-- of an S that is not 0: exactly one sum is set where S is the weight of the highest, and more where it is not
pub record Weighed (s : ℕ) : Type 0 where
  pub one : eqb (sums_set s) 1 ≡ eqb s (2 ^ (highest s - 1))
  pub more : leb 2 (sums_set s) ≡ (not (eqb s 0) && not (eqb s (2 ^ (highest s - 1))))
  pub least : 1 ≤ highest s
  pub most : highest s ≤ 7

abbrev weight_test : ℕ → Bool
weight_test s =
    let w = eqb s (2 ^ (highest s - 1)) in
    beq (eqb (sums_set s) 1) w && (beq (leb 2 (sums_set s)) (not (eqb s 0) && not w) && ((eqb s 0 || leb 1 (highest s)) && leb (highest s) 7))

weights : T (below 128 weight_test)
unfolding highest sums_set
weights = tt

pub weighed : (s : ℕ) → (s ≡ 0 → ⊥) → s < 128 → Weighed s
weighed s n h =
    let w = eqb s (2 ^ (highest s - 1)) in
    let a = beq (eqb (sums_set s) 1) w in
    let b = beq (leb 2 (sums_set s)) (not (eqb s 0) && not w) in
    let c = eqb s 0 || leb 1 (highest s) in
    let d = leb (highest s) 7 in
    let t = below_at 128 weight_test weights s h in
    let u = and_right a (b && (c && d)) t in
    let v = and_right b (c && d) u in
    record {
      one = beq→eq _ _ (and_left a (b && (c && d)) t);
      more = beq→eq _ _ (and_left b (c && d) u);
      least = leb→le _ _ (subst (λ (x : Bool). T (x || leb 1 (highest s))) (ne_eqb s 0 n) (and_left c d v));
      most = leb→le _ _ (and_right c d v);
    }

-- the machine's shift loses nothing
pub shifted : (k : ℕ) → k ≤ 7 → 1 * 2 ^ (k - 1) % 2 ^ 8 ≡ 2 ^ (k - 1)
shifted k h = shl_exact {a = 1} 1 (k - 1) 8 (lit< tt) (omega arith) ∙ one-mul (2 ^ (k - 1))

-- ---- the bit that a ruling names is one of the 85
abbrev named_test : Result Verdict Damage → Bool
named_test (Ok Clean) = true
named_test (Ok (Repaired i)) = leb 1 i && leb i 85
named_test (Err d) = true

names : T (below 2 (λ c. below 128 (λ s. named_test (judge s c))))
unfolding judge placed highest sums_set
names = tt

named_verdict : (v : Verdict) → T (named_test (Ok v)) → NamesBit v
named_verdict Clean t = tt
named_verdict (Repaired i) t = (leb→le 1 i (and_left (leb 1 i) (leb i 85) t), leb→le i 85 (and_right (leb 1 i) (leb i 85) t))

pub names_bit : (n : ℕ) (v : Verdict) → ruling n ≡ Ok v → NamesBit v
unfolding ruling
names_bit n v e =
    named_verdict v (subst (λ (r : Result Verdict Damage). T (named_test r)) e
    (below_at 128 (λ s. named_test (judge s (sum_all n))) (below_at 2 (λ c. below 128 (λ s. named_test (judge s c))) names (sum_all n) (sum_all_lt n)) (syndrome n) (syndrome_lt n)))

-- the string as the check leaves it, by its verdict
pub mended_by_lem : (n : ℕ) (v : Verdict) → ruling n ≡ Ok v → mended n ≡ mended_by (Ok v) n
unfolding mended
mended_by_lem n v e = ap (λ (r : Result Verdict Damage). mended_by r n) e

mended_small : (n : ℕ) (r : Result Verdict Damage) → n < 2 ^ 85 → ruling n ≡ r → mended_by r n < 2 ^ 85
mended_small n (Ok Clean) h e = h
mended_small n (Ok (Repaired i)) h e = let l = names_bit n (Repaired i) e in flip_lt 85 n i h l.0 l.1
mended_small n (Err d) h e = h

-- it is a string
pub mended_lt : (n : ℕ) → n < 2 ^ 85 → mended n < 2 ^ 85
unfolding mended
mended_lt n h = mended_small n (ruling n) h refl
