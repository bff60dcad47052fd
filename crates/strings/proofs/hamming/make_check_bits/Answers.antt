-- `hamming::make_check_bits` meets its contract: before check bit k those below it are made, and `all` is the sum of all bits. Assumes nothing.
use mathlib.Core.Path.{◌≡◌, sym, ap, ◌∙◌}
use Prim.Native.Nat.{ℕ, ◌-◌, ◌^◌, ◌≤◌, ◌<◌}
use native.Mathlib.Omega.{arith}
use Rattle.strings.specs.Number.{bit_of, number_of, flip, bytes_of_string}
use Rattle.strings.specs.Hamming.{syndrome, sum_all, sums_made}
use Rattle.strings.proofs.Digits.{bit_lt}
use Rattle.strings.proofs.Value.{number_lt, string_is, flipped}
use Rattle.strings.proofs.Sums.{sum_all_lt, flip_all}
use Rattle.strings.proofs.Encode.{made_to, made_to_lt, made_none, made_all, made_clear, made_set, eighth_set, eighth_clear}
use Rattle.strings.proofs.hamming.make_check_bits.Goals as goal
use Rattle.strings.proofs.hamming.make_check_bits.Goals.{then-t-k-eq1, else-t-k-eq1}

-- one turn, with C_k set and with C_k clear
turned_all : (x i : ℕ) → 1 ≤ i → i ≤ 85 → 1 - sum_all x ≡ sum_all (flip x i)
turned_all x i l u = omega (arith, flip_all x i l u, sum_all_lt x)

abbrev N : (c : goal.After-slice_known-then-t-k-eq1-1) → ℕ
N c = number_of c.args.s.now

abbrev N-2 : (c : goal.Joined-t-k-eq1) → ℕ
N-2 c = number_of c.args.s.now

abbrev N-3 : (c : goal.After-slice_known-then-all-eq1-1) → ℕ
N-3 c = number_of c.args.s.now

abbrev N-4 : (c : goal.Else-all-eq1) → ℕ
N-4 c = number_of c.args.s.now

small : (c : goal.Joined-t-k-eq1) → N-2 c < 2 ^ 85
small c = number_lt _ (λ k. (c.slice_known-1.given k).fits) c.requires.0

small-2 : (c : goal.After-slice_known-then-all-eq1-1) → N-3 c < 2 ^ 85
small-2 c = number_lt _ (λ k. (c.slice_known-1.given k).fits) c.requires.0

-- past the loop every check bit but 8 is made
all_made : (c : goal.After-slice_known-then-all-eq1-1) → (c.loop-k.k < 8 → ⊥) → made_to (N-3 c) c.loop-k.k ≡ sums_made (N-3 c)
all_made c e = let q : c.loop-k.k ≡ 8 = omega arith in ap (made_to (N-3 c)) q ∙ made_all (N-3 c)

-- past the loop every check bit but 8 is made
all_made-2 : (c : goal.Else-all-eq1) → (c.loop-k.k < 8 → ⊥) → made_to (N-4 c) c.loop-k.k ≡ sums_made (N-4 c)
all_made-2 c e = let q : c.loop-k.k ≡ 8 = omega arith in ap (made_to (N-4 c)) q ∙ made_all (N-4 c)

pub loop-k-init : goal.loop-k-init
loop-k-init c =
    let s = c.args.s.now in
    let p = c.requires in
    let e = made_none (number_of s) in
    ((omega arith, omega arith), (string_is s _ (λ k. (c.slice_known-1.given k).fits) p.0 p.1 e, c.add_up-t.ensures.1 ∙ ap sum_all e))

pub overflow_sub-all : goal.overflow_sub-all
overflow_sub-all c =
    omega (arith, sum_all_lt (made_to (N c) c.loop-k.k))

pub loop-k-preserved : goal.loop-k-preserved
loop-k-preserved c =
    let n = N-2 c in
    let k = c.loop-k.k in
    let h = c.loop-k.invariant in
    let x = made_to n k in
    let hx = made_to_lt n k (small c) h.0.0 h.0.1 in
    let s = c.add_up-t.ensures.0 in (
      (omega arith, omega arith),
      elim c.if-t-k-eq1.branch [
        | then-t-k-eq1 w ↦
            let b = ap (λ (s : ℕ). bit_of s k) (sym s) ∙ w.if-t-k-eq1.true in
            let m = made_set n k (small c) h.0.0 (omega arith) b in (
              w.s-is ∙ flipped x k hx h.1.0 (λ j. (w.slice_known-then-t-k-eq1-1.given j).fits) w.flip_bit.auto.s w.flip_bit.ensures ∙ ap bytes_of_string m,
              w.all-is ∙ ap (λ (a : ℕ). 1 - a) h.1.1 ∙ turned_all x k h.0.0 (omega arith) ∙ ap sum_all m,
            )
        | else-t-k-eq1 w ↦
            let b : bit_of (syndrome n) k ≡ 0 = omega (arith, bit_lt (syndrome n) k, ap (λ (s : ℕ). bit_of s k) s, w.if-t-k-eq1.false) in
            let m = made_clear n k h.0.0 b in
            (w.s-is ∙ h.1.0 ∙ ap bytes_of_string m, w.all-is ∙ h.1.1 ∙ ap sum_all m)
      ],
    )

pub returns-then-all-eq1 : goal.returns-then-all-eq1
returns-then-all-eq1 c =
    let h = c.loop-k.invariant in
    let m = all_made c (λ l. omega arith) in
    flipped (made_to (N-3 c) c.loop-k.k) 8 (made_to_lt (N-3 c) c.loop-k.k (small-2 c) h.0.0 h.0.1) h.1.0 (λ j. (c.slice_known-then-all-eq1-1.given j).fits)
    c.flip_bit-then-all-eq1.auto.s c.flip_bit-then-all-eq1.ensures
    ∙ ap bytes_of_string (ap (λ (x : ℕ). flip x 8) m ∙ eighth_set (N-3 c) (ap sum_all (sym m) ∙ sym h.1.1 ∙ c.if-all-eq1.true))

pub returns-else-all-eq1 : goal.returns-else-all-eq1
returns-else-all-eq1 c =
    let h = c.loop-k.invariant in
    let m = all_made-2 c (λ l. omega arith) in
    let z : sum_all (sums_made (N-4 c)) ≡ 0 = omega (arith, sum_all_lt (sums_made (N-4 c)), ap sum_all m, h.1.1, c.if-all-eq1.false) in
    h.1.0 ∙ ap bytes_of_string (m ∙ eighth_clear (N-4 c) z)
