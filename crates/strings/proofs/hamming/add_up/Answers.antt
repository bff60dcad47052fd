-- `hamming::add_up` meets its contract: before check bit k the sums are those of the bits below it, and so before bits 8 and 9 and before each run.
-- Assumes nothing.
use mathlib.Core.Path.{◌≡◌, sym, ap, ◌∙◌}
use Prim.Native.Nat.{ℕ, ◌+◌, ◌-◌, ◌*◌, ◌/◌, ◌%◌, ◌^◌, ◌≤◌}
use native.Mathlib.Omega.{arith}
use lib.Bits.{bit_xor}
use lib.Dec.{lit<}
use Rattle.strings.specs.Number.{number_of, bit_of}
use Rattle.strings.specs.Hamming.{position}
use Rattle.strings.proofs.WordOf.{bit_in_word}
use Rattle.strings.proofs.Value.{number_lt}
use Rattle.strings.proofs.Sums.{position_lt, sum_all_lt}
use Rattle.strings.proofs.Runs.{sums_of, parted, added, none_yet, whole, check_at, position_8, position_9, in_run}
use Rattle.strings.proofs.hamming.add_up.Goals as goal

-- bits 9..1 of the string, as they are taken out
low_bit : (c : goal.After-add_bit-t) (i : ℕ) → 1 ≤ i → i ≤ 9 → c.word_in-low.result / 2 ^ (i - 1) % 2 ≡ bit_of (number_of c.args.s.now) i
low_bit c i from to =
    ap (λ (x : ℕ). x / 2 ^ (i - 1) % 2) c.word_in-low.ensures ∙ sym (bit_in_word (number_of c.args.s.now) i 9 1 (omega arith) from to)

-- bits 9..1 of the string, as they are taken out
low_bit-2 : (c : goal.After-add_bit-t-3) (i : ℕ) → 1 ≤ i → i ≤ 9 → c.word_in-low.result / 2 ^ (i - 1) % 2 ≡ bit_of (number_of c.args.s.now) i
low_bit-2 c i from to =
    ap (λ (x : ℕ). x / 2 ^ (i - 1) % 2) c.word_in-low.ensures ∙ sym (bit_in_word (number_of c.args.s.now) i 9 1 (omega arith) from to)

-- past the loop the check bits are added, and then bits 8 and 9
sums_to_9 : (c : goal.After-add_bit-t-3) → c.add_bit-t-3.result ≡ sums_of (number_of c.args.s.now % 2 ^ 9)
sums_to_9 c =
    let n = number_of c.args.s.now in
    let q : c.loop-k.k - 1 ≡ 7 = omega arith in
    let w = c.word_in-low.result in
    let seven : c.loop-k.t ≡ sums_of (n % 2 ^ 7) = c.loop-k.invariant.1 ∙ ap (λ (i : ℕ). sums_of (n % 2 ^ i)) q in
    let bit_8 : c.add_bit-t-2.result ≡ bit_xor c.loop-k.t (w / 2 ^ 7 % 2 * (128 + 0)) = c.add_bit-t-2.ensures in
    let eight = bit_8 ∙ added n 8 (lit< tt) (lit< tt) seven (low_bit-2 c 8 (lit< tt) (lit< tt)) position_8 in
    let bit-9 : c.add_bit-t-3.result ≡ bit_xor c.add_bit-t-2.result (w / 2 ^ 8 % 2 * (128 + 3)) = c.add_bit-t-3.ensures in
    bit-9 ∙ added n 9 (lit< tt) (lit< tt) eight (low_bit-2 c 9 (lit< tt) (lit< tt)) position_9

-- and past the runs all of them
abbrev N : (c : goal.After-add_run-t-5) → ℕ
N c = number_of c.args.s.now

all_added : (c : goal.After-add_run-t-5) → c.add_run-t-5.result ≡ sums_of (N c)
all_added c =
    let s = c.args.s.now in
    ◌∙◌ {b = sums_of (number_of s % 2 ^ 85)} c.add_run-t-5.ensures (whole (number_of s) (number_lt s (λ k. (c.type_inv.s k).fits) c.requires))

pub loop-k-init : goal.loop-k-init
loop-k-init c = ((omega arith, omega arith), none_yet (number_of c.args.s.now))

pub add_bit-t-requires : goal.add_bit-t-requires
add_bit-t-requires c =
    let k = c.loop-k.k in
    let l = c.loop-k.invariant.0.0 in
    rw (check_at k l (omega arith)) (position_lt k l (omega arith))

pub loop-k-preserved : goal.loop-k-preserved
loop-k-preserved c =
    let n = number_of c.args.s.now in
    let k = c.loop-k.k in
    let from = c.loop-k.invariant.0.0 in
    let next : k ≡ k + 1 - 1 = omega arith in (
      (omega arith, omega arith),
      c.add_bit-t.ensures ∙ added n k from (omega arith) c.loop-k.invariant.1 (low_bit c k from (omega arith)) (check_at k from (omega arith))
          ∙ ap (λ (i : ℕ). sums_of (n % 2 ^ i)) next,
    )

pub add_run-t-requires : goal.add_run-t-requires
unfolding position
add_run-t-requires c = record { s_len = c.requires; le_low = ((lit< tt, lit< tt), (lit< tt, (lit< tt, lit< tt))); by_index = in_run _ _ _ tt tt tt; sums_value = sums_to_9 c }

pub add_run-t-requires-2 : goal.add_run-t-requires-2
unfolding position
add_run-t-requires-2 c = record { s_len = c.requires; le_low = ((lit< tt, lit< tt), (lit< tt, (lit< tt, lit< tt))); by_index = in_run _ _ _ tt tt tt; sums_value = c.add_run-t.ensures }

pub add_run-t-requires-3 : goal.add_run-t-requires-3
unfolding position
add_run-t-requires-3 c = record { s_len = c.requires; le_low = ((lit< tt, lit< tt), (lit< tt, (lit< tt, lit< tt))); by_index = in_run _ _ _ tt tt tt; sums_value = c.add_run-t-2.ensures }

pub add_run-t-requires-4 : goal.add_run-t-requires-4
unfolding position
add_run-t-requires-4 c = record { s_len = c.requires; le_low = ((lit< tt, lit< tt), (lit< tt, (lit< tt, lit< tt))); by_index = in_run _ _ _ tt tt tt; sums_value = c.add_run-t-3.ensures }

pub add_run-t-requires-5 : goal.add_run-t-requires-5
unfolding position
add_run-t-requires-5 c = record { s_len = c.requires; le_low = ((lit< tt, lit< tt), (lit< tt, (lit< tt, lit< tt))); by_index = in_run _ _ _ tt tt tt; sums_value = c.add_run-t-4.ensures }

pub overflow_cast-result-2 : goal.overflow_cast-result-2
overflow_cast-result-2 c = record { fits = omega (arith, ap (λ (t : ℕ). t / 128) (all_added c), (parted (N c)).1, sum_all_lt (N c)) }

pub returns : goal.returns
returns c = (ap (λ (t : ℕ). t % 128) (all_added c) ∙ (parted (N c)).0, ap (λ (t : ℕ). t / 128) (all_added c) ∙ (parted (N c)).1)
