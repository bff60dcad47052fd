-- `bits::word_in` meets its contract: before each byte between, `bits` is the word's bits above it (`WordBits`). Assumes nothing.
use mathlib.Core.Path.{◌≡◌, refl, ap, ap₂, ◌∙◌}
use mathlib.Core.List.{List}
use Prim.Native.Nat.{ℕ, ◌+◌, ◌-◌, ◌*◌, ◌/◌, ◌%◌, ◌^◌, ◌≤◌, ◌<◌}
use native.Mathlib.Nat.{lt_of_lt_of_le, le_refl}
use native.Mathlib.Omega.{arith}
use lib.Arith.{lt_of_le-ne}
use lib.ListN.{length, get_or, take, drop, length-drop}
use lib.Pow.{pow_mono, shl_exact}
use lib.Seq.{length-take-le, get_or-take, get_or-drop}
use Rattle.strings.specs.Number.{value_of, number_of, word_of}
use Rattle.strings.proofs.Value.{Bytes}
use Rattle.strings.proofs.WordBits.{bits_in, bits_small, two_shifted, bits_first, bits_more, place_of, byte_most, bit_small, word_one, width_is, word_more, word_lt}
use Rattle.strings.proofs.bits.word_in.Goals as goal

-- at most 32 bits
narrow_width : (w top low : ℕ) → w ≡ top + 1 - low → top < low + 32 → w ≤ 32
narrow_width w top low e h = omega arith

-- what the word has of its first byte
first_bits : (s : List ℕ) (top x : ℕ) → Bytes s → length s ≡ 11 → x ≡ get_or s ((85 - top) / 8) 0
    → x % (2 * 2 ^ ((top + 2) % 8) % 2 ^ 32) ≡ bits_in (value_of s) ((85 - top) / 8) ((top + 2) % 8) ((85 - top) / 8 + 1)
first_bits s top x b n e =
    ap₂ (λ (y z : ℕ). y % z) e (two_shifted ((top + 2) % 8) (omega arith)) ∙ bits_first s b n ((85 - top) / 8) ((top + 2) % 8) (omega arith) (omega arith)

-- the bytes between the first and the last: how many they are, and each of them
between_long : (s : List ℕ) (a b : ℕ) → b ≤ length s → length (take (b - a) (drop a s)) ≡ b - a
between_long s a b h = length-take-le (b - a) (drop a s) (rw length-drop (omega arith))

between_at : (s : List ℕ) (a b i : ℕ) → i < b - a → get_or (take (b - a) (drop a s)) i 0 ≡ get_or s (a + i) 0
between_at s a b i h = get_or-take (b - a) (drop a s) i 0 h ∙ get_or-drop a s i 0

-- the last is a byte of the string
last_in : (s : List ℕ) (low : ℕ) → length s ≡ 11 → (85 - low) / 8 ≤ length s
last_in s low n = omega (arith, byte_most low)

-- at most 24 bits are held before a byte between
held_small : (s : List ℕ) (top low i bits : ℕ) → low ≤ 85 → top ≤ 85 → top < low + 32 → i < (85 - low) / 8 - ((85 - top) / 8 + 1)
    → bits ≡ bits_in (value_of s) ((85 - top) / 8) ((top + 2) % 8) ((85 - top) / 8 + 1 + i) → bits < 2 ^ 24
held_small s top low i bits g h w l e =
    let p = place_of top h in
    let q = place_of low g in
    rw e (bits_small (value_of s) ((85 - top) / 8) ((top + 2) % 8) ((85 - top) / 8 + 1 + i) 24 (omega (arith, p, q, w, l)))

-- what is added is the word
added : (c : goal.After-wide-2)
    → let a = c.args in
    (c.loop-byte.bits * 2 ^ (8 - (a.low + 2) % 8) % 2 ^ 32) + c.wide-2.result / 2 ^ ((a.low + 2) % 8) ≡ word_of (number_of a.s.now) a.top a.low
added c =
    let l = c.loop-byte in
    let a = c.args in
    let v = value_of a.s.now in
    let first = (85 - a.top) / 8 in
    let last = (85 - a.low) / 8 in
    let t = (a.top + 2) % 8 in
    let r = (a.low + 2) % 8 in
    let p = place_of a.top c.requires.le_low.1.1.0 in
    let q = place_of a.low c.requires.le_low.0.1 in
    let more : first < last = lt_of_le-ne c.requires.le_low.1.1.1.1 c.if-first-last.false in
    let long = between_long a.s.now (first + 1) last (last_in a.s.now a.low c.requires.s_len) in
    let all : first + 1 + l.byte-index ≡ last = omega (arith, long, more, l.auto.byte-index-end, c.loop-byte-test.false) in
    let is : l.bits ≡ bits_in v first t last = l.invariant ∙ ap (bits_in v first t) all in
    let n = 8 * (last - (first + 1)) + (t + 1) in
    let width = width_is a.s.now a.top a.low first last t r c.requires.le_low.0.0 c.requires.le_low.1.0 p q (byte_most a.top) (byte_most a.low) (bit_small a.low) more in
    let exact = shl_exact {a = bits_in v first t last} n (8 - r) 32 (bits_small v first t last n (le_refl n)) (narrow_width _ a.top a.low width c.requires.le_low.1.1.1.0) in
    ap₂ (λ (x y : ℕ). (x * 2 ^ (8 - r) % 2 ^ 32) + y / 2 ^ r) is c.wide-2.ensures.0
    ∙ ap (λ (x : ℕ). x + get_or a.s.now last 0 / 2 ^ r) exact
    ∙ word_more a.s.now a.top a.low first last t r c.requires.le_low.0.0 c.requires.le_low.1.0 p q (byte_most a.top) (byte_most a.low) (bit_small a.low)
    (λ k. (c.type_inv.s k).fits) c.requires.s_len more

pub returns-then-first-last : goal.returns-then-first-last
returns-then-first-last c =
    let a = c.args in
    rw (first_bits a.s.now a.top c.wide.result (λ k. (c.type_inv.s k).fits) c.requires.s_len c.wide.ensures.0)
    (word_one a.s.now a.top a.low ((85 - a.top) / 8) ((85 - a.low) / 8) ((a.top + 2) % 8) ((a.low + 2) % 8) c.requires.le_low.0.0 c.requires.le_low.1.0
    (place_of a.top c.requires.le_low.1.1.0) (place_of a.low c.requires.le_low.0.1) (byte_most a.top) (byte_most a.low) (bit_small a.low) c.if-first-last.true)

pub loop-byte-init : goal.loop-byte-init
loop-byte-init c =
    let a = c.args in
    first_bits a.s.now a.top c.wide.result (λ k. (c.type_inv.s k).fits) c.requires.s_len c.wide.ensures.0
    ∙ ap (bits_in (value_of a.s.now) ((85 - a.top) / 8) ((a.top + 2) % 8)) (omega arith)

pub overflow_mul-bits : goal.overflow_mul-bits
overflow_mul-bits c =
    let a = c.args in
    let r = c.requires.le_low in
    let long = between_long a.s.now ((85 - a.top) / 8 + 1) ((85 - a.low) / 8) (last_in a.s.now a.low c.requires.s_len) in
    let h = held_small a.s.now a.top a.low c.loop-byte.byte-index c.loop-byte.bits r.0.1 r.1.1.0 r.1.1.1.0 (omega (arith, long, c.loop-byte-test.true)) c.loop-byte.invariant in
    omega (arith, h)

pub overflow_add-bits-in-loop-byte : goal.overflow_add-bits-in-loop-byte
overflow_add-bits-in-loop-byte c =
    let a = c.args in
    let r = c.requires.le_low in
    let long = between_long a.s.now ((85 - a.top) / 8 + 1) ((85 - a.low) / 8) (last_in a.s.now a.low c.requires.s_len) in
    let h = held_small a.s.now a.top a.low c.loop-byte.byte-index c.loop-byte.bits r.0.1 r.1.1.0 r.1.1.1.0 (omega (arith, long, c.loop-byte-test.true)) c.loop-byte.invariant in
    omega (arith, h)

pub loop-byte-preserved : goal.loop-byte-preserved
loop-byte-preserved c =
    let l = c.loop-byte in
    let a = c.args in
    let first = (85 - a.top) / 8 in
    let last = (85 - a.low) / 8 in
    let t = (a.top + 2) % 8 in
    let i = first + 1 + l.byte-index in
    let long = between_long a.s.now (first + 1) last (last_in a.s.now a.low c.requires.s_len) in
    let h : l.byte-index < last - (first + 1) = omega (arith, long, c.loop-byte-test.true) in
    let more : i < 11 = omega (arith, h, byte_most a.low) in
    ap₂ (λ (x y : ℕ). x * 256 + y) l.invariant (c.wide-in-loop-byte.ensures.0 ∙ between_at a.s.now (first + 1) last l.byte-index h)
    ∙ bits_more a.s.now (λ k. (c.type_inv.s k).fits) c.requires.s_len first t i (omega arith) more
    ∙ ap (bits_in (value_of a.s.now) first t) (omega arith)

pub overflow_add-result : goal.overflow_add-result
overflow_add-result c =
    let a = c.args in
    rw (added c)
    (record { fits = lt_of_lt_of_le (word_lt (number_of a.s.now) a.top a.low) (pow_mono {i = a.top + 1 - a.low} {j = 32} (narrow_width (a.top + 1 - a.low) a.top a.low refl c.requires.le_low.1.1.1.0)) })

pub returns : goal.returns
returns c = added c
