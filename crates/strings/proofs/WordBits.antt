-- The bits of a word, byte by byte.
-- Assumes nothing.
use mathlib.Core.Path.{◌≡◌, sym, ap, ap₂, ◌∙◌}
use mathlib.Core.List.{List}
use Prim.Native.Nat.{ℕ, ◌+◌, ◌-◌, ◌*◌, ◌/◌, ◌%◌, ◌^◌, ◌≤◌, ◌<◌}
use native.Mathlib.Nat.{mod-lt, lt_of_lt_of_le, pow-suc, mul_comm}
use native.Mathlib.Numerals.{add-one}
use native.Mathlib.Omega.{arith}
use lib.ListN.{length, get_or}
use lib.Dec.{lit<}
use lib.Pow.{pow_pos, pow_mono, mod-pow-add, mod-mod-pow, shr-shr, shl_exact, field}
use Rattle.strings.specs.Number.{value_of, number_of, word_of}
use Rattle.strings.proofs.Value.{Bytes, byte_at}
pub use Rattle.strings.proofs.WordOf.{word_lt}

-- of the eleven bytes that write v, the bits from bit t of byte `first` down to before byte i, as a number
unfoldable pub bits_in : ℕ → ℕ → ℕ → ℕ → ℕ
bits_in v first t i = v / 2 ^ (8 * (11 - i)) % 2 ^ (8 * (i - (first + 1)) + (t + 1))

pub bits_small : (v first t i n : ℕ) → 8 * (i - (first + 1)) + (t + 1) ≤ n → bits_in v first t i < 2 ^ n
unfolding bits_in
bits_small v first t i n h =
    lt_of_lt_of_le (mod-lt (v / 2 ^ (8 * (11 - i))) (pow_pos (8 * (i - (first + 1)) + (t + 1)))) (pow_mono {i = 8 * (i - (first + 1)) + (t + 1)} {j = n} h)

-- the machine's 2 shifted
pub two_shifted : (t : ℕ) → t < 8 → 2 * 2 ^ t % 2 ^ 32 ≡ 2 ^ (t + 1)
two_shifted t h = shl_exact {a = 2} 2 t 32 (lit< tt) (omega arith) ∙ sym (ap (λ (k : ℕ). 2 ^ k) (add-one t) ∙ pow-suc 2 t ∙ mul_comm (2 ^ t) 2)

module _ (s : List ℕ) (b : Bytes s) (n : length s ≡ 11) where
  -- what it has of its first byte
  pub bits_first : (first t : ℕ) → first < 11 → t < 8 → get_or s first 0 % 2 ^ (t + 1) ≡ bits_in (value_of s) first t (first + 1)
  unfolding bits_in
  bits_first first t h k =
      let x = value_of s / 2 ^ (8 * (11 - (first + 1))) in
      let e : 8 ≡ (7 - t) + (t + 1) = omega arith in
      ap (λ (y : ℕ). y % 2 ^ (t + 1)) (sym (byte_at s first (11 - (first + 1)) b (omega arith)))
      ∙ ap (λ (i : ℕ). x % 2 ^ i % 2 ^ (t + 1)) e
      ∙ mod-mod-pow x (7 - t) (t + 1)
      ∙ ap (λ (i : ℕ). x % 2 ^ i) (omega arith)

  -- one byte more
  pub bits_more : (first t i : ℕ) → first + 1 ≤ i → i < 11 → bits_in (value_of s) first t i * 256 + get_or s i 0 ≡ bits_in (value_of s) first t (i + 1)
  unfolding bits_in
  bits_more first t i l h =
      let v = value_of s in
      let x = v / 2 ^ (8 * (11 - (i + 1))) in
      let a = 8 * (i - (first + 1)) + (t + 1) in
      let up : v / 2 ^ (8 * (11 - i)) ≡ x / 2 ^ 8 = ap (λ (k : ℕ). v / 2 ^ k) (omega arith) ∙ sym (shr-shr v (8 * (11 - (i + 1))) 8) in
      ap₂ (λ (y z : ℕ). y % 2 ^ a * 256 + z) up (sym (byte_at s i (11 - (i + 1)) b (omega arith)))
      ∙ sym (mod-pow-add x a 8)
      ∙ ap (λ (k : ℕ). x % 2 ^ k) (omega arith)

  -- and what it has of its last, above the r lowest
  pub bits_last : (first t last r : ℕ) → first + 1 ≤ last → last < 11 → r < 8
      → bits_in (value_of s) first t last * 2 ^ (8 - r) + get_or s last 0 / 2 ^ r
      ≡ value_of s / 2 ^ (8 * (10 - last) + r) % 2 ^ (8 * (last - (first + 1)) + (t + 1) + (8 - r))
  unfolding bits_in
  bits_last first t last r l h k =
      let v = value_of s in
      let x = v / 2 ^ (8 * (10 - last)) in
      let y = v / 2 ^ (8 * (10 - last) + r) in
      let a = 8 * (last - (first + 1)) + (t + 1) in
      let e : 8 ≡ (8 - r) + r = omega arith in
      let up : v / 2 ^ (8 * (11 - last)) ≡ y / 2 ^ (8 - r) = ap (λ (i : ℕ). v / 2 ^ i) (omega arith) ∙ sym (shr-shr v (8 * (10 - last) + r) (8 - r)) in
      let down : get_or s last 0 / 2 ^ r ≡ y % 2 ^ (8 - r) =
      ap (λ (z : ℕ). z / 2 ^ r) (sym (byte_at s last (10 - last) b (omega arith))) ∙ ap (λ (i : ℕ). x % 2 ^ i / 2 ^ r) e ∙ field x (8 - r) r
      ∙ ap (λ (z : ℕ). z % 2 ^ (8 - r)) (shr-shr v (8 * (10 - last)) r)
      in
      ap₂ (λ (i z : ℕ). i % 2 ^ a * 2 ^ (8 - r) + z) up down ∙ sym (mod-pow-add y a (8 - r))

-- the word by its low bit's place in the bytes
cut_is : (s : List ℕ) (top low at w : ℕ) → 1 ≤ low → at ≡ low + 2 → w ≡ top + 1 - low → value_of s / 2 ^ at % 2 ^ w ≡ word_of (number_of s) top low
unfolding word_of number_of
cut_is s top low at w l e f =
    let v = value_of s in
    let g : at ≡ 3 + (low - 1) = omega arith in
    ap₂ (λ (i j : ℕ). v / 2 ^ i % 2 ^ j) g f ∙ ap (λ (y : ℕ). y % 2 ^ (top + 1 - low)) (sym (shr-shr v 3 (low - 1)))

-- bit b of a string, counted from 1, is bit (b + 2) % 8 of byte (85 - b) / 8, counted from 0
pub place_of : (b : ℕ) → b ≤ 85 → 8 * (10 - (85 - b) / 8) + (b + 2) % 8 ≡ b + 2
place_of b h = omega arith

pub byte_most : (b : ℕ) → (85 - b) / 8 ≤ 10
byte_most b = omega arith

pub bit_small : (b : ℕ) → (b + 2) % 8 < 8
bit_small b = omega arith

-- the word from bit t of byte `first` down to bit r of byte `last`
module _ (s : List ℕ) (top low first last t r : ℕ) (l : 1 ≤ low) (o : low ≤ top + 1) (p : 8 * (10 - first) + t ≡ top + 2) (q : 8 * (10 - last) + r ≡ low + 2)
    (f : first ≤ 10) (g : last ≤ 10) (k : r < 8) where
  -- in one byte
  pub word_one : first ≡ last → bits_in (value_of s) first t (first + 1) / 2 ^ r ≡ word_of (number_of s) top low
  unfolding bits_in
  word_one e =
      let v = value_of s in
      let x = v / 2 ^ (8 * (11 - (first + 1))) in
      let a : 8 * (first + 1 - (first + 1)) + (t + 1) ≡ (t + 1 - r) + r = omega arith in
      ap (λ (i : ℕ). x % 2 ^ i / 2 ^ r) a ∙ field x (t + 1 - r) r
      ∙ ap (λ (y : ℕ). y % 2 ^ (t + 1 - r)) (shr-shr v (8 * (11 - (first + 1))) r)
      ∙ cut_is s top low (8 * (11 - (first + 1)) + r) (t + 1 - r) l (omega arith) (omega arith)

  -- and in more: so many bits
  pub width_is : first < last → 8 * (last - (first + 1)) + (t + 1) + (8 - r) ≡ top + 1 - low
  width_is e = omega arith

  pub word_more : Bytes s → length s ≡ 11 → first < last → bits_in (value_of s) first t last * 2 ^ (8 - r) + get_or s last 0 / 2 ^ r ≡ word_of (number_of s) top low
  word_more b n e =
      bits_last s b n first t last r (omega arith) (omega arith) k
      ∙ cut_is s top low (8 * (10 - last) + r) (8 * (last - (first + 1)) + (t + 1) + (8 - r)) l q (width_is e)
