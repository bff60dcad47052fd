-- The bits of a word: how many it has, each of them, and the top one apart.
-- Assumes nothing.
use mathlib.Core.Path.{◌≡◌, sym, ap, ap₂, ◌∙◌}
use Prim.Native.Nat.{ℕ, ◌+◌, ◌-◌, ◌*◌, ◌/◌, ◌%◌, ◌^◌, ◌≤◌, ◌<◌}
use native.Mathlib.Nat.{mod-lt}
use native.Mathlib.Omega.{arith}
use lib.Pow.{pow_pos, mod-pow-add, shr-shr}
use Rattle.strings.specs.Number.{bit_of, word_of}
use Rattle.strings.proofs.Digits.{low_digit}

pub word_lt : (n top low : ℕ) → word_of n top low < 2 ^ (top + 1 - low)
unfolding word_of
word_lt n top low = mod-lt (n / 2 ^ (low - 1)) (pow_pos (top + 1 - low))

-- "In every word the highest bit number is the highest weight": bit i of the string has the weight 2^(i-low) in its word
pub bit_in_word : (n i top low : ℕ) → 1 ≤ low → low ≤ i → i ≤ top → bit_of n i ≡ word_of n top low / 2 ^ (i - low) % 2
unfolding word_of
bit_in_word n i top low h l u =
    let x = n / 2 ^ (low - 1) in
    sym (low_digit x (top + 1 - low) (i - low) (omega arith) ∙ ap (λ (y : ℕ). y % 2) (shr-shr n (low - 1) (i - low)) ∙ ap (λ (j : ℕ). n / 2 ^ j % 2) (omega arith))

-- a word is its top bit and the bits below it
pub word_split : (n top low : ℕ) → 1 ≤ low → low ≤ top → word_of n top low ≡ bit_of n top * 2 ^ (top - low) + word_of n (top - 1) low
unfolding word_of
word_split n top low l u =
    let x = n / 2 ^ (low - 1) in
    let b : x / 2 ^ (top - low) % 2 ≡ bit_of n top =
    ap (λ (y : ℕ). y % 2) (shr-shr n (low - 1) (top - low) ∙ ap (λ (i : ℕ). n / 2 ^ i) (omega arith)) in
    let m : x % 2 ^ (top - low) ≡ x % 2 ^ (top - 1 + 1 - low) = ap (λ (i : ℕ). x % 2 ^ i) (omega arith) in
    ap (λ (i : ℕ). x % 2 ^ i) (omega arith) ∙ mod-pow-add x 1 (top - low) ∙ ap₂ (λ (i j : ℕ). i * 2 ^ (top - low) + j) b m

-- a word cut in two: the bits above mid, and those from mid down
pub word_cut : (n top mid low : ℕ) → 1 ≤ low → low ≤ mid + 1 → mid ≤ top
    → word_of n top low ≡ word_of n top (mid + 1) * 2 ^ (mid + 1 - low) + word_of n mid low
unfolding word_of
word_cut n top mid low h l u =
    let x = n / 2 ^ (low - 1) in
    let j = top + 1 - (mid + 1) in
    let k = mid + 1 - low in
    let e : (low - 1) + k ≡ mid + 1 - 1 = omega arith in
    ap (λ (i : ℕ). x % 2 ^ i) (omega arith) ∙ mod-pow-add x j k
    ∙ ap (λ (y : ℕ). y % 2 ^ j * 2 ^ k + x % 2 ^ k) (shr-shr n (low - 1) k ∙ ap (λ (i : ℕ). n / 2 ^ i) e)
