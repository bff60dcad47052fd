-- The words of an entry, in the bits of the strings that showed it: a half keeps every word of its string where it stands (half-word).
-- Assumes nothing.
use mathlib.Core.Path.{◌≡◌, sym, ap, ◌∙◌}
use Prim.Native.Nat.{ℕ, ◌+◌, ◌-◌, ◌*◌, ◌/◌, ◌%◌, ◌^◌, ◌≤◌}
use native.Mathlib.Omega.{arith}
use borrow.Author.Tests.{le-leb, lt-leb}
use lib.IntN.{pos}
use lib.Pow.{shl-shr, shr-shr, field, mod-mod-pow}
use Rattle.strings.specs.Number.{word_of}
use Rattle.layout.specs.Layout.{layout}
use Rattle.words.specs.Signed.{signed_at}
use Rattle.words.specs.Values.{values_of, carrier_of}
use Rattle.words.proofs.Names.{signed_in_lem}
use Rattle.book.specs.Entry.{Three, meaning, even_words, odd_words}
use Rattle.book.specs.EntryWords.{EvenBits, OddBits, EveryEntrysWords}
use Rattle.book.proofs.ShownExactly.{shown_exactly}

-- ---- a word within the bits from 80 down to `last`, read where they stand
half_word : (n last top low : ℕ) → 1 ≤ last → last ≤ low → low ≤ top → top ≤ 80 → word_of (word_of n 80 last * 2 ^ (last - 1)) top low ≡ word_of n top low
unfolding word_of
half_word n last top low g h l u =
    let k = last - 1 in
    let j = low - last in
    let w = top + 1 - low in
    let y = n / 2 ^ k in
    let x = y % 2 ^ (80 + 1 - last) in
    let at : low - 1 ≡ k + j = omega arith in
    let wide : 80 + 1 - last ≡ (80 - top) + w + j = omega arith in
    ap (λ (i : ℕ). x * 2 ^ k / 2 ^ i % 2 ^ w) at
    ∙ ap (λ (z : ℕ). z % 2 ^ w) (sym (shr-shr (x * 2 ^ k) k j) ∙ ap (λ (z : ℕ). z / 2 ^ j) (shl-shr x k))
    ∙ ap (λ (i : ℕ). y % 2 ^ i / 2 ^ j % 2 ^ w) wide
    ∙ ap (λ (z : ℕ). z % 2 ^ w) (field y ((80 - top) + w) j)
    ∙ mod-mod-pow (y / 2 ^ j) (80 - top) w
    ∙ ap (λ (z : ℕ). z % 2 ^ w) (shr-shr n k j ∙ ap (λ (i : ℕ). n / 2 ^ i) (sym at))

-- ---- the halves of three numbers
module _ (n : ℕ) (t : Three) where
  module _ (q : t.even ≡ word_of n 80 9) where
    even_word : (top low : ℕ) → 9 ≤ low → low ≤ top → top ≤ 80 → word_of (t.even * 2 ^ 8) top low ≡ word_of n top low
    even_word top low h l u = ap (λ (x : ℕ). word_of (x * 2 ^ 8) top low) q ∙ half_word n 9 top low (omega arith) h l u

    even_bits : EvenBits n (even_words t)
    unfolding even_words layout values_of
    even_bits =
        record {
          c = ap pos (even_word 80 80 (omega arith) (omega arith) (omega arith));
          ma = ap pos (even_word 79 78 (omega arith) (omega arith) (omega arith));
          na = ap pos (even_word 77 73 (omega arith) (omega arith) (omega arith));
          taua = ap (signed_at (2 ^ 9)) (even_word 72 63 (omega arith) (omega arith) (omega arith)) ∙ signed_in_lem n 72 63 (omega arith) (omega arith);
          lambda = ap (signed_at (2 ^ 20)) (even_word 62 42 (omega arith) (omega arith) (omega arith)) ∙ signed_in_lem n 62 42 (omega arith) (omega arith);
          di = ap (signed_at (2 ^ 17)) (even_word 41 24 (omega arith) (omega arith) (omega arith)) ∙ signed_in_lem n 41 24 (omega arith) (omega arith);
          epsilon = ap pos (even_word 23 9 (omega arith) (omega arith) (omega arith));
        }

  module _ (q : t.odd ≡ word_of n 80 10) where
    odd-word : (top low : ℕ) → 10 ≤ low → low ≤ top → top ≤ 80 → word_of (t.odd * 2 ^ 9) top low ≡ word_of n top low
    odd-word top low h l u = ap (λ (x : ℕ). word_of (x * 2 ^ 9) top low) q ∙ half_word n 10 top low (omega arith) h l u

    -- bit 9 stands below the half
    no-l : word_of (t.odd * 2 ^ 9) 9 9 ≡ 0
    unfolding word_of
    no-l = omega arith

    odd_bits : OddBits n (odd_words t)
    unfolding odd_words layout values_of
    odd_bits =
        let H = odd-word 14 10 (omega arith) (omega arith) (omega arith) in
        record {
          omega = ap (signed_at (2 ^ 15)) (odd-word 80 65 (omega arith) (omega arith) (omega arith)) ∙ signed_in_lem n 80 65 (omega arith) (omega arith);
          tlambda = ap pos (odd-word 64 44 (omega arith) (omega arith) (omega arith));
          dt = ap (signed_at (2 ^ 21)) (odd-word 43 22 (omega arith) (omega arith) (omega arith)) ∙ signed_in_lem n 43 22 (omega arith) (omega arith);
          dtrate = ap (signed_at (2 ^ 6)) (odd-word 21 15 (omega arith) (omega arith) (omega arith)) ∙ signed_in_lem n 21 15 (omega arith) (omega arith);
          h = λ l. ap carrier_of H ∙ rw (lt-leb 25 (word_of n 14 10) (omega arith));
          h_minus = λ u. ap carrier_of H ∙ rw (le-leb 25 (word_of n 14 10) u);
          l = ap pos no-l;
        }

-- AN ENTRY'S WORDS are those of the strings that showed it, and its l is 0
pub entry_words : EveryEntrysWords
entry_words five even odd slot e q =
    let s = (shown_exactly five even odd).what slot e q in
    record { of_even = even_bits even (meaning e) s.even_bits; of_odd = odd_bits odd (meaning e) s.odd_bits }
