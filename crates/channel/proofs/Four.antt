-- A row's first four strings: which of them the mask has, and the news that they make.
-- Assumes nothing.
use mathlib.Core.Path.{◌≡◌, refl, sym, ap, ◌∙◌}
use mathlib.Core.Bool.{Bool, true, false, ◌&&◌}
use mathlib.Core.List.{List}
use Prim.Native.Nat.{ℕ, ◌+◌, ◌*◌, ◌/◌, ◌%◌, ◌≤◌}
use native.Mathlib.Omega.{arith}
use borrow.Author.Tests.{eq-eqb, ne_eqb, eqb-true, eqb-false, le-leb}
use lib.Dec.{eqb, leb}
use lib.Pow.{mod-pow-add}
use Rattle.strings.specs.Pick.{pick}
use Rattle.words.specs.Immediate.{string_at}
use Rattle.channel.specs.declared.News.TheVariants.{Kept, RecordBuilt, RecordOutOfRange}
use Rattle.immediate.specs.Kept.{four_good, are_good}
use Rattle.channel.specs.Frame.{news_at}
use Rattle.channel.specs.Row.{is_present, framed}

-- the four low bits of a mask, one by one
pub low_four : (mask : ℕ) → mask % 16 ≡ mask / 8 % 2 * 8 + (mask / 4 % 2 * 4 + (mask / 2 % 2 * 2 + mask % 2))
low_four mask =
    mod-pow-add mask 1 3
    ∙ ap (λ (x : ℕ). mask / 8 % 2 * 8 + x) (mod-pow-add mask 1 2 ∙ ap (λ (x : ℕ). mask / 4 % 2 * 4 + x) (mod-pow-add mask 1 1))

-- strings 1 to 4 are all present where the four low bits of the mask are
pub four_present : (mask : ℕ) → (is_present mask 1 && (is_present mask 2 && (is_present mask 3 && is_present mask 4))) ≡ eqb (mask % 16) 15
unfolding is_present
four_present mask = by (eqb (mask / 1 % 2) 1) (eqb (mask / 2 % 2) 1) (eqb (mask / 4 % 2) 1) (eqb (mask / 8 % 2) 1) refl refl refl refl
  where
    by : (a b c d : Bool) → eqb (mask / 1 % 2) 1 ≡ a → eqb (mask / 2 % 2) 1 ≡ b → eqb (mask / 4 % 2) 1 ≡ c → eqb (mask / 8 % 2) 1 ≡ d
        → (a && (b && (c && d))) ≡ eqb (mask % 16) 15
    by true true true true p q r s =
        let i : mask / 1 % 2 ≡ 1 = eqb-true (mask / 1 % 2) 1 p in
        let j : mask / 2 % 2 ≡ 1 = eqb-true (mask / 2 % 2) 1 q in
        let k : mask / 4 % 2 ≡ 1 = eqb-true (mask / 4 % 2) 1 r in
        let l : mask / 8 % 2 ≡ 1 = eqb-true (mask / 8 % 2) 1 s in
        sym (eq-eqb (mask % 16) 15 (omega (arith, low_four mask)))
    by true true true false p q r s = sym (ne_eqb (mask % 16) 15 (λ e. eqb-false (mask / 8 % 2) 1 s (omega (arith, low_four mask))))
    by true true false d p q r s = sym (ne_eqb (mask % 16) 15 (λ e. eqb-false (mask / 4 % 2) 1 r (omega (arith, low_four mask))))
    by true false c d p q r s = sym (ne_eqb (mask % 16) 15 (λ e. eqb-false (mask / 2 % 2) 1 q (omega (arith, low_four mask))))
    by false b c d p q r s = sym (ne_eqb (mask % 16) 15 (λ e. eqb-false (mask / 1 % 2) 1 p (omega (arith, low_four mask))))

-- the news of string m in a frame, said of its mask and bytes; its start says nothing
pub news_is : (start p : ℕ) (s : List ℕ) (m : ℕ) → news_at (framed start p s) m
    ≡ pick (leb m 4 && eqb (p % 16) 15) (pick (are_good s) RecordBuilt RecordOutOfRange) Kept
news_is start p s m =
    by (leb m 4) (is_present p 1) (is_present p 2) (is_present p 3) (is_present p 4) (string_at s 0) (string_at s 1) (string_at s 2) (string_at s 3)
    ∙ ap (λ (t : Bool). pick (leb m 4 && t) (pick (are_good s) RecordBuilt RecordOutOfRange) Kept) (four_present p)
  where
    by : (l a b c d : Bool) (w x y z : ℕ)
        → pick (l && (a && (b && (c && d)))) (pick (four_good (pick a w 0) (pick b x 0) (pick c y 0) (pick d z 0)) RecordBuilt RecordOutOfRange) Kept
        ≡ pick (l && (a && (b && (c && d)))) (pick (four_good w x y z) RecordBuilt RecordOutOfRange) Kept
    by true true true true true w x y z = refl
    by true true true true false w x y z = refl
    by true true true false d w x y z = refl
    by true true false c d w x y z = refl
    by true false b c d w x y z = refl
    by false a b c d w x y z = refl

-- where m is one of the four and all four are present, it is told of their words
pub four_news : (p : ℕ) (s : List ℕ) (m : ℕ) → m ≤ 4 → p % 16 ≡ 15 → news_at (framed 0 p s) m ≡ pick (are_good s) RecordBuilt RecordOutOfRange
four_news p s m l e = rw (news_is 0 p s m, le-leb m 4 l, eq-eqb (p % 16) 15 e)
