-- When three strings show an entry, and which, in their bits.
-- Assumes nothing.
use mathlib.Core.Path.{◌≡◌, refl, sym, ap, ◌∙◌}
use mathlib.Core.Bool.{Bool, true, false, ◌&&◌, ◌||◌}
use mathlib.Core.Logic.{◌⊎◌, inl, inr}
use Prim.Native.Nat.{ℕ, ◌≤◌}
use native.Mathlib.Omega.{arith}
use borrow.Author.Tests.{le-leb, leb-true}
use lib.Dec.{leb, lit≤}
use Rattle.strings.specs.Pick.{pick}
use Rattle.std.specs.Prelude.{Option, Some, None}
use Rattle.strings.specs.Number.{word_of}
use Rattle.records.specs.declared.kinds.Kind.TheVariants.{Five, Even, Odd}
use Rattle.book.specs.declared.Entry.{Entry}
use Rattle.book.specs.Entry.{Three, entry_of}
use Rattle.words.specs.Good.{is_good}
use Rattle.book.specs.Shows.{is_shown, four_years, slot_in, day_of, three_of, shown_by}
use Rattle.book.specs.ShownExactly.{SomeEntry, InRange, EntryShown, ShownExactly}
use Rattle.strings.proofs.Below.{both}
use Rattle.words.proofs.Good.{good_is}
use Rattle.book.proofs.ShownTests.{shown_is, day_read, slot_read}
use Rattle.book.proofs.Joins.{shown_fits}

-- ---- a good odd string: "H 0..13, or 25..31"
carrier_read : (n : ℕ) → is_good Odd n ≡ true → (word_of n 14 10 ≤ 13) ⊎ (25 ≤ word_of n 14 10)
carrier_read n e = by (leb (word_of n 14 10) 13) refl (sym (good_is Odd n (lit≤ tt)) ∙ e)
  where
    by : (b : Bool) → leb (word_of n 14 10) 13 ≡ b → (b || leb 25 (word_of n 14 10)) ≡ true → (word_of n 14 10 ≤ 13) ⊎ (25 ≤ word_of n 14 10)
    by true q e = inl (leb-true (word_of n 14 10) 13 q)
    by false q e = inr (leb-true 25 (word_of n 14 10) e)

carrier_good : (n : ℕ) → (word_of n 14 10 ≤ 13) ⊎ (25 ≤ word_of n 14 10) → is_good Odd n ≡ true
carrier_good n (inl l) = good_is Odd n (lit≤ tt) ∙ rw (le-leb (word_of n 14 10) 13 l)
carrier_good n (inr u) = good_is Odd n (lit≤ tt) ∙ by (leb (word_of n 14 10) 13)
  where
    by : (b : Bool) → (b || leb 25 (word_of n 14 10)) ≡ true
    by true = refl
    by false = le-leb 25 (word_of n 14 10) u

module _ (five even odd : ℕ) where
  shown_needs : is_shown five even odd ≡ true → InRange five even odd
  shown_needs p =
      let t = both (is_good Five five && leb 1 (four_years five)) (is_good Even even && is_good Odd odd) (sym (shown_is five even odd) ∙ p) in
      let h = both (is_good Even even) (is_good Odd odd) t.1 in
      let d = day_read five t.0 in
      let s = slot_read even h.0 in
      record { na_least = d.least; na_most = d.most; n4_least = d.stated; n_a_least = s.0; n_a_most = s.1; H = carrier_read odd h.1 }

  shown_where : InRange five even odd → is_shown five even odd ≡ true
  shown_where r =
      rw (
        shown_is five even odd,
        carrier_good odd r.H,
        good_is Five five (lit≤ tt),
        good_is Even even (lit≤ tt),
        le-leb 1 (word_of five 80 70) r.na_least,
        le-leb (word_of five 80 70) 1461 r.na_most,
        le-leb 1 (word_of five 36 32) r.n4_least,
        le-leb 1 (word_of even 77 73) r.n_a_least,
        le-leb (word_of even 77 73) 24 r.n_a_most,
      )

  some_needs : SomeEntry (shown_by five even odd) → InRange five even odd
  unfolding shown_by
  some_needs s = by (is_shown five even odd) refl s.is
    where
      by : (t : Bool) → is_shown five even odd ≡ t → pick {A = Option (ℕ × Entry)} t (Some (slot_in even, entry_of (three_of five even odd))) None ≡ Some (s.slot, s.entry) → InRange five even odd
      by true p q = shown_needs p
      by false p q = let z : ◌≡◌ {A = ℕ} 0 1 = cc in absurd (omega arith)

  some_where : InRange five even odd → SomeEntry (shown_by five even odd)
  unfolding shown_by
  some_where r = record { slot = slot_in even; entry = entry_of (three_of five even odd); is = rw (shown_where r) }

  entry_shown : (slot : ℕ) (e : Entry) → shown_by five even odd ≡ Some (slot, e) → EntryShown five even odd slot e
  unfolding three_of day_of
  entry_shown slot e q =
      let r = shown_fits five even odd slot e q in
      record {
        n_a = r.slot;
        day = omega (arith, ap (λ (t : Three). t.day) r.means);
        even_bits = ap (λ (t : Three). t.even) r.means;
        odd_bits = ap (λ (t : Three). t.odd) r.means;
      }

  -- SHOWN EXACTLY WHERE ALL WORDS ARE IN RANGE AND N4 IS AT LEAST 1
  pub shown_exactly : ShownExactly five even odd
  shown_exactly = record { exactly = (some_needs, some_where); what = entry_shown }
