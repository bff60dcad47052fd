-- The words of a string, place by place: places; and how the code comes by them.
-- Assumes nothing.
use mathlib.Core.Path.{◌≡◌, refl, sym, ap, ◌∙◌}
use mathlib.Core.Bool.{Bool, true, false, ◌&&◌}
use Prim.Native.Nat.{ℕ, zero, suc, ◌+◌, ◌-◌, ◌*◌, ◌/◌, ◌%◌, ◌≤◌, ◌<◌}
use native.Mathlib.Omega.{arith}
use borrow.Author.Tests.{eq-eqb, ne_eqb, eqb-true, eqb-false}
use lib.Dec.{eqb}
use lib.ListN.{get_or}
use Rattle.strings.specs.Pick.{pick, is_one_of}
use Rattle.records.specs.declared.named.Record.{Record}
use Rattle.records.specs.declared.named.Record.TheVariants.{One, Two, Three, Four, Five, Even, Odd, Fourteen}
use Rattle.superframe.specs.declared.AlmanacWords.{AlmanacWords}
use Rattle.superframe.specs.declared.Sky.{Sky}
use Rattle.superframe.specs.Table41.{pairs, slot_of_pair, frame_of_slot, pair_of_slot}
use Rattle.superframe.specs.Sky.{with_l, zero_even, zero_odd, entry_at, almanac_in, record_in, Places}
use Rattle.superframe.proofs.Table41.{pair_cases, pair_named}

-- ---- strings 1 to 5
pub five_cases : (P : ℕ → Type 0) → P 1 → P 2 → P 3 → P 4 → P 5 → (m : ℕ) → 1 ≤ m → m ≤ 5 → P m
five_cases P a b c d f zero l u = absurd (omega arith)
five_cases P a b c d f (suc zero) l u = a
five_cases P a b c d f (suc (suc zero)) l u = b
five_cases P a b c d f (suc (suc (suc zero))) l u = c
five_cases P a b c d f (suc (suc (suc (suc zero)))) l u = d
five_cases P a b c d f (suc (suc (suc (suc (suc zero))))) l u = f
five_cases P a b c d f (suc (suc (suc (suc (suc (suc m)))))) l u = absurd (omega arith)

pub left_five : (m : ℕ) → 1 ≤ m → m ≤ 5 → (m ≡ 1 → ⊥) → (m ≡ 2 → ⊥) → (m ≡ 3 → ⊥) → (m ≡ 4 → ⊥) → m ≡ 5
left_five = five_cases (λ m. (m ≡ 1 → ⊥) → (m ≡ 2 → ⊥) → (m ≡ 3 → ⊥) → (m ≡ 4 → ⊥) → m ≡ 5)
    (λ p q r s. absurd (p refl)) (λ p q r s. absurd (q refl)) (λ p q r s. absurd (r refl)) (λ p q r s. absurd (s refl)) (λ p q r s. refl)

module _ (sky : Sky) where
  pub one_is : (m : ℕ) → m ≡ 1 → One sky.words.one ≡ record_in sky 0 m
  unfolding record_in
  one_is m e = rw e

  pub two_is : (m : ℕ) → m ≡ 2 → Two sky.words.two ≡ record_in sky 0 m
  unfolding record_in
  two_is m e = rw e

  pub three_is : (m : ℕ) → m ≡ 3 → Three sky.words.three ≡ record_in sky 0 m
  unfolding record_in
  three_is m e = rw e

  pub four_is : (m : ℕ) → m ≡ 4 → Four sky.words.four ≡ record_in sky 0 m
  unfolding record_in
  four_is m e = rw e

  pub five_is : (m : ℕ) → m ≡ 5 → Five sky.five ≡ record_in sky 0 m
  unfolding record_in
  five_is m e = rw e

  pub alike : (g m : ℕ) → 1 ≤ m → m ≤ 5 → record_in sky g m ≡ record_in sky 0 m
  unfolding record_in
  alike g = five_cases (λ m. record_in sky g m ≡ record_in sky 0 m) refl refl refl refl refl

-- ---- strings 6 to 15
and_none : (a b : Bool) → (a ≡ true → b ≡ true → ⊥) → (a && b) ≡ false
and_none true true h = absurd (h refl refl)
and_none true false h = refl
and_none false b h = refl

module _ (sky : Sky) (g m : ℕ) (past : 5 < m) where
  abbrev last_even : Record
  last_even = Fourteen sky.fourteen

  abbrev last_odd : Record
  last_odd = Odd (with_l sky.five.l zero_odd)

  past_five : record_in sky g m ≡ pick (eqb m 14 && eqb g 4) last_even (pick (eqb m 15 && eqb g 4) last_odd (almanac_in sky g m))
  unfolding record_in
  past_five =
      rw (ne_eqb m 1 (λ q. omega arith), ne_eqb m 2 (λ q. omega arith), ne_eqb m 3 (λ q. omega arith), ne_eqb m 4 (λ q. omega arith), ne_eqb m 5 (λ q. omega arith))

  -- strings 14 and 15 of the last frame
  last_by : (t : Bool) → eqb m 14 ≡ t → eqb g 4 ≡ true → (t ≡ false → eqb m 15 ≡ true)
      → pick t last_even last_odd ≡ pick (t && eqb g 4) last_even (pick (eqb m 15 && eqb g 4) last_odd (almanac_in sky g m))
  last_by true q e f = rw e
  last_by false q e f = rw (e, f refl)

  pub last_is : g < 5 → m ≤ 15 → 23 < 5 * g + (m - 6) / 2 → pick (eqb m 14) last_even last_odd ≡ record_in sky g m
  last_is l u h =
      last_by (eqb m 14) refl (eq-eqb g 4 (omega arith)) (λ q. eq-eqb m 15 (omega (arith, eqb-false m 14 q))) ∙ sym past_five

  -- and of a pair
  abbrev entry : ℕ → AlmanacWords
  entry i = get_or sky.entries i (record { even = zero_even; odd = zero_odd })

  half_by : (t : Bool) → eqb (m % 2) 0 ≡ t
      → pick t (Even (entry (5 * g + (m - 6) / 2)).even) (Odd (with_l sky.five.l (entry (5 * g + (m - 6) / 2)).odd))
      ≡ pick t (Even (entry_at sky (slot_of_pair g m)).even) (Odd (with_l sky.five.l (entry_at sky (slot_of_pair g (m - 1))).odd))
  half_by true q = let e : 5 * g + (m - 6) / 2 ≡ slot_of_pair g m - 1 = omega arith in ap (λ (i : ℕ). Even (entry i).even) e
  half_by false q =
      let e : 5 * g + (m - 6) / 2 ≡ slot_of_pair g (m - 1) - 1 = omega (arith, eqb-false (m % 2) 0 q) in
      ap (λ (i : ℕ). Odd (with_l sky.five.l (entry i).odd)) e

  pub half_is : 5 * g + (m - 6) / 2 ≤ 23
      → pick (eqb (m % 2) 0) (Even (entry (5 * g + (m - 6) / 2)).even) (Odd (with_l sky.five.l (entry (5 * g + (m - 6) / 2)).odd)) ≡ record_in sky g m
  half_is h =
      let a = and_none (eqb m 14) (eqb g 4) (λ p q. omega (arith, eqb-true m 14 p, eqb-true g 4 q)) in
      let b = and_none (eqb m 15) (eqb g 4) (λ p q. omega (arith, eqb-true m 15 p, eqb-true g 4 q)) in
      half_by (eqb (m % 2) 0) refl ∙ sym (past_five ∙ rw (a, b))

-- ---- WHAT STANDS WHERE
module _ (sky : Sky) where
  record_even : (g p : ℕ) → is_one_of pairs p ≡ true → (p ≡ 14 → g < 4) → record_in sky g p ≡ Even (entry_at sky (slot_of_pair g p)).even
  unfolding record_in
  record_even g = pair_cases (λ p. (p ≡ 14 → g < 4) → record_in sky g p ≡ Even (entry_at sky (slot_of_pair g p)).even)
      (λ h. refl) (λ h. refl) (λ h. refl) (λ h. refl) (λ h. let k : g < 4 = h refl in rw (ne_eqb g 4 (λ q. omega arith)))

  record_odd : (g p : ℕ) → is_one_of pairs p ≡ true → (p ≡ 14 → g < 4) → record_in sky g (p + 1) ≡ Odd (with_l sky.five.l (entry_at sky (slot_of_pair g p)).odd)
  unfolding record_in
  record_odd g = pair_cases (λ p. (p ≡ 14 → g < 4) → record_in sky g (p + 1) ≡ Odd (with_l sky.five.l (entry_at sky (slot_of_pair g p)).odd))
      (λ h. refl) (λ h. refl) (λ h. refl) (λ h. refl) (λ h. let k : g < 4 = h refl in rw (ne_eqb g 4 (λ q. omega arith)))

  last_two : (record_in sky 4 14 ≡ Fourteen sky.fourteen) × (record_in sky 4 15 ≡ Odd (with_l sky.five.l zero_odd))
  unfolding record_in
  last_two = (refl, refl)

  slot_even : (k : ℕ) → 1 ≤ k → k ≤ 24 → record_in sky (frame_of_slot k) (pair_of_slot k) ≡ Even (entry_at sky k).even
  slot_even k a b =
      let back : slot_of_pair (frame_of_slot k) (pair_of_slot k) ≡ k = omega arith in
      record_even (frame_of_slot k) (pair_of_slot k) (pair_named k) (λ q. omega arith) ∙ ap (λ (j : ℕ). Even (entry_at sky j).even) back

  slot_odd : (k : ℕ) → 1 ≤ k → k ≤ 24 → record_in sky (frame_of_slot k) (pair_of_slot k + 1) ≡ Odd (with_l sky.five.l (entry_at sky k).odd)
  slot_odd k a b =
      let back : slot_of_pair (frame_of_slot k) (pair_of_slot k) ≡ k = omega arith in
      record_odd (frame_of_slot k) (pair_of_slot k) (pair_named k) (λ q. omega arith) ∙ ap (λ (j : ℕ). Odd (with_l sky.five.l (entry_at sky j).odd)) back

  pub places : Places sky
  places = record { alike = alike sky; even = slot_even; odd = slot_odd; fourteen = last_two.0; fifteen = last_two.1 }
