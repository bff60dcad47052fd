-- What the two refusals of words mean: refusals. And how the code's searches come by them.
-- Assumes nothing.
use mathlib.Core.Path.{◌≡◌, refl, sym, ap, ap₂, subst, ◌∙◌}
use mathlib.Core.Bool.{Bool, true, false, not, ◌&&◌, ◌||◌, true≢false}
use Prim.Native.Nat.{ℕ, zero, suc, ◌+◌, ◌-◌, ◌*◌, ◌/◌, ◌%◌, ◌≤◌, ◌<◌}
use native.Mathlib.Omega.{arith}
use borrow.Author.Tests.{eq-eqb, eqb-true, eqb-false, not-false, ltb-true, ltb-false}
use lib.Dec.{eqb, ltb}
use lib.IntN.{ℤ, pos, negsuc, nat_abs}
use lib.Signed.{lt_z}
use lib.ListN.{get_or}
use mathlib.Core.List.{List}
use Rattle.std.specs.Bool.{MatchBool}
use Rattle.std.specs.List.{range_with_len, AllWithin, HoldsAt}
use Rattle.std.specs.Option.{MatchOption, unwrap_or}
use Rattle.std.specs.declared.option.Option.{Option}
use Rattle.std.specs.declared.option.Option.TheVariants.{None, Some}
use Rattle.std.proofs.lemmas.List.FromFn.{get_or-range_with_len}
use Rattle.strings.specs.Pick.{pick}
use Rattle.records.specs.Records.{list_of}
use Rattle.records.specs.declared.kinds.Kind.TheVariants.{Five, Odd}
use Rattle.records.specs.declared.named.String5.{String5}
use Rattle.records.specs.declared.named.Record.TheVariants.{Five as Five', Odd as Odd'}
use Rattle.layout.specs.Layout.{layout, plain}
use Rattle.words.specs.Values.{first_bad, in_range}
use Rattle.words.proofs.Fits.{layout_laid, range_at}
use Rattle.superframe.specs.declared.Sky.{Sky}
use Rattle.superframe.specs.Sky.{with_l, zero_odd, entry_at, record_in, frame_at, string_number}
use Rattle.superframe.specs.Refused.{is_number, wrong_slot, words_bad, string_bad, lowest_bad, Makes, Lowest, Refusals}

-- ---- tests
or_none : (a b : Bool) → (a || b) ≡ false → (a ≡ false) × (b ≡ false)
or_none true b e = absurd (true≢false e)
or_none false b e = (refl, e)

none_or : (a b : Bool) → a ≡ false → b ≡ false → (a || b) ≡ false
none_or true b e f = e
none_or false b e f = f

number_is : (z : ℤ) (k : ℕ) → is_number z k ≡ true → z ≡ pos k
number_is (pos n) k e = ap pos (eqb-true n k e)
number_is (negsuc n) k e = absurd (true≢false (sym e))

is_number_lem : (z : ℤ) (k : ℕ) → z ≡ pos k → is_number z k ≡ true
is_number_lem z k e = ap (λ (x : ℤ). is_number x k) e ∙ eq-eqb k k refl

not_number : (z : ℤ) (k : ℕ) → (z ≡ pos k → ⊥) → is_number z k ≡ false
not_number z k h = by (is_number z k) refl
  where
    by : (t : Bool) → is_number z k ≡ t → t ≡ false
    by true q = absurd (h (number_is z k q))
    by false q = refl

-- a word below zero has no such value, and any other has its magnitude
pub below_none : (z : ℤ) (k : ℕ) → lt_z z (pos 0) ≡ true → false ≡ is_number z k
below_none (pos n) k t = absurd (omega (arith, ltb-true n 0 t))
below_none (negsuc n) k t = refl

pub from_number : (z : ℤ) (k : ℕ) → lt_z z (pos 0) ≡ false → eqb (nat_abs z) k ≡ is_number z k
from_number (pos n) k t = refl
from_number (negsuc n) k t = absurd (true≢false t)

-- below a number or at it
split : (P : ℕ → Type 0) (n : ℕ) → ((k : ℕ) → 1 ≤ k → k ≤ n → P k) → P (suc n) → (k : ℕ) → 1 ≤ k → k ≤ suc n → P k
split P n before last k a b = by (ltb k (suc n)) refl
  where
    by : (t : Bool) → ltb k (suc n) ≡ t → P k
    by true q = before k a (omega (arith, ltb-true k (suc n) q))
    by false q = let e : suc n ≡ k = omega (arith, ltb-false k (suc n) q) in subst P e last

-- ---- 18
slots_right : (sky : Sky) (n : ℕ) → wrong_slot sky n ≡ false → (k : ℕ) → 1 ≤ k → k ≤ n → (entry_at sky k).even.na ≡ pos k
unfolding wrong_slot
slots_right sky zero e = λ k a b. absurd (omega arith)
slots_right sky (suc n) e =
    let w = or_none (wrong_slot sky n) (not (is_number (entry_at sky (suc n)).even.na (suc n))) e in
    split (λ k. (entry_at sky k).even.na ≡ pos k) n (slots_right sky n w.0) (number_is (entry_at sky (suc n)).even.na (suc n) (not-false _ w.1))

right_slots : (sky : Sky) (n : ℕ) → ((k : ℕ) → 1 ≤ k → k ≤ n → (entry_at sky k).even.na ≡ pos k) → wrong_slot sky n ≡ false
unfolding wrong_slot
right_slots sky zero h = refl
right_slots sky (suc n) h =
    none_or (wrong_slot sky n) _ (right_slots sky n (λ k a b. h k a (omega arith))) (ap not (is_number_lem (entry_at sky (suc n)).even.na (suc n) (h (suc n) (omega arith) (omega arith))))

-- a slot that is wrong stays so
wrong_here : (sky : Sky) (k : ℕ) → 1 ≤ k → is_number (entry_at sky k).even.na k ≡ false → (n : ℕ) → k ≤ n → wrong_slot sky n ≡ true
wrong_here sky k a f n b = by (wrong_slot sky n) refl
  where
    by : (t : Bool) → wrong_slot sky n ≡ t → t ≡ true
    by true q = refl
    by false q = absurd (true≢false (sym (is_number_lem _ k (slots_right sky n q k a b)) ∙ f))

-- the code's question of 1 to 24
abbrev pub carries : Sky → ℕ → Bool
carries sky k = is_number (entry_at sky k).even.na k

abbrev asked : List ℕ
asked = range_with_len 1 24

pub slots_found : (sky : Sky) (r : Bool) → MatchBool r (AllWithin (λ k. carries sky k ≡ true) asked 0 24) ((k : ℕ) × (k < 24) × HoldsAt (λ k. carries sky k ≡ false) asked k) → r ≡ not (wrong_slot sky 24)
slots_found sky true h = sym (ap not (right_slots sky 24 all))
  where
    all : (k : ℕ) → 1 ≤ k → k ≤ 24 → (entry_at sky k).even.na ≡ pos k
    all k a b =
        let e : get_or asked (k - 1) 0 ≡ k = get_or-range_with_len 1 24 (k - 1) 0 (omega arith) ∙ omega arith in
        number_is (entry_at sky k).even.na k (subst (λ (i : ℕ). carries sky i ≡ true) e (h (k - 1) 0 (omega arith) (omega arith)))
slots_found sky false h =
    let k = h.0 in
    let f = subst (λ (i : ℕ). carries sky i ≡ false) (get_or-range_with_len 1 24 k 0 h.1) (h.2 0) in
    sym (ap not (wrong_here sky (1 + k) (omega arith) f 24 (omega (arith, h.1))))

-- ---- 10
lowest_by : (l n : ℕ) (s : Bool) → pick (eqb l 0) (pick s (suc n) 0) l ≡ 0 → (l ≡ 0) × (s ≡ false)
lowest_by l n s = by (eqb l 0) s refl
  where
    by : (t s : Bool) → eqb l 0 ≡ t → pick t (pick s (suc n) 0) l ≡ 0 → (l ≡ 0) × (s ≡ false)
    by true true q e = absurd (omega arith)
    by true false q e = (eqb-true l 0 q, refl)
    by false s q e = absurd (eqb-false l 0 q e)

none_bad : (sky : Sky) (n : ℕ) → lowest_bad sky n ≡ 0 → (i : ℕ) → 1 ≤ i → i ≤ n → string_bad sky i ≡ false
unfolding lowest_bad
none_bad sky zero e = λ i a b. absurd (omega arith)
none_bad sky (suc n) e =
    let w = lowest_by (lowest_bad sky n) n (string_bad sky (suc n)) e in
    split (λ i. string_bad sky i ≡ false) n (none_bad sky n w.0) w.1

bad_none : (sky : Sky) (n : ℕ) → ((i : ℕ) → 1 ≤ i → i ≤ n → string_bad sky i ≡ false) → lowest_bad sky n ≡ 0
unfolding lowest_bad
bad_none sky zero h = refl
bad_none sky (suc n) h = rw (bad_none sky n (λ i a b. h i a (omega arith)), h (suc n) (omega arith) (omega arith))

lowest_told : (sky : Sky) (n : ℕ) → (lowest_bad sky n ≡ 0 → ⊥) → Lowest sky n (lowest_bad sky n)
unfolding lowest_bad
lowest_told sky zero = λ h. absurd (h refl)
lowest_told sky (suc n) = by (eqb (lowest_bad sky n) 0) (string_bad sky (suc n)) refl refl (lowest_told sky n)
  where
    by : (t s : Bool) → eqb (lowest_bad sky n) 0 ≡ t → string_bad sky (suc n) ≡ s → ((lowest_bad sky n ≡ 0 → ⊥) → Lowest sky n (lowest_bad sky n))
        → (pick t (pick s (suc n) 0) (lowest_bad sky n) ≡ 0 → ⊥) → Lowest sky (suc n) (pick t (pick s (suc n) 0) (lowest_bad sky n))
    by true true q w ih h =
        record { least = omega arith; most = omega arith; bad = w; none = λ j a b. none_bad sky n (eqb-true (lowest_bad sky n) 0 q) j a (omega arith) }
    by true false q w ih h = absurd (h refl)
    by false s q w ih h = let o = ih (eqb-false (lowest_bad sky n) 0 q) in record { least = o.least; most = omega (arith, o.most); bad = o.bad; none = o.none }

-- the place told is one of n
pub lowest_most : (sky : Sky) (n : ℕ) → lowest_bad sky n ≤ n
lowest_most sky n = by (eqb (lowest_bad sky n) 0) refl
  where
    by : (t : Bool) → eqb (lowest_bad sky n) 0 ≡ t → lowest_bad sky n ≤ n
    by true q = omega (arith, eqb-true (lowest_bad sky n) 0 q)
    by false q = (lowest_told sky n (eqb-false (lowest_bad sky n) 0 q)).most

-- the first that is refused is the lowest, however many follow
lowest_here : (sky : Sky) (i : ℕ) → 1 ≤ i → ((j : ℕ) → 1 ≤ j → j < i → string_bad sky j ≡ false) → string_bad sky i ≡ true → (n : ℕ) → i ≤ n → i ≡ lowest_bad sky n
lowest_here sky i a none f n b = by (ltb (lowest_bad sky n) i) (ltb i (lowest_bad sky n)) refl refl
  where
    some : lowest_bad sky n ≡ 0 → ⊥
    some z = true≢false (sym f ∙ none_bad sky n z i a b)

    by : (s t : Bool) → ltb (lowest_bad sky n) i ≡ s → ltb i (lowest_bad sky n) ≡ t → i ≡ lowest_bad sky n
    by true t p q = let o = lowest_told sky n some in absurd (true≢false (sym o.bad ∙ none (lowest_bad sky n) o.least (ltb-true (lowest_bad sky n) i p)))
    by false true p q = let o = lowest_told sky n some in absurd (true≢false (sym f ∙ o.none i a (ltb-true i (lowest_bad sky n) q)))
    by false false p q = omega (arith, ltb-false (lowest_bad sky n) i p, ltb-false i (lowest_bad sky n) q)

-- the code's search of 1 to 75
pub lowest_found : (sky : Sky) (r : Option ℕ)
    → MatchOption r ((k : ℕ) → 1 ≤ k → k < 76 → string_bad sky k ≡ false) (λ i. (1 ≤ i) × (i < 76) × (string_bad sky i ≡ true) × ((k : ℕ) → 1 ≤ k → k < i → string_bad sky k ≡ false))
    → unwrap_or r 0 ≡ lowest_bad sky 75
lowest_found sky None h = sym (bad_none sky 75 (λ i a b. h i a (omega arith)))
lowest_found sky (Some i) h = lowest_here sky i h.0 h.3 h.2 75 (omega (arith, h.1))

-- a string that is not refused, where none is
pub none_told : (sky : Sky) → lowest_bad sky 75 ≡ 0 → (i : ℕ) → 1 ≤ i → i ≤ 75 → string_bad sky i ≡ false
none_told sky = none_bad sky 75

-- ---- WHAT IS NOT REFUSED
makes : (sky : Sky) → wrong_slot sky 24 ≡ false → lowest_bad sky 75 ≡ 0 → Makes sky
unfolding string_bad
makes sky w z =
    let fine = none_bad sky 75 z in
    record {
      slots = slots_right sky 24 w;
      range = λ g m l a b. let p : (15 * g + m - 1) / 15 ≡ g = omega arith in
          let q : (15 * g + m - 1) % 15 + 1 ≡ m = omega arith in
          eqb-true _ 0 (not-false _ (sym (ap₂ (words_bad sky) p q) ∙ (or_none _ _ (fine (15 * g + m) (omega arith) (omega arith))).0));
      stated = λ q. true≢false (sym (is_number_lem sky.five.n4 0 q) ∙ (or_none (words_bad sky 0 5) (is_number sky.five.n4 0) (fine 5 (omega arith) (omega arith))).1);
    }

fine_at : (sky : Sky) → Makes sky → (i : ℕ) → 1 ≤ i → i ≤ 75 → string_bad sky i ≡ false
unfolding string_bad
fine_at sky o i a b =
    none_or (words_bad sky (frame_at i) (string_number i)) (eqb i 5 && is_number sky.five.n4 0)
    (ap not (eq-eqb _ 0 (o.range (frame_at i) (string_number i) (omega arith) (omega arith) (omega arith)))) (rw (not_number sky.five.n4 0 o.stated) (and_none (eqb i 5)))
  where
    and_none : (t : Bool) → (t && false) ≡ false
    and_none true = refl
    and_none false = refl

-- ---- STRING 75 IS NEVER TOLD: its only word is string 5's l
l_in : (l : ℤ) → in_range (plain 9 9) l ≡ true → first_bad (layout Odd) (list_of (Odd' (with_l l zero_odd))) ≡ 0
unfolding first_bad layout list_of
l_in l e = rw e

five_l : (r : String5) → first_bad (layout Five) (list_of (Five' r)) ≡ 0 → in_range (plain 9 9) r.l ≡ true
unfolding layout list_of
five_l r e = range_at (layout Five) (list_of (Five' r)) 80 (layout_laid Five) refl e 4 (omega arith)

never_75 : (sky : Sky) → lowest_bad sky 75 ≡ 75 → ⊥
unfolding string_bad record_in
never_75 sky e =
    let o = lowest_told sky 75 (λ z. omega arith) in
    let five = (or_none (words_bad sky 0 5) (is_number sky.five.n4 0) (o.none 5 (omega arith) (omega arith))).0 in
    let l = l_in sky.five.l (five_l sky.five (eqb-true _ 0 (not-false _ five))) in
    true≢false (sym (subst (λ (i : ℕ). string_bad sky i ≡ true) e o.bad) ∙ rw l)

pub refusals : (sky : Sky) → Refusals sky
refusals sky =
    record {
      makes = makes sky;
      made = λ o. (right_slots sky 24 o.slots, bad_none sky 75 (fine_at sky o));
      told = lowest_told sky 75;
      never_75 = never_75 sky;
    }
