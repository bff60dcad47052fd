-- Where a salvage goes on, test by test as the code asks (resumes-none, resumes-end, resumes-next), and what that says of the place (resumes-size,
-- resumes-two). The search for the first such place, a byte at a time (search-here, search-on, search-end); it ends there, or at the end (next-in, next-first).
-- Assumes nothing.
use Prim.Native.Nat.{ℕ, zero, suc, ◌+◌, ◌-◌, ◌≤◌, ◌<◌}
use native.Mathlib.Nat.{eq-or-lt_of_le}
use native.Mathlib.Omega.{arith}
use mathlib.Core.Path.{◌≡◌, refl, sym, ap, ◌∙◌}
use mathlib.Core.Bool.{Bool, true, false, not, ◌&&◌, ◌||◌, true≢false}
use mathlib.Core.List.{List}
use mathlib.Core.Logic.{◌⊎◌, inl, inr, ⊎_elim}
use lib.Dec.{leb, eqb}
use lib.ListN.{length, drop, length-drop}
use lib.Seq.{drop-drop}
use borrow.Author.Tests.{leb-true, leb-false, eqb-true, eq-eqb, ne_eqb}
use Rattle.std.specs.Option.{MatchOption, unwrap_or}
use Rattle.std.specs.declared.option.Option.{Option}
use Rattle.std.specs.declared.option.Option.TheVariants.{None, Some}
use Rattle.strings.specs.Pick.{pick}
use Rattle.fields.specs.Fields.{is_good, size_in, size_at}
use Rattle.fields.proofs.Whole.{size_is, size_none, good_size}
use Rattle.salvage.specs.Items.{behind, resumes, search_from, next_place}
use Rattle.salvage.specs.Rules.{First}

pub not_zero : (n : ℕ) → (n ≡ 0 → ⊥) → 0 < n
not_zero zero h = absurd (h refl)
not_zero (suc n) h = omega arith

pub le_or : (r q : ℕ) → (r ≤ q) ⊎ (q < r)
le_or r q = by (leb r q) refl
  where
    by : (t : Bool) → leb r q ≡ t → (r ≤ q) ⊎ (q < r)
    by true e = inl (leb-true r q e)
    by false e = inr (leb-false r q e)

-- ---- a field is good where it has bytes
good_by_size : (rest : List ℕ) → not (eqb (size_in rest) 0) ≡ is_good rest
good_by_size rest = by (is_good rest) refl
  where
    by : (b : Bool) → is_good rest ≡ b → not (eqb (size_in rest) 0) ≡ b
    by true e = ap not (ne_eqb (size_in rest) 0 (λ z. omega (arith, z, size_is rest e)))
    by false e = ap not (eq-eqb (size_in rest) 0 (size_none rest e))

bad_zero : (rest : List ℕ) → size_in rest ≡ 0 → is_good rest ≡ false
bad_zero rest z = sym (good_by_size rest) ∙ ap not (eq-eqb (size_in rest) 0 z)

good_more : (rest : List ℕ) → (size_in rest ≡ 0 → ⊥) → is_good rest ≡ true
good_more rest z = good_size rest (not_zero (size_in rest) z)

-- ---- the places where it goes on
module _ (s : List ℕ) (at : ℕ) where
  abbrev here : List ℕ
  here = drop at s

  behind_is : behind here ≡ drop (at + size_at s at) s
  behind_is = drop-drop (size_at s at) at s

  behind_long : length (behind here) ≡ length s - at - size_at s at
  behind_long = omega (arith, length-drop (size_at s at) here, length-drop at s)

  pub resumes_none : size_at s at ≡ 0 → false ≡ resumes s at
  unfolding resumes
  resumes_none z = rw (bad_zero here z) refl

  or_true : (b : Bool) → true ≡ (b || true)
  or_true true = refl
  or_true false = refl

  pub resumes_end : (size_at s at ≡ 0 → ⊥) → at + size_at s at ≡ length s → true ≡ resumes s at
  unfolding resumes
  resumes_end z e =
      rw (good_more here z, eq-eqb (length (behind here)) 0 (omega (arith, behind_long, e))) (or_true (is_good (behind here)))

  or_false : (b : Bool) → b ≡ (b || false)
  or_false true = refl
  or_false false = refl

  pub resumes_next : (size_at s at ≡ 0 → ⊥) → at + size_at s at < length s → not (eqb (size_at s (at + size_at s at)) 0) ≡ resumes s at
  unfolding resumes
  resumes_next z e =
      rw (good_more here z, ne_eqb (length (behind here)) 0 (λ q. omega (arith, q, behind_long, e)))
      (good_by_size (drop (at + size_at s at) s) ∙ ap is_good (sym behind_is) ∙ or_false (is_good (behind here)))

  -- what is known where it goes on: a good field, and behind it the end or another
  both : (g h e : Bool) → ((g && h) || (g && e)) ≡ true → (g ≡ true) × ((h ≡ true) ⊎ (e ≡ true))
  both true true e p = (refl, inl refl)
  both true false e p = (refl, inr p)
  both false h e p = absurd (true≢false (sym p))

  some_size : (rest : List ℕ) → is_good rest ≡ true → 0 < size_in rest
  some_size rest e = omega (arith, size_is rest e)

  pub resumes_size : resumes s at ≡ true → 0 < size_at s at
  unfolding resumes
  resumes_size p = some_size here (both (is_good here) (is_good (behind here)) (eqb (length (behind here)) 0) p).0

  pub resumes_two : resumes s at ≡ true → (0 < size_at s (at + size_at s at)) ⊎ (length s ≤ at + size_at s at)
  unfolding resumes
  resumes_two p =
      ⊎_elim (λ (h : is_good (behind here) ≡ true). inl (some_size (drop (at + size_at s at) s) (ap is_good (sym behind_is) ∙ h)))
      (λ (h : eqb (length (behind here)) 0 ≡ true). inr (omega (arith, eqb-true (length (behind here)) 0 h, behind_long)))
      (both (is_good here) (is_good (behind here)) (eqb (length (behind here)) 0) p).1

-- ---- the search
between : (t : Bool) (a b lo hi : ℕ) → (lo ≤ a) × (a ≤ hi) → (lo ≤ b) × (b ≤ hi) → (lo ≤ pick t a b) × (pick t a b ≤ hi)
between true a b lo hi p q = p
between false a b lo hi p q = q

search_in : (s : List ℕ) (n at : ℕ) → (at ≤ search_from s n at) × (search_from s n at ≤ at + n)
search_in s zero at = omega arith
search_in s (suc n) at =
    let h = search_in s n (suc at) in
    between (resumes s at) at (search_from s n (suc at)) at (at + suc n) (omega arith) (omega (arith, h.0, h.1))

pub next_in : (s : List ℕ) (at : ℕ) → at < length s → (at < next_place s at) × (next_place s at ≤ length s)
unfolding next_place
next_in s at h = let r = search_in s (length s - suc at) (suc at) in omega (arith, r.0, r.1)

-- as the code goes
abbrev pub search : List ℕ → ℕ → ℕ
search s q = search_from s (length s - q) q

module _ (s : List ℕ) (q : ℕ) where
  one_more_lem : q < length s → length s - q ≡ suc (length s - suc q)
  one_more_lem h = omega arith

  pub search_here : q < length s → resumes s q ≡ true → search s q ≡ q
  search_here h e = rw (one_more_lem h) (ap (λ (t : Bool). pick t q (search_from s (length s - suc q) (suc q))) e)

  pub search_on : q < length s → resumes s q ≡ false → search s q ≡ search s (suc q)
  search_on h e = rw (one_more_lem h) (ap (λ (t : Bool). pick t q (search_from s (length s - suc q) (suc q))) e)

  pub search_end : length s ≤ q → search s q ≡ q
  search_end h = let l : length s - q ≡ 0 = omega arith in rw l refl

-- ---- it ends at the first place where it goes on, or at the end of the file
go_first : (s : List ℕ) (n at k : ℕ) (t : Bool) → resumes s at ≡ t → ((j : ℕ) → suc at ≤ j → j < search_from s n (suc at) → resumes s j ≡ false)
    → at ≤ k → k < pick t at (search_from s n (suc at)) → resumes s k ≡ false
go_first s n at k true e f l h = absurd (omega arith)
go_first s n at k false e f l h = ⊎_elim (λ (q : at ≡ k). ap (resumes s) (sym q) ∙ e) (λ (q : at < k). f k q h) (eq-or-lt_of_le l)

search_first : (s : List ℕ) (n at k : ℕ) → at ≤ k → k < search_from s n at → resumes s k ≡ false
search_first s zero at k l h = absurd (omega arith)
search_first s (suc n) at k l h = go_first s n at k (resumes s at) refl (λ j a b. search_first s n (suc at) j a b) l h

go_hit : (s : List ℕ) (n at : ℕ) (t : Bool) → resumes s at ≡ t → (search_from s n (suc at) < suc at + n → resumes s (search_from s n (suc at)) ≡ true)
    → pick t at (search_from s n (suc at)) < at + suc n → resumes s (pick t at (search_from s n (suc at))) ≡ true
go_hit s n at true e f h = e
go_hit s n at false e f h = f (omega (arith, h))

search_hit : (s : List ℕ) (n at : ℕ) → search_from s n at < at + n → resumes s (search_from s n at) ≡ true
search_hit s zero at h = absurd (omega arith)
search_hit s (suc n) at h = go_hit s n at (resumes s at) refl (search_hit s n (suc at)) h

pub next_first : (s : List ℕ) (at : ℕ) → at < length s → First s at (next_place s at)
unfolding next_place
next_first s at h =
    let r = search_in s (length s - suc at) (suc at) in
    record {
      after = r.0;
      within = omega (arith, r.1);
      none_before = λ k a b. search_first s (length s - suc at) (suc at) k a b;
      here = λ b. search_hit s (length s - suc at) (suc at) (omega (arith, b));
    }

-- there is one first place
first_one : (s : List ℕ) (at q r : ℕ) → First s at q → First s at r → r ≤ q
first_one s at q r f g =
    ⊎_elim (λ (l : r ≤ q). l) (λ (l : q < r). absurd (true≢false (sym (f.here (omega (arith, l, g.within))) ∙ g.none_before q f.after l))) (le_or r q)

pub first_same : (s : List ℕ) (at q r : ℕ) → First s at q → First s at r → q ≡ r
first_same s at q r f g = omega (arith, first_one s at q r f g, first_one s at r q g f)

-- the code's search finds it
pub next_found : (s : List ℕ) (at : ℕ) (r : Option ℕ) → at < length s
    → MatchOption r ((k : ℕ) → at + 1 ≤ k → k < length s → resumes s k ≡ false)
    (λ i. (at + 1 ≤ i) × (i < length s) × (resumes s i ≡ true) × ((k : ℕ) → at + 1 ≤ k → k < i → resumes s k ≡ false))
    → unwrap_or r (length s) ≡ next_place s at
next_found s at None l h =
    let f : First s at (length s) = record { after = l; within = omega arith; none_before = λ k a b. h k (omega arith) b; here = λ b. absurd (omega arith) } in
    first_same s at (length s) (next_place s at) f (next_first s at l)
next_found s at (Some i) l h =
    let f : First s at i = record { after = omega (arith, h.0); within = omega (arith, h.1); none_before = λ k a b. h.3 k (omega arith) b; here = λ b. h.2 } in
    first_same s at i (next_place s at) f (next_first s at l)
