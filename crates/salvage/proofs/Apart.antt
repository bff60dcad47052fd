-- Between two stretches stand two fields (items-apart), so that a list with room for one in seven bytes is never too short (few). Never 44 and never 45 where
-- there is room enough (never-44, never-45).
-- Assumes nothing.
use Prim.Native.Nat.{ℕ, ◌+◌, ◌-◌, ◌*◌, ◌/◌, ◌≤◌, ◌<◌}
use native.Mathlib.Omega.{arith}
use mathlib.Core.Path.{◌≡◌, refl, ap, ◌∙◌}
use mathlib.Core.Bool.{true}
use mathlib.Core.List.{List, [], ◌∷◌, ◌++◌}
use mathlib.Core.Logic.{⊎_elim}
use lib.ListN.{length}
use Rattle.fields.specs.Fields.{size_at}
use Rattle.std.specs.Prelude.{Err}
use Rattle.fields.proofs.Near.{size_in_lem, size_three}
use Rattle.salvage.specs.declared.Full.TheVariants.{Output as OutputFull, List as ListFull}
use Rattle.salvage.specs.declared.Salvaged.{Salvaged}
use Rattle.salvage.specs.Items.{Item, Kept, Skipped, resumes, next_place, items_of}
use Rattle.salvage.specs.Rules.{First}
use Rattle.salvage.specs.Writing.{fitting, stretches, skips, slots_of, Salvages}
use Rattle.salvage.specs.Laws.{list_in, Apart, kept_count, StopsAt}
use Rattle.salvage.proofs.Places.{le_or, resumes_size, resumes_two, next_first}
use Rattle.salvage.proofs.Items.{all_ind}
use Rattle.salvage.proofs.Rules.{rules}
use Rattle.salvage.proofs.Ends.{kept_before, skips_before, written_list, end, front_of}
use Rattle.salvage.proofs.Parts.{From, from_less, items_once}

-- ---- the stretches from a place on: how far from it the first may start, and how many there may be
record Gaps (s : List ℕ) (p : ℕ) (is : List Item) : Type 0 where
  pub apart : Apart (stretches is)
  pub from : From p (stretches is)
  pub one : 0 < size_at s p → From (p + 3) (stretches is)
  pub two : resumes s p ≡ true → From (p + 6) (stretches is)
  pub none : length s ≤ p → stretches is ≡ []

apart_more : (first count : ℕ) (list : List ℕ) → From (first + count + 6) list → Apart list → Apart (first ∷ count ∷ list)
apart_more first count [] f a = tt
apart_more first count (next ∷ more) f a = (f, a)

gaps_bad : (s : List ℕ) (p q : ℕ) (is : List Item) → p < length s → size_at s p ≡ 0 → First s p q → Gaps s q is → Gaps s p (Skipped p (q - p) ∷ is)
gaps_bad s p q is l z g f =
    let e : p + (q - p) + 6 ≡ q + 6 = omega (arith, g.after) in
    let far : From (q + 6) (stretches is) =
    ⊎_elim (λ (h : length s ≤ q). rw (f.none h) tt) (λ (h : q < length s). f.two (g.here h)) (le_or (length s) q) in
    record {
      apart = apart_more p (q - p) (stretches is) (rw e far) f.apart;
      from = omega arith;
      one = λ h. absurd (omega (arith, h, z));
      two = λ h. absurd (omega (arith, resumes_size s p h, z));
      none = λ h. absurd (omega (arith, h, l));
    }

gaps_good : (s : List ℕ) (p : ℕ) (is : List Item) → p < length s → 0 < size_at s p → Gaps s (p + size_at s p) is → Gaps s p (Kept p (size_at s p) ∷ is)
gaps_good s p is l z f =
    let q = p + size_at s p in
    let t = size_three s p z in
    record {
      apart = f.apart;
      from = from_less p q (stretches is) (omega arith) f.from;
      one = λ h. from_less (p + 3) q (stretches is) (omega (arith, t)) f.from;
      two = λ h.
          ⊎_elim (λ (g : 0 < size_at s q). from_less (p + 6) (q + 3) (stretches is) (omega (arith, t)) (f.one g))
          (λ (g : length s ≤ q). rw (f.none g) tt) (resumes_two s p h);
      none = λ h. absurd (omega (arith, h, l));
    }

pub items_apart : (s : List ℕ) → Apart (stretches (items_of s))
items_apart s =
    (all_ind s (Gaps s)
    (λ p l. record { apart = tt; from = tt; one = λ h. tt; two = λ h. tt; none = λ h. refl })
    (λ p is l z f. gaps_bad s p (next_place s p) is l z (next_first s p l) f)
    (gaps_good s)).apart

-- of the first of them too
apart_front : (a b : List ℕ) → Apart (a ++ b) → Apart a
apart_front [] b h = tt
apart_front (f ∷ []) b h = tt
apart_front (f ∷ c ∷ []) b h = tt
apart_front (f ∷ c ∷ next ∷ more) b h = (h.0, apart_front (next ∷ more) b h.1)

pub stretches_append : (a b : List Item) → stretches (a ++ b) ≡ stretches a ++ stretches b
stretches_append [] b = refl
stretches_append (Kept at n ∷ a) b = stretches_append a b
stretches_append (Skipped at n ∷ a) b = ap (λ (l : List ℕ). at ∷ n ∷ l) (stretches_append a b)

-- ---- how many stretches there may be
record Few (s : List ℕ) (p : ℕ) (is : List Item) : Type 0 where
  pub any : 7 * skips is ≤ length s - p + 6
  pub one : 0 < size_at s p → 7 * skips is ≤ length s - p + 3
  pub two : resumes s p ≡ true → 7 * skips is ≤ length s - p

few_bad : (s : List ℕ) (p q : ℕ) (is : List Item) → p < length s → size_at s p ≡ 0 → First s p q → Few s q is → Few s p (Skipped p (q - p) ∷ is)
few_bad s p q is l z g f =
    record {
      any = ⊎_elim (λ (h : length s ≤ q). omega (arith, h, f.any, l))
          (λ (h : q < length s). omega (arith, f.two (g.here h), g.after, h)) (le_or (length s) q);
      one = λ h. absurd (omega (arith, h, z));
      two = λ h. absurd (omega (arith, resumes_size s p h, z));
    }

few_good : (s : List ℕ) (p : ℕ) (is : List Item) → p < length s → 0 < size_at s p → Few s (p + size_at s p) is → Few s p (Kept p (size_at s p) ∷ is)
few_good s p is l z f =
    let q = p + size_at s p in
    let t = size_three s p z in
    let i = size_in_lem s p z in
    record {
      any = omega (arith, f.any, t, i);
      one = λ h. omega (arith, f.any, t, i);
      two = λ h.
          ⊎_elim (λ (g : 0 < size_at s q). omega (arith, f.one g, t, i)) (λ (g : length s ≤ q). omega (arith, f.any, g, t, i)) (resumes_two s p h);
    }

pub few : (s : List ℕ) → 7 * skips (items_of s) ≤ length s + 6
few s =
    let f = all_ind s (Few s) (λ p l. record { any = omega arith; one = λ h. omega arith; two = λ h. omega arith })
    (λ p is l z f. few_bad s p (next_place s p) is l z (next_first s p l) f) (few_good s) in
    omega (arith, f.any)

module _ (file out list : List ℕ) (r : Salvaged) (out' list' : List ℕ) (h : Salvages file out list r out' list') where
  pub apart : Apart (list_in r list')
  apart =
      let w = fitting (length out) (slots_of list) (items_of file) in
      let f = front_of (length out) (slots_of list) (items_of file) in
      let e : stretches (items_of file) ≡ stretches w ++ stretches f.after = ap stretches f.split ∙ stretches_append w f.after in
      rw (written_list file out list r out' list' h) (apart_front (stretches w) (stretches f.after) (rw e at (items_apart file)))

  pub never_44 : length file ≤ length out → (at : ℕ) → r.ended ≡ Err (OutputFull at) → ⊥
  never_44 l at e =
      let x : StopsAt (items_of file) (length out) (slots_of list) (Kept at) = ((end file out list r out' list' h).output at).0 e in
      let c = items_once 0 (length file) (items_of file) (rules file).follow in
      let k = kept_before x.before (Kept at x.count) x.after in
      x.full (omega (arith, k, ap kept_count x.split, c, l), omega (arith, x.fit.1, skips-kept x.before at x.count))
    where
      skips-kept : (a : List Item) (at n : ℕ) → skips (a ++ (Kept at n ∷ [])) ≡ skips a
      skips-kept [] at n = refl
      skips-kept (Kept p m ∷ a) at n = skips-kept a at n
      skips-kept (Skipped p m ∷ a) at n = omega (arith, skips-kept a at n)

  pub never_45 : (length file + 6) / 7 ≤ slots_of list → (at : ℕ) → r.ended ≡ Err (ListFull at) → ⊥
  never_45 l at e =
      let x : StopsAt (items_of file) (length out) (slots_of list) (Skipped at) = ((end file out list r out' list' h).list at).0 e in
      let k = skips_before x.before (Skipped at x.count) x.after in
      x.full (omega (arith, x.fit.0, kept-skipped x.before at x.count), omega (arith, k, ap skips x.split, few file, l))
    where
      kept-skipped : (a : List Item) (at n : ℕ) → kept_count (a ++ (Skipped at n ∷ [])) ≡ kept_count a
      kept-skipped [] at n = refl
      kept-skipped (Kept p m ∷ a) at n = omega (arith, kept-skipped a at n)
      kept-skipped (Skipped p m ∷ a) at n = kept-skipped a at n
