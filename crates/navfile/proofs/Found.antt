-- Of every ask that is not refused a record of its satellite and epoch is written, from an office that has written none (all_found); and of those of one
-- satellite no two neighbours have one epoch (neighbours).
-- Assumes nothing.
use Prim.Native.Nat.{ℕ, zero, suc, ◌<◌}
use mathlib.Core.Bool.{Bool, true, false, ◌&&◌}
use mathlib.Core.List.Memᴰ
use mathlib.Core.List.{List, [], ◌∷◌, ◌++◌, Memᴰ}
use mathlib.Core.Logic.{◌⊎◌, inl, inr, ⊎_elim}
use mathlib.Core.Path.{◌≡◌, refl, sym, ap, subst, ◌∙◌}
use native.Mathlib.Omega.{arith}
use borrow.Author.Tests.{eqb-true, eqb-false, not-true, not-false}
use lib.Dec.{eqb}
use lib.ListN.{length, get_or, length-set, get_or-replicate}
use lib.Seq.{get_or-set_same, get_or-set_other}
use Rattle.strings.specs.Pick.{pick}
use Rattle.strings.proofs.Below.{both}
use Rattle.navfile.specs.File.{Ask, satellite_of, epoch_of, is_answered, none_written, is_new, is_due, noted, noted_by, due_of}
use Rattle.navfile.specs.Laws.{epochs_of}
use Rattle.navfile.proofs.Answered.{answered_parts}
use Rattle.navfile.proofs.Due.{due_answered}

-- ---- one ask
module _ (card : ℕ) (w : List ℕ) (a : Ask) where
  pub not_due : is_answered card a ≡ true → is_due card w a ≡ false → get_or w (satellite_of a) 0 ≡ epoch_of a
  unfolding is_due
  not_due e f =
      let g : is_new w a ≡ false = ap (λ (t : Bool). t && is_new w a) (sym e) ∙ f in
      sym (eqb-true (epoch_of a) (get_or w (satellite_of a) 0) (not-false (eqb (epoch_of a) (get_or w (satellite_of a) 0)) g))

  pub due_new : is_due card w a ≡ true → epoch_of a ≡ get_or w (satellite_of a) 0 → ⊥
  unfolding is_due
  due_new e = eqb-false (epoch_of a) (get_or w (satellite_of a) 0) (not-true (eqb (epoch_of a) (get_or w (satellite_of a) 0)) (both (is_answered card a) (is_new w a) e).1)

module _ (card : ℕ) where
  -- ---- what was not refused is written, or is what was written last
  pub record Found (a : Ask) (l : List Ask) : Type 0 where
    pub ask : Ask
    pub among : Memᴰ ask l
    pub satellite : satellite_of ask ≡ satellite_of a
    pub epoch : epoch_of ask ≡ epoch_of a

  found_later : (a x : Ask) (l : List Ask) → Found a l → Found a (x ∷ l)
  found_later a x l f = record { ask = f.ask; among = Memᴰ.tail f.among; satellite = f.satellite; epoch = f.epoch }

  -- remembered for its satellite: among 25, and for no other
  noted_own : (w : List ℕ) (x : Ask) → length w ≡ 25 → is_answered card x ≡ true → get_or (noted w x) (satellite_of x) 0 ≡ epoch_of x
  noted_own w x l e = get_or-set_same w (satellite_of x) (epoch_of x) 0 (omega (arith, (answered_parts card x.station x.channel e).slot_most))

  noted_other : (w : List ℕ) (x : Ask) (n : ℕ) → (satellite_of x ≡ n → ⊥) → get_or (noted w x) n 0 ≡ get_or w n 0
  noted_other w x n d = get_or-set_other w (satellite_of x) n (epoch_of x) 0 (λ q. d (sym q))

  noted_long : (w : List ℕ) (x : Ask) → length w ≡ 25 → length (noted w x) ≡ 25
  noted_long w x l = length-set w (satellite_of x) (epoch_of x) ∙ l

  module _ (a : Ask) (answered : is_answered card a ≡ true) where
    abbrev Either : List ℕ → List Ask → Type 0
    Either w l = (get_or w (satellite_of a) 0 ≡ epoch_of a) ⊎ Found a l

    -- after an ask that is written
    after-written : (w : List ℕ) (x : Ask) (l : List Ask) → length w ≡ 25 → is_answered card x ≡ true → Either (noted w x) l → Either w (x ∷ l)
    after-written w x l h e (inr f) = inr (found_later a x l f)
    after-written w x l h e (inl q) = by (eqb (satellite_of x) (satellite_of a)) refl
      where
        by : (t : Bool) → eqb (satellite_of x) (satellite_of a) ≡ t → Either w (x ∷ l)
        by true p =
            let s : satellite_of x ≡ satellite_of a = eqb-true (satellite_of x) (satellite_of a) p in
            inr (record { ask = x; among = Memᴰ.head refl; satellite = s; epoch = sym (noted_own w x h e) ∙ ap (λ (n : ℕ). get_or (noted w x) n 0) s ∙ q })
        by false p = inl (sym (noted_other w x (satellite_of a) (eqb-false (satellite_of x) (satellite_of a) p)) ∙ q)

    written-or-found : (w : List ℕ) (asks : List Ask) → length w ≡ 25 → Memᴰ a asks → Either w (due_of card w asks)
    unfolding due_of
    written-or-found w [] h m = absurd (Memᴰ.not-nil m)
    written-or-found w (x ∷ xs) h m =
        by (is_due card w x) refl (Memᴰ.cases_cons m) (λ n. written-or-found (noted w x) xs (noted_long w x h) n) (λ n. written-or-found w xs h n)
      where
        by : (t : Bool) → is_due card w x ≡ t → (a ≡ x) ⊎ Memᴰ a xs → (Memᴰ a xs → Either (noted w x) (due_of card (noted w x) xs))
            → (Memᴰ a xs → Either w (due_of card w xs)) → Either w (pick t (x ∷ []) [] ++ due_of card (noted_by t w x) xs)
        by true e (inl q) p r = inr (record { ask = x; among = Memᴰ.head refl; satellite = ap satellite_of (sym q); epoch = ap epoch_of (sym q) })
        by true e (inr n) p r = after-written w x (due_of card (noted w x) xs) h (due_answered card w x e) (p n)
        by false e (inl q) p r = inl (not_due card w a answered (ap (is_due card w) q ∙ e))
        by false e (inr n) p r = r n

    -- THE RECORD IS WRITTEN, or one like it
    pub all_found : (asks : List Ask) → Memᴰ a asks → Found a (due_of card none_written asks)
    all_found asks m =
        let p = answered_parts card a.station a.channel answered in
        ⊎_elim
        (λ (q : get_or none_written (satellite_of a) 0 ≡ epoch_of a).
        let z : get_or none_written (satellite_of a) 0 ≡ 0 = get_or-replicate 25 (satellite_of a) 0 0 (omega (arith, p.slot_most)) in
        absurd (omega (arith, p.epoch_least)))
        (λ (f : Found a (due_of card none_written asks)). f) (written-or-found none_written asks refl m)

  -- ---- neighbours
  -- each is another than the one before it, and the first than `last`
  abbrev Apart : ℕ → List ℕ → Type 0
  Apart last [] = Unit
  Apart last (q ∷ qs) = (q ≡ last → ⊥) × Apart q qs

  apart_due : (w : List ℕ) (n : ℕ) (asks : List Ask) → length w ≡ 25 → Apart (get_or w n 0) (epochs_of n (due_of card w asks))
  unfolding due_of epochs_of
  apart_due w n [] h = tt
  apart_due w n (x ∷ xs) h = by (is_due card w x) (eqb (satellite_of x) n) refl refl (apart_due (noted w x) n xs (noted_long w x h)) (apart_due w n xs h)
    where
      by : (t u : Bool) → is_due card w x ≡ t → eqb (satellite_of x) n ≡ u
          → Apart (get_or (noted w x) n 0) (epochs_of n (due_of card (noted w x) xs)) → Apart (get_or w n 0) (epochs_of n (due_of card w xs))
          → Apart (get_or w n 0) (epochs_of n (pick t (x ∷ []) [] ++ due_of card (noted_by t w x) xs))
      by false u e f p q = q
      by true true e f p q =
          let s : satellite_of x ≡ n = eqb-true (satellite_of x) n f in
          let new : epoch_of x ≡ get_or w n 0 → ⊥ = subst (λ (k : ℕ). epoch_of x ≡ get_or w k 0 → ⊥) s (due_new card w x e) in
          let kept : get_or (noted w x) n 0 ≡ epoch_of x = ap (λ (k : ℕ). get_or (noted w x) k 0) (sym s) ∙ noted_own w x h (due_answered card w x e) in
          rw f (new, subst (λ (k : ℕ). Apart k (epochs_of n (due_of card (noted w x) xs))) kept p)
      by true false e f p q =
          rw f (subst (λ (k : ℕ). Apart k (epochs_of n (due_of card (noted w x) xs))) (noted_other w x n (eqb-false (satellite_of x) n f)) p)

  apart_at : (last : ℕ) (l : List ℕ) (i : ℕ) → Apart last l → suc i < length l → get_or l i 0 ≡ get_or l (suc i) 0 → ⊥
  apart_at last [] i p h = absurd (omega arith)
  apart_at last (q ∷ []) i p h = absurd (omega arith)
  apart_at last (q ∷ r ∷ l) zero p h = λ e. p.1.0 (sym e)
  apart_at last (q ∷ r ∷ l) (suc i) p h = apart_at q (r ∷ l) i p.1 (omega arith)

  pub neighbours : (n : ℕ) (asks : List Ask) (i : ℕ) → suc i < length (epochs_of n (due_of card none_written asks))
      → get_or (epochs_of n (due_of card none_written asks)) i 0 ≡ get_or (epochs_of n (due_of card none_written asks)) (suc i) 0 → ⊥
  neighbours n asks i = apart_at (get_or none_written n 0) (epochs_of n (due_of card none_written asks)) i (apart_due none_written n asks refl)
