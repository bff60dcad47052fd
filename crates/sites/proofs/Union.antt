-- Two slots that hold the greatest of two sets: the greater of them holds the greatest of both sets together (holding-both).
-- Assumes nothing.
use mathlib.Core.Path.{◌≡◌, refl, sym, ap, ◌∙◌}
use mathlib.Core.Bool.{Bool, true, false, true≢false}
use mathlib.Core.Logic.{◌⊎◌, inl, inr, ⊎_elim}
use Rattle.strings.specs.Pick.{pick}
use Rattle.book.specs.declared.Entry.{Entry}
use Rattle.book.specs.Entry.{Three, meaning, is_below, greater, blank}
use Rattle.book.proofs.Order.{below_trans, below_cut, blank_least, blank_below}
use Rattle.station.proofs.Holding.{Dated, Holding}

module _ (P Q : Three → Type 0) (x y : Entry) (h : Holding P x) (g : Holding Q y) where
  abbrev Both : Three → Type 0
  Both u = P u ⊎ Q u

  -- the second stands above the first
  second : is_below (meaning x) (meaning y) ≡ true → Holding Both y
  second b =
      record {
        above = λ u. ⊎_elim (λ (p : P u). by u p (is_below (meaning y) u) refl) (λ (q : Q u). g.above u q);
        one = ⊎_elim (λ (w : Q (meaning y) × Dated y). inl (inr w.0, w.1))
            (λ (w : (y ≡ blank) × ((u : Three) → Q u → ⊥)).
            absurd (true≢false (sym b ∙ ap (λ (z : Entry). is_below (meaning x) (meaning z)) w.0 ∙ blank_least (meaning x)))) g.one;
      }
    where
      by : (u : Three) → P u → (t : Bool) → is_below (meaning y) u ≡ t → t ≡ false
      by u p true q = absurd (true≢false (sym (below_trans (meaning x) (meaning y) u b q) ∙ h.above u p))
      by u p false q = refl

  -- it does not: then the first, and where that is no entry there is none
  first : is_below (meaning x) (meaning y) ≡ false → Holding Both x
  first b =
      record {
        above = λ u. ⊎_elim (λ (p : P u). h.above u p) (λ (q : Q u). by u q (is_below (meaning x) u) refl);
        one = ⊎_elim (λ (w : P (meaning x) × Dated x). inl (inl w.0, w.1))
            (λ (w : (x ≡ blank) × ((u : Three) → P u → ⊥)). inr (w.0, λ u. ⊎_elim (λ (p : P u). w.1 u p) (λ (q : Q u). none w.0 u q))) h.one;
      }
    where
      by : (u : Three) → Q u → (t : Bool) → is_below (meaning x) u ≡ t → t ≡ false
      by u q true e = absurd (true≢false (sym (below_cut (meaning x) (meaning y) u e (g.above u q)) ∙ b))
      by u q false e = refl

      none : x ≡ blank → (u : Three) → Q u → ⊥
      none e =
          ⊎_elim
          (λ (w : Q (meaning y) × Dated y) (u : Three) (q : Q u).
          true≢false (sym (blank_below y w.1.0) ∙ ap (λ (z : Entry). is_below (meaning z) (meaning y)) (sym e) ∙ b))
          (λ (w : (y ≡ blank) × ((u : Three) → Q u → ⊥)). w.1) g.one

  -- THE GREATER HOLDS THE GREATEST OF BOTH
  pub holding_both : Holding Both (greater x y)
  unfolding greater
  holding_both = by (is_below (meaning x) (meaning y)) refl
    where
      by : (t : Bool) → is_below (meaning x) (meaning y) ≡ t → Holding Both (pick t y x)
      by true b = second b
      by false b = first b
