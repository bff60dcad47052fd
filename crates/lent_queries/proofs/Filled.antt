-- An output that is filled from its first element on is what it was filled with, where it has as many elements (filled). Assumes nothing.
use mathlib.Core.Path.{◌≡◌, refl, sym, ap, ◌∙◌}
use mathlib.Core.List.{List, [], ◌∷◌}
use Prim.Native.Nat.{ℕ, suc}
use native.Mathlib.Nat.{suc_inj, suc-ne-zero}
use lib.ListN.{length, set}

module _ {X : Type 0} where
  abbrev pub fills : ℕ → List X → List X → List X
  fills k [] xs = xs
  fills k (m ∷ ms) xs = fills (suc k) ms (set xs k m)

  under : (ms : List X) (k : ℕ) (x : X) (xs : List X) → fills (suc k) ms (x ∷ xs) ≡ x ∷ fills k ms xs
  under [] k x xs = refl
  under (m ∷ ms) k x xs = under ms (suc k) x (set xs k m)

  pub filled : (ms xs : List X) → length xs ≡ length ms → fills 0 ms xs ≡ ms
  filled [] [] e = refl
  filled [] (x ∷ xs) e = absurd (suc-ne-zero _ e)
  filled (m ∷ ms) [] e = absurd (suc-ne-zero _ (sym e))
  filled (m ∷ ms) (x ∷ xs) e = under ms 0 m xs ∙ ap (λ (l : List X). m ∷ l) (filled ms xs (suc_inj e))
