-- Of asks one after the other, those whose record is written: after others (due-append, written-append), and each was asked for and not refused (due_in).
-- Assumes nothing.
use Prim.Native.Nat.{ℕ}
use mathlib.Core.Bool.{Bool, true, false}
use mathlib.Core.List.Memᴰ
use mathlib.Core.List.{List, [], ◌∷◌, ◌++◌, Memᴰ}
use mathlib.Core.Logic.{⊎_elim}
use mathlib.Core.Path.{◌≡◌, refl, ap, ◌∙◌}
use Rattle.strings.specs.Pick.{pick}
use Rattle.strings.proofs.Below.{both}
use Rattle.navfile.specs.File.{Ask, is_answered, is_new, is_due, noted, noted_by, due_of, written_after}

module _ (card : ℕ) (w : List ℕ) (a : Ask) where
  pub due_answered : is_due card w a ≡ true → is_answered card a ≡ true
  unfolding is_due
  due_answered e = (both (is_answered card a) (is_new w a) e).0

module _ (card : ℕ) where
  -- ---- asks after others
  pub due_append : (w : List ℕ) (a b : List Ask) → due_of card w (a ++ b) ≡ due_of card w a ++ due_of card (written_after card w a) b
  unfolding due_of written_after
  due_append w [] b = refl
  due_append w (x ∷ a) b = by (is_due card w x) (due_append (noted w x) a b) (due_append w a b)
    where
      by : (t : Bool) → due_of card (noted w x) (a ++ b) ≡ due_of card (noted w x) a ++ due_of card (written_after card (noted w x) a) b
          → due_of card w (a ++ b) ≡ due_of card w a ++ due_of card (written_after card w a) b
          → pick t (x ∷ []) [] ++ due_of card (noted_by t w x) (a ++ b)
          ≡ (pick t (x ∷ []) [] ++ due_of card (noted_by t w x) a) ++ due_of card (written_after card (noted_by t w x) a) b
      by true p q = ap (λ (l : List Ask). x ∷ l) p
      by false p q = q

  pub written_append : (w : List ℕ) (a b : List Ask) → written_after card w (a ++ b) ≡ written_after card (written_after card w a) b
  unfolding written_after
  written_append w [] b = refl
  written_append w (x ∷ a) b = written_append (noted_by (is_due card w x) w x) a b

  -- ---- what is written was asked for, and not refused
  pub due_in : (w : List ℕ) (asks : List Ask) (a : Ask) → Memᴰ a (due_of card w asks) → Memᴰ a asks × (is_answered card a ≡ true)
  unfolding due_of
  due_in w [] a m = absurd (Memᴰ.not-nil m)
  due_in w (x ∷ xs) a m = by (is_due card w x) refl m (due_in (noted w x) xs a) (due_in w xs a)
    where
      by : (t : Bool) → is_due card w x ≡ t → Memᴰ a (pick t (x ∷ []) [] ++ due_of card (noted_by t w x) xs)
          → (Memᴰ a (due_of card (noted w x) xs) → Memᴰ a xs × (is_answered card a ≡ true))
          → (Memᴰ a (due_of card w xs) → Memᴰ a xs × (is_answered card a ≡ true))
          → Memᴰ a (x ∷ xs) × (is_answered card a ≡ true)
      by true e m p q =
          ⊎_elim (λ (h : a ≡ x). (Memᴰ.head h, ap (is_answered card) h ∙ due_answered card w x e))
          (λ (n : Memᴰ a (due_of card (noted w x) xs)). (Memᴰ.tail (p n).0, (p n).1)) (Memᴰ.cases_cons m)
      by false e m p q = (Memᴰ.tail (q m).0, (q m).1)
