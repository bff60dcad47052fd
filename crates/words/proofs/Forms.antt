-- The forms whose bits are the value itself: all but sign and magnitude and H.
-- Assumes nothing.
use mathlib.Core.Path.{◌≡◌, refl, sym, ap, ◌∙◌}
use mathlib.Core.Bool.{Bool, true, false, ◌&&◌, true≢false}
use mathlib.Core.List.{[], ◌∷◌}
use mathlib.Core.Logic.{inl, inr}
use Prim.Native.Nat.{ℕ, ◌<◌}
use native.Mathlib.Omega.{arith}
use lib.IntN.{ℤ, pos, nat_abs}
use types.Run.{OneOf}
use denote.Enum.Declared.{tag_of}
use Rattle.layout.specs.declared.table.Form.{Form}
use Rattle.layout.specs.declared.table.Form.TheVariants.{Plain, Signed, Time, Interval, Day, Slot, Carrier}
use Rattle.words.specs.Tidied.{is_signed}
use Rattle.words.specs.Values.{value_as, code_as}
use Rattle.layout.specs.contracts.table.Form.{the_type}

pub record Bare (f : Form) : Type 0 where
  pub unsigned : is_signed f ≡ false
  pub value : (half raw : ℕ) → value_as f half raw ≡ pos raw
  pub code : (half : ℕ) (z : ℤ) → code_as f half z ≡ nat_abs z

pub plain_bare : Bare Plain
plain_bare = record { unsigned = refl; value = λ half raw. refl; code = λ half z. refl }

pub time_bare : Bare Time
time_bare = record { unsigned = refl; value = λ half raw. refl; code = λ half z. refl }

pub interval_bare : Bare Interval
interval_bare = record { unsigned = refl; value = λ half raw. refl; code = λ half z. refl }

pub day_bare : Bare Day
day_bare = record { unsigned = refl; value = λ half raw. refl; code = λ half z. refl }

pub slot_bare : Bare Slot
slot_bare = record { unsigned = refl; value = λ half raw. refl; code = λ half z. refl }

pub not_signed : (f : Form) → is_signed f ≡ false → f ≡ Signed → ⊥
not_signed f u e = true≢false (sym (ap is_signed e) ∙ u)

-- by the number that a `match` has for the form, which is that of neither
apart : {x : ℕ} → OneOf (0 ∷ 2 ∷ 3 ∷ 4 ∷ 5 ∷ []) x → (x ≡ 1 → ⊥) × (x < 6)
apart (inl e) = ((λ o. omega arith), omega arith)
apart (inr (inl e)) = ((λ o. omega arith), omega arith)
apart (inr (inr (inl e))) = ((λ o. omega arith), omega arith)
apart (inr (inr (inr (inl e)))) = ((λ o. omega arith), omega arith)
apart (inr (inr (inr (inr e)))) = ((λ o. omega arith), omega arith)

pub bare : (f : Form) → OneOf (0 ∷ 2 ∷ 3 ∷ 4 ∷ 5 ∷ []) (tag_of the_type f) → Bare f
bare Plain k = plain_bare
bare Signed k = absurd ((apart k).0 refl)
bare Time k = time_bare
bare Interval k = interval_bare
bare Day k = day_bare
bare Slot k = slot_bare
bare Carrier k = absurd (omega (arith, (apart k).1))

-- what no rule is added to
pub and_all : (a : Bool) → (a && true) ≡ a
and_all true = refl
and_all false = refl
