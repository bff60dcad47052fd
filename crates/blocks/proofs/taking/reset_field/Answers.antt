-- `taking::reset_field` meets its contract: the reset, and its answer. Assumes nothing.
use mathlib.Core.Path.{refl, ap}
use mathlib.Core.List.{List, ◌∷◌}
use Prim.Native.Nat.{ℕ}
use Rattle.blocks.specs.Taking.{answer_in, after_call}
use Rattle.blocks.proofs.taking.reset_field.Goals as goal

pub returns : goal.returns
unfolding answer_in after_call
returns c = record { answer = ap (λ (l : List ℕ). 0 ∷ 2 ∷ l) c.reset-emptied.ensures.answer; station = c.reset-emptied.ensures.station; next = refl }
