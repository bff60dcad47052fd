-- `parts::measured_read` meets its contract: by what the reader answers. Assumes nothing.
use mathlib.Core.Path.{refl, ap, ◌∙◌}
use mathlib.Core.List.{[], ◌∷◌}
use Prim.Native.Nat.{ℕ}
use Rattle.layout.specs.Layout.{kind_number}
use Rattle.told.specs.Told.{packed}
use Rattle.measured.specs.Parts.{words_left}
use Rattle.measured.proofs.Strings.{tells_read}
use Rattle.measured.proofs.parts.measured_read.Goals as goal

pub returns-in-Err : goal.returns-in-Err
unfolding words_left
returns-in-Err c =
    tells_read c.kind_by.ensures c.read_words-read.ensures c.in-Err.is c.refusal_told.ensures refl

pub returns-in-Ok : goal.returns-in-Ok
unfolding words_left
returns-in-Ok c =
    tells_read c.kind_by.ensures c.read_words-read.ensures c.in-Ok.is
    (c.read_told.ensures ∙ ap (λ (n : ℕ). packed (0 ∷ c.in-Ok.m ∷ n ∷ [])) (c.number_of.ensures ∙ ap kind_number c.kind_of.ensures))
    c.list_of.ensures
