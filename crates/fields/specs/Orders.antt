-- The numbers of a block's refusals, and the order in which they are tested, whatever the field. Assumes nothing.
use Rattle.std.specs.Prelude.{List, [], ◌∷◌, ◌≡◌, refl, ℕ}
use Rattle.strings.specs.Numbers.{numbers_of}
use Rattle.fields.specs.declared.Why.TheVariants.{Tag, Length, Cut}
use Rattle.fields.specs.Fields.{why_number, tests_in}

-- "41 unknown tag, 42 wrong length for the tag, 43 block ends inside a field"
pub numbers : (why_number Tag ∷ why_number Length ∷ why_number Cut ∷ []) ≡ 41 ∷ 42 ∷ 43 ∷ []
numbers = refl

-- "tested in the order 43, 41, 42"
pub order : (at : ℕ) (rest : List ℕ) → numbers_of (tests_in at rest) ≡ 43 ∷ 41 ∷ 42 ∷ []
order at rest = refl
