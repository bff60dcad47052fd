-- A field of a block: "tagged fields, one-byte tag, two-byte big-endian length", and then its body, as many bytes as the length says. `rest` is what is left
-- of the block from the field's tag on. For any bytes.
-- Assumes nothing.
use Rattle.std.specs.Prelude.{ℕ, ◌+◌, Bool, false, not, ◌||◌, List, [], ◌∷◌, ◌≡◌, eqb, ltb, leb, length, get_or, take, drop}
use Rattle.strings.specs.Pick.{pick, is_one_of}
use Rattle.strings.specs.Number.{value_of}
use Rattle.strings.specs.Numbers.{Test, test_at, answer_of}
use Rattle.fields.specs.declared.Why.{Why}
use Rattle.fields.specs.declared.Why.TheVariants.{Tag, Length, Cut}
use Rattle.fields.specs.declared.Field.{Field}
use Rattle.fields.specs.declared.Field.TheVariants.{End, Offer, Reset, Remark, Refused}

-- ---- its parts
abbrev pub tag_in : List ℕ → ℕ
tag_in rest = get_or rest 0 0

abbrev pub length_in : List ℕ → ℕ
length_in rest = value_of (take 2 (drop 1 rest))

abbrev pub body_in : List ℕ → List ℕ
body_in rest = take (length_in rest) (drop 3 rest)

-- ---- "41 unknown tag, 42 wrong length for the tag, 43 block ends inside a field": of a field with this tag and this length, and so many bytes from its
-- tag to the end of the block
-- "Tag 1 is an offer .., tag 2 a reset .., tag 3 a remark"
abbrev pub is_unknown : ℕ → Bool
is_unknown tag = not (is_one_of (1 ∷ 2 ∷ 3 ∷ []) tag)

-- "an offer (16 bytes ..)", "a reset (one byte ..)", "a remark of any length"
abbrev pub is_wrong : ℕ → ℕ → Bool
is_wrong tag size = pick (eqb tag 1) (not (eqb size 16)) (pick (eqb tag 2) (not (eqb size 1)) false)

-- tag, length and body are more bytes than are left: so wherever fewer than three are left, and whatever the tag
abbrev pub is_cut : ℕ → ℕ → Bool
is_cut size left = ltb left (3 + size)

-- "tested in the order 43, 41, 42", and each "tells the byte place of the field"
abbrev pub tests_in : ℕ → List ℕ → List Test
tests_in at rest =
    test_at 43 at (is_cut (length_in rest) (length rest))
    ∷ test_at 41 at (is_unknown (tag_in rest))
    ∷ test_at 42 at (is_wrong (tag_in rest) (length_in rest))
    ∷ []

-- a good field is one that none of them refuses
unfoldable pub is_good : List ℕ → Bool
is_good rest = not (is_cut (length_in rest) (length rest) || (is_unknown (tag_in rest) || is_wrong (tag_in rest) (length_in rest)))

-- how many bytes it has; 0 where the field is not good
unfoldable pub size_in : List ℕ → ℕ
size_in rest = pick (is_good rest) (3 + length_in rest) 0

-- the same at a place of a block
abbrev pub size_at : List ℕ → ℕ → ℕ
size_at block at = size_in (drop at block)

-- ---- a field in the paper's numbers: 0, its tag, and the place of its body, which is not told of a remark; 0 and 0 at the end of the block; or the number
-- that says no, and the place of its tag
abbrev pub why_number : Why → ℕ
why_number Tag = 41
why_number Length = 42
why_number Cut = 43

abbrev pub field_paper : Field → List ℕ
field_paper End = 0 ∷ 0 ∷ []
field_paper (Offer body) = 0 ∷ 1 ∷ body ∷ []
field_paper (Reset body) = 0 ∷ 2 ∷ body ∷ []
field_paper Remark = 0 ∷ 3 ∷ []
field_paper (Refused why at) = why_number why ∷ at ∷ []

abbrev pub told_of : ℕ → ℕ → List ℕ
told_of at tag = tag ∷ pick (eqb tag 3) [] ((at + 3) ∷ [])

-- what is said of the field at a place of a block: its end, at its end and past it; else what the tests say
unfoldable pub said_at : List ℕ → ℕ → List ℕ
said_at block at =
    let rest = drop at block in
    pick (leb (length block) at) (0 ∷ 0 ∷ []) (answer_of (tests_in at rest) (told_of at (tag_in rest)))

-- "gives one field at a time": the field at a place, and the place of the next, which is the same place where the field is refused and at the end
pub record Finds (block : List ℕ) (at : ℕ) (field : Field) (after : ℕ) : Type 0 where
  pub answer : field_paper field ≡ said_at block at
  pub next : after ≡ at + size_at block at
