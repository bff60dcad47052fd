-- What holds of every block and every field in it, whatever the bytes. Proved as `laws` in `proofs/Laws.antt`.
-- Assumes nothing.
use Rattle.std.specs.Prelude.{ℕ, ◌+◌, ◌≤◌, ◌<◌, List, [], ◌∷◌, ◌++◌, ◌↔◌, ◌≡◌, length, take, drop}
use Rattle.strings.specs.Number.{Bytes}
use Rattle.strings.specs.Numbers.{Exactly}
use Rattle.fields.specs.declared.Field.{Field}
use Rattle.fields.specs.declared.Field.TheVariants.{End}
use Rattle.fields.specs.Fields.{tests_in, size_at, field_paper, Finds}
use Rattle.fields.specs.Block.{call_in, calls_in, end_in}
use Rattle.fields.specs.Written.{Item, block_of, calls_among, AllFit}

-- a block has exactly these calls, and ends whole
pub record Reads (items : List Item) : Type 0 where
  pub calls : calls_in (block_of items) ≡ calls_among items
  pub whole : end_in (block_of items) ≡ 0 ∷ []

-- an end that is told of a place further on by n bytes
abbrev pub onward : ℕ → List ℕ → List ℕ
onward n [] = []
onward n (number ∷ []) = number ∷ []
onward n (number ∷ place ∷ ps) = number ∷ (n + place) ∷ ps

-- two blocks end to end: the calls of the first and then of the second, and the end of the second
pub record Follow (a b : List ℕ) : Type 0 where
  pub calls : calls_in (a ++ b) ≡ calls_in a ++ calls_in b
  pub end : end_in (a ++ b) ≡ onward (length a) (end_in b)

-- the bytes of the good field at a place, and a block in which they stand somewhere else
abbrev pub bytes_at : List ℕ → ℕ → List ℕ
bytes_at block at = take (size_at block at) (drop at block)

abbrev pub elsewhere : List ℕ → List ℕ → ℕ → List ℕ → List ℕ
elsewhere before block at after = before ++ (bytes_at block at ++ after)

-- a field at a place of a block is good, of the same size and of the same calls
pub record Same (block : List ℕ) (at : ℕ) (block' : List ℕ) (at' : ℕ) : Type 0 where
  pub size : size_at block' at' ≡ size_at block at
  pub calls : call_in (drop at' block') ≡ call_in (drop at block)

pub record Laws : Type 0 where
  -- a block that is written from calls and remarks has exactly these calls and ends whole
  pub reads : (items : List Item) → AllFit items → Reads items
  -- where the first of two blocks ends whole, the second is read after it as it is alone
  pub follow : (a b : List ℕ) → end_in a ≡ 0 ∷ [] → Follow a b
  -- a good field is good wherever its bytes stand
  pub anywhere : (block : List ℕ) (at : ℕ) (before after : List ℕ) → 0 < size_at block at → Same block at (elsewhere before block at after) (length before)
  -- no byte further than 65,538 from its tag on is looked at: the same field stands there where the block is cut after them
  pub near : (block : List ℕ) (at n : ℕ) → Bytes block → 65538 ≤ n → size_at (take (at + n) block) at ≡ size_at block at
  -- no second answer fits
  pub once : (block : List ℕ) (at : ℕ) (f g : Field) (after after' : ℕ) → Finds block at f after → Finds block at g after' → (f ≡ g) × (after ≡ after')
  -- the end is told exactly at the end and past it; and before it each number exactly where its test is the first to fit
  pub ends : (block : List ℕ) (at : ℕ) (f : Field) (after : ℕ) → Finds block at f after → (f ≡ End) ↔ (length block ≤ at)
  pub exactly : (block : List ℕ) (at : ℕ) (f : Field) (after : ℕ) → Finds block at f after → at < length block
      → Exactly (tests_in at (drop at block)) (field_paper f)
