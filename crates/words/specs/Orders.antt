-- The order of the tests of the reader and of the encoder, whatever they are handed (the paper, "Numbers that say no").
-- Assumes nothing.
use Rattle.std.specs.Prelude.{ℕ, List, [], ◌∷◌, ◌≡◌, refl}
use Rattle.strings.specs.Numbers.{numbers_of}
use Rattle.strings.specs.Calls.{sound_tests}
use Rattle.records.specs.declared.kinds.Kind.{Kind}
use Rattle.records.specs.declared.named.Record.{Record}
use Rattle.words.specs.Calls.{read_tests, write_tests}

-- "Reader (plain form): 2, 3, 4, 5, 11, 10", with 31, 32, 33 "all in 3's position"
pub read_order : (s : List ℕ) (k : Kind) → numbers_of (read_tests s k) ≡ 2 ∷ 31 ∷ 32 ∷ 33 ∷ 4 ∷ 5 ∷ 11 ∷ 10 ∷ []
unfolding sound_tests
read_order s k = refl

-- "Encoder (plain form, checked): 12, 11, 10"
pub write_order : (m : ℕ) (r : Record) (out : List ℕ) → numbers_of (write_tests m r out) ≡ 12 ∷ 11 ∷ 10 ∷ []
write_order m r out = refl
