-- The known string of the paper ("Known strings and edges") that is in relative form, computed from the definitions.
-- Assumes nothing.
use Rattle.std.specs.Prelude.{◌≡◌, refl, List, [], ◌∷◌, ℕ}
use Rattle.strings.specs.Number.{number_of, bytes_of_string}
use Rattle.strings.specs.Known.{A, a}
use Rattle.relative.specs.declared.Polarity.TheVariants.{Upright, Inverted}
use Rattle.relative.specs.Relative.{read_relative, write_relative, inverse}
use Rattle.relative.specs.Polarity.{first_symbol, polarity_of}

abbrev pub B : List ℕ
B = 0x0F ∷ 0xFF ∷ 0xFF ∷ 0xFF ∷ 0xFF ∷ 0xFF ∷ 0xFF ∷ 0xFF ∷ 0xFF ∷ 0xFB ∷ 0x00 ∷ []

abbrev pub inverse_b : List ℕ
inverse_b = 0xF0 ∷ 0 ∷ 0 ∷ 0 ∷ 0 ∷ 0 ∷ 0 ∷ 0 ∷ 0 ∷ 0x04 ∷ 0xF8 ∷ []

pub record Known : Type 0 where
  -- B: A in relative form; both it and its inverse read as A
  pub b_sent : bytes_of_string (write_relative a) ≡ B
  pub b_read : bytes_of_string (read_relative (number_of B)) ≡ A
  pub b_inverse_read : bytes_of_string (read_relative (number_of inverse_b)) ≡ A
  -- the one with all 85 symbols inverted is the other; B came upright, its inverse inverted
  pub b_inverted : bytes_of_string (inverse (number_of B)) ≡ inverse_b
  pub b_upright : polarity_of (number_of B) ≡ Upright
  pub b_inverse_inverted : polarity_of (number_of inverse_b) ≡ Inverted

pub known : Known
unfolding a number_of bytes_of_string read_relative write_relative inverse first_symbol
known =
    record {
      b_sent = refl;
      b_read = refl;
      b_inverse_read = refl;
      b_inverted = refl;
      b_upright = refl;
      b_inverse_inverted = refl;
    }
