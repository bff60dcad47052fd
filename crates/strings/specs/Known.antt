-- The known strings of the paper ("Known strings and edges"), computed from the definitions: one table, in the paper's order.
-- Assumes nothing.
use Rattle.std.specs.Prelude.{◌≡◌, refl, List, [], ◌∷◌, ℕ, ◌+◌, ◌^◌, Ok, Err}
use Rattle.strings.specs.declared.Verdict.TheVariants.{Clean, Repaired}
use Rattle.strings.specs.declared.hamming.Damage.TheVariants.{Unplaced, Even, Outside}
use Rattle.strings.specs.Number.{number_of, padding_of, misshapen, flip, bytes_of_string}
use Rattle.strings.specs.Hamming.{position, sum_c, sum_all, syndrome, sums_set, highest, placed, judge, ruling, mended, sums_made, encode}
use Rattle.strings.specs.Numbers.{answer_of}
use Rattle.strings.specs.Calls.{sound_tests, check_tests, verdict_told}

abbrev pub A : List ℕ
A = 0x08 ∷ 0 ∷ 0 ∷ 0 ∷ 0 ∷ 0 ∷ 0 ∷ 0 ∷ 0 ∷ 0x06 ∷ 0x80 ∷ []

abbrev pub zeros : List ℕ
zeros = 0 ∷ 0 ∷ 0 ∷ 0 ∷ 0 ∷ 0 ∷ 0 ∷ 0 ∷ 0 ∷ 0 ∷ 0 ∷ []

unfoldable pub a : ℕ
a = number_of A

-- what the check says of a string, with room for its bytes
abbrev pub said : ℕ → List ℕ
said n = answer_of (check_tests (bytes_of_string n) zeros) (verdict_told (ruling n))

pub record Known : Type 0 where
  -- A: m = 1, data zero, encoded: bits 81, 8, 7, 5 set. Clean
  pub a_bits : a ≡ 2 ^ 80 + 2 ^ 7 + 2 ^ 6 + 2 ^ 4
  pub a_encoded : bytes_of_string (encode (2 ^ 80)) ≡ A
  pub a_clean : ruling a ≡ Ok Clean
  -- A with bit 9 flipped: S = 3, repaired 9
  pub flip_9_S : syndrome (flip a 9) ≡ 3
  pub flip_9 : ruling (flip a 9) ≡ Ok (Repaired 9)
  -- bit 85: S = 84, repaired 85
  pub flip_85_S : syndrome (flip a 85) ≡ 84
  pub flip_85 : ruling (flip a 85) ≡ Ok (Repaired 85)
  -- bit 5: repaired 5
  pub flip_5 : ruling (flip a 5) ≡ Ok (Repaired 5)
  -- bit 8: DAMAGED, and answered with 31
  pub flip_8 : ruling (flip a 8) ≡ Err Unplaced
  pub flip_8_said : said (flip a 8) ≡ 31 ∷ []
  -- bits 9, 10: DAMAGED, 32
  pub flip_9_10 : ruling (flip (flip a 9) 10) ≡ Err Even
  pub flip_9_10_said : said (flip (flip a 9) 10) ≡ 32 ∷ []
  -- bits 85, 9, 8: S = 87, DAMAGED, 33
  pub flip_85_9_8_S : syndrome (flip (flip (flip a 85) 9) 8) ≡ 87
  pub flip_85_9_8 : ruling (flip (flip (flip a 85) 9) 8) ≡ Err Outside
  pub flip_85_9_8_said : said (flip (flip (flip a 85) 9) 8) ≡ 33 ∷ []
  -- eleven zero bytes: clean
  pub zeros_clean : ruling (number_of zeros) ≡ Ok Clean

pub known : Known
unfolding a sound_tests misshapen padding_of number_of flip bytes_of_string position sum_c sum_all syndrome sums_set highest placed judge ruling mended sums_made encode
known =
    record {
      a_bits = refl;
      a_encoded = refl;
      a_clean = refl;
      flip_9_S = refl;
      flip_9 = refl;
      flip_85_S = refl;
      flip_85 = refl;
      flip_5 = refl;
      flip_8 = refl;
      flip_8_said = refl;
      flip_9_10 = refl;
      flip_9_10_said = refl;
      flip_85_9_8_S = refl;
      flip_85_9_8 = refl;
      flip_85_9_8_said = refl;
      zeros_clean = refl;
    }
