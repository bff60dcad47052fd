-- The time mark (ICD 3.3.2.2): a shortened pseudo random sequence of 30 symbols, printed in the ICD with its polynomial, 1 + x^3 + x^5.
-- Assumes nothing.
use Rattle.std.specs.Prelude.{ℕ, zero, suc, ◌+◌, ◌%◌, List, [], ◌∷◌, ◌++◌, ◌≡◌, refl, get_or, take, replicate}

-- 111110001101110101000010010110, as the ICD prints it: neither in relative code nor in halves
abbrev pub mark : List ℕ
mark =
    1 ∷ 1 ∷ 1 ∷ 1 ∷ 1 ∷ 0 ∷ 0 ∷ 0 ∷ 1 ∷ 1 ∷ 0 ∷ 1 ∷ 1 ∷ 1 ∷ 0 ∷ 1 ∷ 0 ∷ 1 ∷ 0 ∷ 0 ∷ 0 ∷ 0 ∷ 1 ∷ 0 ∷ 0 ∷ 1 ∷ 0 ∷ 1 ∷ 1 ∷ 0 ∷ []

-- ---- the register of 1 + x^3 + x^5: the first stage gets the sum, modulo 2, of stages 3 and 5; the output is stage 5
abbrev pub mark_step : List ℕ → List ℕ
mark_step r = (get_or r 2 0 + get_or r 4 0) % 2 ∷ take 4 r

abbrev pub five_ones : List ℕ
five_ones = replicate 5 1

-- what it puts out in n steps
abbrev pub sequence : ℕ → List ℕ → List ℕ
sequence zero r = []
sequence (suc n) r = get_or r 4 0 ∷ sequence n (mark_step r)

-- where it stands then
abbrev pub standing : ℕ → List ℕ → List ℕ
standing zero r = r
standing (suc n) r = standing n (mark_step r)

-- the mark and a 0 are the whole sequence, after which the register is back
pub mark_shortened : (sequence 31 five_ones ≡ mark ++ (0 ∷ [])) × (standing 31 five_ones ≡ five_ones)
mark_shortened = (refl, refl)
