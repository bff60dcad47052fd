-- The ranging code (request 12, ICD 3.3.2.1): "register of nine ones, 1 + x^5 + x^9, output from the seventh stage".
-- Assumes nothing.
use Rattle.std.specs.Prelude.{ℕ, zero, suc, ◌+◌, ◌-◌, ◌%◌, List, [], ◌∷◌, get_or, take, replicate}

-- stages 1 to 9
abbrev pub Register : Type 0
Register = List ℕ

abbrev pub stage : ℕ → Register → ℕ
stage i r = get_or r (i - 1) 0

abbrev pub ones : Register
ones = replicate 9 1

-- each stage hands on to the next; the first gets the sum, modulo 2, of stages 5 and 9
abbrev pub step : Register → Register
step r = (stage 5 r + stage 9 r) % 2 ∷ take 8 r

abbrev pub output : Register → ℕ
output r = stage 7 r

-- the register after k steps
abbrev pub after : ℕ → Register → Register
after zero r = r
after (suc k) r = after k (step r)

-- chip k, from 0
unfoldable pub chip_of : ℕ → ℕ
chip_of k = output (after k ones)

-- what the register puts out in n steps
abbrev pub outputs : ℕ → Register → List ℕ
outputs zero r = []
outputs (suc n) r = output r ∷ outputs n (step r)
