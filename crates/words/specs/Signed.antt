-- Sign and magnitude (the paper, "Words"): top bit 1 is minus. `half` is the weight of the top bit.
-- Assumes nothing.
use Rattle.std.specs.Prelude.{ℕ, suc, ◌+◌, ◌-◌, ltb, ℤ, pos, negsuc, neg_ℤ}
use Rattle.strings.specs.Pick.{pick}

-- "top bit 1 is minus"; "Minus zero reads as 0"
abbrev pub signed_at : ℕ → ℕ → ℤ
signed_at half raw = pick (ltb raw half) (pos raw) (neg_ℤ (pos (raw - half)))

-- the bits of a number, which are never minus zero: "the encoder never writes it"
abbrev pub code_at : ℕ → ℤ → ℕ
code_at half (pos n) = n
code_at half (negsuc n) = half + suc n
