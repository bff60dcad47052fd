-- The gate as a call on a lent station asks it: its number, which the call tests for 0, and what that says either way. Of a call that is let in: its row is
-- one of the rows (served), and its number and the place of the row's bytes fit in 64 bits (wide, in_bytes_lem).
-- Assumes nothing.
use mathlib.Core.Path.{◌≡◌, sym, ◌∙◌}
use mathlib.Core.Bool.{true, false}
use mathlib.Core.List.{[], ◌∷◌}
use Prim.Native.Nat.{ℕ, ◌*◌, ◌<◌, ◌≤◌, ◌^◌}
use native.Mathlib.Omega.{arith}
use Rattle.strings.specs.Numbers.{first_of}
use Rattle.station.specs.Station.{channels, gate_tests, is_served, shut_says}
use Rattle.station.proofs.Served.{served_below, zero_served, number_said_lem}
use Rattle.lent.proofs.Parts.{row_bytes}

module _ (card c r : ℕ) (er : r ≡ first_of (gate_tests card c)) where
  pub shut_out : 0 < r → (is_served card c ≡ false) × (shut_says card c ≡ r ∷ [])
  shut_out t = number_said_lem card c r er t

  pub let_in_lem : r ≤ 0 → is_served card c ≡ true
  let_in_lem n = let z : r ≡ 0 = omega arith in zero_served card c (sym er ∙ z)

pub served : (card c : ℕ) → is_served card c ≡ true → c < channels
served card c n = served_below card c n

pub wide : (card c : ℕ) → is_served card c ≡ true → c < 2 ^ 64
wide card c n = omega (arith, served card c n)

pub in_bytes_lem : (card c : ℕ) → is_served card c ≡ true → c * row_bytes < 2 ^ 64
in_bytes_lem card c n = omega (arith, served card c n)
