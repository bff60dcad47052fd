-- The lines of a record as RINEX 2.11 fixes their columns, 79 and a line feed each: `I2,1X,I2.2,4(1X,I2),F5.1,3D19.12` and `3X,4D19.12`.
-- Assumes nothing.
use Rattle.std.specs.Prelude.{ℕ, ◌+◌, cond, List, [], ◌∷◌, ◌++◌, ltb, ℤ, neg_ℤ}
use Rattle.decimals.specs.Codes.{codes}
use Rattle.decimals.specs.Decimal.{digits_of, decimal_of}
use Rattle.rinex.specs.declared.epoch.Epoch.{Epoch}

-- I2: a number below 100, a blank before one digit
abbrev pub two_of : ℕ → List ℕ
two_of n = cond (ltb n 10) (32 ∷ (48 + n) ∷ []) (digits_of 2 n)

-- 1X,I2.2: the year's last two digits
abbrev pub year_of : ℕ → List ℕ
year_of y = 32 ∷ digits_of 2 y

-- 1X,I2
abbrev pub field_of : ℕ → List ℕ
field_of n = 32 ∷ two_of n

-- n, year, month, day, hour, minute, second
unfoldable pub epoch_text : ℕ → Epoch → List ℕ
epoch_text n e = two_of n ++ (year_of e.year ++ (field_of e.month ++ (field_of e.day ++ (field_of e.hour ++ (field_of e.minute ++ codes "  0.0")))))

-- "Clock bias is written with the sign the standard asks": minus tau, 2 ^ -30 s; gamma, 2 ^ -40; the message frame time, s
unfoldable pub first_line : ℕ → Epoch → ℤ → ℤ → ℤ → List ℕ
first_line n e tau gamma time = epoch_text n e ++ (decimal_of (neg_ℤ tau) 30 ++ (decimal_of gamma 40 ++ (decimal_of time 0 ++ codes "\n")))

-- of an axis: place, 2 ^ -11 km; velocity, 2 ^ -20 km/s; acceleration, 2 ^ -30 km/s^2; and a whole number
unfoldable pub other_line : ℤ → ℤ → ℤ → ℤ → List ℕ
other_line place velocity acceleration last = codes "   " ++ (decimal_of place 11 ++ (decimal_of velocity 20 ++ (decimal_of acceleration 30 ++ (decimal_of last 0 ++ codes "\n"))))
