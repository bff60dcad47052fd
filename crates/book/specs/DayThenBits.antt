-- The order of entries, one step at a time (the paper, "Frames and the book"): "Two entries for one nA compare by day, then by the even string's
-- bits 80..9 as a number, then by the odd string's bits 80..10. The book keeps the greater." The proof stands in `proofs/DayThenBits.antt`.
-- Assumes nothing.
use Rattle.std.specs.Prelude.{ℕ, ◌+◌, ◌*◌, ◌^◌, ◌<◌, true, false, ◌≡◌, refl}
use Rattle.book.specs.declared.Entry.{Entry}
use Rattle.book.specs.Entry.{Three, is_below, greater}

-- the first of two is below the second, and not the second below the first
pub record FirstBelow (t u : Three) : Type 0 where
  pub below : is_below t u ≡ true
  pub not_above : is_below u t ≡ false

pub record DayThenBits (t u : Three) : Type 0 where
  -- "by day", whatever the bits
  pub day : t.day < u.day → FirstBelow t u
  -- "then by the even string's bits", whatever the odd ones
  pub even : t.day ≡ u.day → t.even < u.even → FirstBelow t u
  -- "then by the odd string's bits"
  pub odd : t.day ≡ u.day → t.even ≡ u.even → t.odd < u.odd → FirstBelow t u

-- the second of two is kept, whichever came first
pub record SecondKept (a b : Entry) : Type 0 where
  pub second : greater a b ≡ b
  pub first : greater b a ≡ b

-- the even string's 72 bits and the odd string's 71, as numbers
abbrev pub even_bits : Entry → ℕ
even_bits e = e.etop * 2 ^ 64 + e.even

abbrev pub odd_bits : Entry → ℕ
odd_bits e = e.otop * 2 ^ 64 + e.odd

-- "The book keeps the greater"
pub record KeptByDayThenBits (a b : Entry) : Type 0 where
  pub day : a.day < b.day → SecondKept a b
  pub even : a.day ≡ b.day → even_bits a < even_bits b → SecondKept a b
  pub odd : a.day ≡ b.day → even_bits a ≡ even_bits b → odd_bits a < odd_bits b → SecondKept a b

-- ---- computed, where the later steps say the opposite
abbrev three : ℕ → ℕ → ℕ → Three
three d e o = record { day = d; even = e; odd = o }

pub record Witness : Type 0 where
  -- the earlier day has the greater bits
  pub day_first : FirstBelow (three 8765 9 9) (three 8766 1 1)
  -- on one day, the smaller even number has the greater odd one
  pub even_first : FirstBelow (three 8766 1 9) (three 8766 2 1)
  pub odd_last : FirstBelow (three 8766 1 1) (three 8766 1 2)

pub witness : Witness
witness =
    record {
      day_first = record { below = refl; not_above = refl };
      even_first = record { below = refl; not_above = refl };
      odd_last = record { below = refl; not_above = refl };
    }
