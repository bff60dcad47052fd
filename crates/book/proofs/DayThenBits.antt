-- The order of entries, one step at a time.
-- Assumes nothing.
use mathlib.Core.Path.{◌≡◌, sym}
use Prim.Native.Nat.{◌<◌}
use native.Mathlib.Omega.{arith}
use borrow.Author.Tests.{lt-ltb, le-ltb, eq-eqb, ne_eqb}
use Rattle.book.specs.declared.Entry.{Entry}
use Rattle.book.specs.Entry.{Three, meaning, greater}
use Rattle.book.specs.DayThenBits.{FirstBelow, DayThenBits, SecondKept, KeptByDayThenBits}

module _ (t u : Three) where
  by_day : t.day < u.day → FirstBelow t u
  by_day h =
      record {
        below = rw (lt-ltb t.day u.day h);
        not_above = rw (le-ltb u.day t.day (omega arith), ne_eqb u.day t.day (λ e. omega arith));
      }

  by_even : t.day ≡ u.day → t.even < u.even → FirstBelow t u
  by_even d h =
      record {
        below = rw (le-ltb t.day u.day (omega arith), eq-eqb t.day u.day d, lt-ltb t.even u.even h);
        not_above = rw (
          le-ltb u.day t.day (omega arith),
          eq-eqb u.day t.day (sym d),
          le-ltb u.even t.even (omega arith),
          ne_eqb u.even t.even (λ e. omega arith),
        );
      }

  by_odd : t.day ≡ u.day → t.even ≡ u.even → t.odd < u.odd → FirstBelow t u
  by_odd d e h =
      record {
        below = rw (
          le-ltb t.day u.day (omega arith),
          eq-eqb t.day u.day d,
          le-ltb t.even u.even (omega arith),
          eq-eqb t.even u.even e,
          lt-ltb t.odd u.odd h,
        );
        not_above = rw (
          le-ltb u.day t.day (omega arith),
          eq-eqb u.day t.day (sym d),
          le-ltb u.even t.even (omega arith),
          eq-eqb u.even t.even (sym e),
          le-ltb u.odd t.odd (omega arith),
        );
      }

  -- BY DAY, THEN BY THE EVEN BITS, THEN BY THE ODD BITS
  pub day_then_bits : DayThenBits t u
  day_then_bits = record { day = by_day; even = by_even; odd = by_odd }

-- what is below is not kept
kept : (a b : Entry) → FirstBelow (meaning a) (meaning b) → SecondKept a b
unfolding greater
kept a b f = record { second = rw f.below; first = rw f.not_above }

-- THE BOOK KEEPS THE GREATER, by the same steps
pub kept_by_day_then_bits : (a b : Entry) → KeptByDayThenBits a b
kept_by_day_then_bits a b =
    let o = day_then_bits (meaning a) (meaning b) in
    record { day = λ h. kept a b (o.day h); even = λ d h. kept a b (o.even d h); odd = λ d e h. kept a b (o.odd d e h) }
