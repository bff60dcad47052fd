-- Along the days of a month, and from one month to the next. Assumes nothing.
use mathlib.Core.Path.{◌≡◌, refl, ap, ◌∙◌}
use mathlib.Core.Bool.{Bool, cond}
use Prim.Native.Nat.{ℕ, zero, suc, ◌+◌, ◌<◌}
use native.Mathlib.Nat.{add-suc, add-zero}
use native.Mathlib.Omega.{arith}
use borrow.Author.Tests.{lt-ltb, le-ltb}
use Rattle.calendar.specs.declared.Date.{Date}
use Rattle.calendar.specs.Calendar.{length_of, date, first_of_next, next_day, after}

-- first some days, then some more
pub after_sum : (a b : ℕ) (t : Date) → after (a + b) t ≡ after b (after a t)
after_sum a zero t = ap (λ (n : ℕ). after n t) (add-zero a)
after_sum a (suc b) t = ap (λ (n : ℕ). after n t) (add-suc a b) ∙ ap next_day (after_sum a b t)

-- k days after the first of a month is day k + 1, within the month
pub within : (y m k : ℕ) → k < length_of y m → after k (date y m 1) ≡ date y m (k + 1)
within y m zero h = refl
within y m (suc k) h =
    ap next_day (within y m k (omega arith))
    ∙ ap (λ (b : Bool). cond b (date y m (k + 1 + 1)) (first_of_next y m)) (lt-ltb (k + 1) (length_of y m) (omega arith))
    ∙ ap (λ (d : ℕ). date y m d) (omega arith)

-- and as many days as the month has, the first of the next
pub over : (y m n : ℕ) → n ≡ length_of y m → 0 < n → after n (date y m 1) ≡ first_of_next y m
over y m zero e h = absurd (omega arith)
over y m (suc k) e h =
    ap next_day (within y m k (omega arith))
    ∙ ap (λ (b : Bool). cond b (date y m (k + 1 + 1)) (first_of_next y m)) (le-ltb (k + 1) (length_of y m) (omega arith))
