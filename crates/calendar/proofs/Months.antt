-- The table of four years is the calendar's: month i from January 1992 begins where the table says (`begins`), so that a day's date is found from the month that
-- has it (`found`), for 22 times four years.
-- Assumes nothing.
use mathlib.Core.Path.{◌≡◌, refl, sym, ap, ◌∙◌, subst}
use mathlib.Core.Bool.{Bool, true, false, not, ◌&&◌}
use Prim.Native.Nat.{ℕ, zero, suc, ◌+◌, ◌-◌, ◌*◌, ◌/◌, ◌%◌, ◌≤◌, ◌<◌}
use native.Mathlib.Nat.{add_comm, lt_of_not-le}
use native.Mathlib.Omega.{arith}
use lib.ListN.{get_or}
use lib.Dec.{T, lit<, lit≤, eqb, leb, ltb, eqb→eq, leb→le, nleb→lt, ltb→lt}
use borrow.Author.Tests.{lt-ltb, le-ltb, leb-true, leb-false}
use Rattle.std.specs.List.Sorted.{IsNonDecreasingBy, IsPartitionPoint}
use Rattle.std.proofs.lemmas.List.Sorted.{IsNonDecreasingBy-from_all_adjacent}
use Rattle.strings.proofs.Below.{and_left, and_right, below, below_at}
use Rattle.calendar.specs.declared.Date.{Date}
use Rattle.calendar.specs.Calendar.{length_of, date, first_of_next, after, date_of, Real, EveryDay, Later}
use Rattle.calendar.specs.FourYears.{starts, start_of, IsMonth}
use Rattle.calendar.proofs.Walk.{after_sum, within, over}

-- month i from January 1992, and on which day from 1 January 1992 it begins by the table
abbrev year_of : ℕ → ℕ
year_of i = 1992 + i / 12

abbrev month_of : ℕ → ℕ
month_of i = i % 12 + 1

abbrev days_to : ℕ → ℕ
days_to i = 1461 * (i / 48) + start_of (i % 48)

-- ---- the rule of the table: from one month to the next are as many days as the month has
abbrev follows : ℕ → Bool
follows i = eqb (days_to (suc i)) (days_to i + length_of (year_of i) (month_of i))

abbrev some_days : ℕ → Bool
some_days i = ltb 0 (length_of (year_of i) (month_of i)) && leb (length_of (year_of i) (month_of i)) 31

abbrev test : ℕ → Bool
test i = follows i && some_days i

all_months : T (below 1056 test)
unfolding starts
all_months = tt

module _ (i : ℕ) (h : i < 1056) where
  passed : T (test i)
  passed = below_at 1056 test all_months i h

  pub next_month : days_to (suc i) ≡ days_to i + length_of (year_of i) (month_of i)
  next_month = eqb→eq (days_to (suc i)) (days_to i + length_of (year_of i) (month_of i)) (and_left (follows i) (some_days i) passed)

  counted : T (some_days i)
  counted = and_right (follows i) (some_days i) passed

  has_a_day : 0 < length_of (year_of i) (month_of i)
  has_a_day = let L = length_of (year_of i) (month_of i) in ltb→lt 0 L (and_left (ltb 0 L) (leb L 31) counted)

  at_most_31 : length_of (year_of i) (month_of i) ≤ 31
  at_most_31 = let L = length_of (year_of i) (month_of i) in leb→le L 31 (and_right (ltb 0 L) (leb L 31) counted)

next_first : (i : ℕ) → first_of_next (year_of i) (month_of i) ≡ date (year_of (suc i)) (month_of (suc i)) 1
next_first i = go (leb 12 (month_of i)) (leb→le 12 (month_of i)) (nleb→lt 12 (month_of i))
  where
    go : (b : Bool) → (T b → 12 ≤ month_of i) → (T (not b) → month_of i < 12) → first_of_next (year_of i) (month_of i) ≡ date (year_of (suc i)) (month_of (suc i)) 1
    go true p q =
        let e : year_of i + 1 ≡ year_of (suc i) = omega (arith, p tt) in
        let f : 1 ≡ month_of (suc i) = omega (arith, p tt) in
        rw (le-ltb (month_of i) 12 (p tt)) (cc)
    go false p q =
        let e : year_of i ≡ year_of (suc i) = omega (arith, q tt) in
        let f : month_of i + 1 ≡ month_of (suc i) = omega (arith, q tt) in
        rw (lt-ltb (month_of i) 12 (q tt)) (cc)

-- ---- so it begins there
abbrev start : Date
start = date 1992 1 1

begins : (i : ℕ) → i ≤ 1056 → after (days_to i) start ≡ date (year_of i) (month_of i) 1
unfolding starts
begins zero h = refl
begins (suc i) h =
    ap (λ (n : ℕ). after n start) (next_month i h)
    ∙ after_sum (days_to i) (length_of (year_of i) (month_of i)) start
    ∙ ap (λ (t : Date). after (length_of (year_of i) (month_of i)) t) (begins i (omega arith))
    ∙ over (year_of i) (month_of i) (length_of (year_of i) (month_of i)) refl (has_a_day i h)
    ∙ next_first i

-- ---- and a day of month i has this date
found : (days i : ℕ) → i < 1056 → days_to i ≤ days → days < days_to (suc i) → after days start ≡ date (year_of i) (month_of i) (days - days_to i + 1)
found days i h from to =
    let sum : days ≡ days_to i + (days - days_to i) = omega arith in
    ap (λ (n : ℕ). after n start) sum
    ∙ after_sum (days_to i) (days - days_to i) start
    ∙ ap (λ (t : Date). after (days - days_to i) t) (begins i (omega arith))
    ∙ within (year_of i) (month_of i) (days - days_to i) (omega (arith, next_month i h))

-- 31 December 1995 is the last day of the first four years
last_of_1995 : after 1460 start ≡ date 1995 12 31
unfolding starts
last_of_1995 = found 1460 47 (lit< tt) (lit≤ tt) (lit< tt)

from_1992 : (n : ℕ) → date_of n ≡ after (n + 1460) start
unfolding date_of
from_1992 n = ap (λ (t : Date). after n t) (sym last_of_1995) ∙ sym (after_sum 1460 n start) ∙ ap (λ (m : ℕ). after m start) (add_comm 1460 n)

-- ---- by the day of the four years, as the code finds it
table_at : (q j : ℕ) → j < 48 → days_to (48 * q + j) ≡ 1461 * q + start_of j
table_at q j h =
    let f : (48 * q + j) % 48 ≡ j = omega arith in
    let e : (48 * q + j) / 48 ≡ q = omega arith in
    cc

table_after : (q j : ℕ) → j < 48 → days_to (suc (48 * q + j)) ≡ 1461 * q + start_of (suc j)
unfolding starts
table_after q j h = go (leb 47 j) (leb→le 47 j) (nleb→lt 47 j)
  where
    go : (b : Bool) → (T b → 47 ≤ j) → (T (not b) → j < 47) → days_to (suc (48 * q + j)) ≡ 1461 * q + start_of (suc j)
    go true p n =
        let e : suc (48 * q + j) / 48 ≡ q + 1 = omega (arith, p tt) in
        let f : suc (48 * q + j) % 48 ≡ 0 = omega (arith, p tt) in
        let g : suc j ≡ 48 = omega (arith, p tt) in
        ap (λ (k : ℕ). 1461 * k + start_of (suc (48 * q + j) % 48)) e ∙ ap (λ (k : ℕ). 1461 * (q + 1) + start_of k) f ∙ omega arith ∙ ap (λ (k : ℕ). 1461 * q + start_of k) (sym g)
    go false p n =
        let e : suc (48 * q + j) / 48 ≡ q = omega (arith, n tt) in
        let f : suc (48 * q + j) % 48 ≡ suc j = omega (arith, n tt) in
        cc

abbrev quarter_of : ℕ → ℕ
quarter_of n = (n + 1460) / 1461

abbrev rest_of : ℕ → ℕ
rest_of n = (n + 1460) % 1461

abbrev index_of : ℕ → ℕ → ℕ
index_of n j = 48 * quarter_of n + j

module _ (n j : ℕ) (h : n ≤ 30681) (m : IsMonth (rest_of n) j) where
  few : index_of n j < 1056
  few = omega (arith, m.one_of_48)

  from : days_to (index_of n j) ≤ n + 1460
  from = omega (arith, table_at (quarter_of n) j m.one_of_48, m.from)

  to : n + 1460 < days_to (suc (index_of n j))
  to = omega (arith, table_after (quarter_of n) j m.one_of_48, m.before_next)

  here : date_of n ≡ date (year_of (index_of n j)) (month_of (index_of n j)) (n + 1460 - days_to (index_of n j) + 1)
  here = from_1992 n ∙ found (n + 1460) (index_of n j) few from to

  pub by_table : date_of n ≡ date (1992 + quarter_of n * 4 + j / 12) (j % 12 + 1) (rest_of n - start_of j + 1)
  by_table =
      let y : year_of (index_of n j) ≡ 1992 + quarter_of n * 4 + j / 12 = omega arith in
      let o : month_of (index_of n j) ≡ j % 12 + 1 = omega arith in
      let d : n + 1460 - days_to (index_of n j) + 1 ≡ rest_of n - start_of j + 1 = omega (arith, table_at (quarter_of n) j m.one_of_48, m.from) in
      cc here

-- ---- the code's search for the month
abbrev rises : ℕ → ℕ → Bool
rises d k = leb (get_or starts k d) (get_or starts (k + 1) d)

all_rise : (d : ℕ) → T (below 48 (rises d))
unfolding starts
all_rise d = tt

pub ascending : IsNonDecreasingBy (λ x. x) starts
unfolding starts
ascending =
    IsNonDecreasingBy-from_all_adjacent (λ x. x) starts
    (λ k d h. leb→le (get_or starts k d) (get_or starts (k + 1) d) (below_at 48 (rises d) (all_rise d) k (omega (arith, h))))

-- where i months begin on this day or before it, it is of the last of them
pub month_found : (day i : ℕ) → day < 1461 → IsPartitionPoint (λ y. leb y day ≡ true) (λ y. leb y day ≡ false) starts i → (1 ≤ i) × IsMonth day (i - 1)
unfolding starts
month_found day i h p =
    let one : 1 ≤ i = lt_of_not-le (λ (g : i ≤ 0). omega (arith, leb-false 0 day (p.1 0 0 g (lit< tt)))) in
    let few : i < 49 = lt_of_not-le (λ (g : 49 ≤ i). omega (arith, leb-true 1461 day (p.0 48 0 (lit≤ tt) g))) in
    let next : suc (i - 1) ≡ i = omega arith in (
      one,
      record {
        one_of_48 = omega arith;
        from = leb-true (start_of (i - 1)) day (p.0 (i - 1) 0 (omega arith) (omega arith));
        before_next = subst (λ (k : ℕ). day < start_of k) (sym next) (leb-false (start_of i) day (p.1 i 0 (omega arith) few));
      },
    )

-- ---- each day is one of a month, from 31 December 1995 on
has_month : (day j : ℕ) → j ≤ 48 → day < start_of j → (i : ℕ) × IsMonth day i
unfolding starts
has_month day zero k h = absurd (omega arith)
has_month day (suc j) k h = go (leb (start_of j) day) (leb→le (start_of j) day) (nleb→lt (start_of j) day) (λ (l : day < start_of j). has_month day j (omega arith) l)
  where
    go : (b : Bool) → (T b → start_of j ≤ day) → (T (not b) → day < start_of j) → (day < start_of j → (i : ℕ) × IsMonth day i) → (i : ℕ) × IsMonth day i
    go true p n more = (j, record { one_of_48 = k; from = p tt; before_next = h })
    go false p n more = more (n tt)

real_at : (n j : ℕ) → 1 ≤ n → n ≤ 30681 → IsMonth (rest_of n) j → Real (date_of n)
real_at n j l h m =
    let i = index_of n j in
    let F = few n j h m in
    subst (λ (t : Date). Real t) (sym (here n j h m)) (
    record {
      from_1995 = omega arith;
      to_2079 = omega (arith, F);
      month_least = omega arith;
      month_most = omega arith;
      day_least = omega arith;
      day_most = omega (arith, next_month i F, from n j h m, to n j h m);
      at_most_31 = omega (arith, at_most_31 i F, next_month i F, from n j h m, to n j h m);
    }
    )

pub real : EveryDay
unfolding starts date_of
real zero h = record { from_1995 = lit≤ tt; to_2079 = lit≤ tt; month_least = lit≤ tt; month_most = lit≤ tt; day_least = lit≤ tt; day_most = lit≤ tt; at_most_31 = lit≤ tt }
real (suc n) h = let s = has_month (rest_of (suc n)) 48 (lit≤ tt) (omega arith) in real_at (suc n) s.0 (omega arith) h s.1

pub later : Later
unfolding starts
later =
    record {
      in_2016 = by_table 7409 3 (lit≤ tt) (record { one_of_48 = lit< tt; from = lit≤ tt; before_next = lit< tt });
      leap_day = by_table 29280 1 (lit≤ tt) (record { one_of_48 = lit< tt; from = lit≤ tt; before_next = lit< tt });
      last = by_table 30681 47 (lit≤ tt) (record { one_of_48 = lit< tt; from = lit≤ tt; before_next = lit< tt });
    }
