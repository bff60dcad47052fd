-- What the tests of a shown entry say.
-- Assumes nothing.
use mathlib.Core.Path.{◌≡◌, refl, sym, ◌∙◌}
use mathlib.Core.Bool.{Bool, true, false, ◌&&◌}
use Prim.Native.Nat.{ℕ, ◌≤◌}
use borrow.Author.Tests.{leb-true}
use lib.Dec.{leb, lit≤}
use Rattle.strings.proofs.Below.{both}
use Rattle.words.specs.Good.{is_good}
use Rattle.words.proofs.Good.{good_is}
use Rattle.records.specs.declared.kinds.Kind.TheVariants.{Five, Even, Odd}
use Rattle.book.specs.Shows.{is_shown, four_years, day_in_four, slot_in}
use Rattle.book.specs.Book.{slots}

-- string 5 is read first, then the halves
pub shown_is : (five even odd : ℕ) → is_shown five even odd ≡ ((is_good Five five && leb 1 (four_years five)) && (is_good Even even && is_good Odd odd))
unfolding is_shown
shown_is five even odd = by (is_good Five five) (leb 1 (four_years five)) (is_good Even even && is_good Odd odd)
  where
    by : (a b c : Bool) → (a && (b && c)) ≡ ((a && b) && c)
    by true b c = refl
    by false b c = refl

-- a string 5 that is good and states N4: "NA 1..1461", "N4 at least 1"
pub record DayRead (n : ℕ) : Type 0 where
  pub stated : 1 ≤ four_years n
  pub least : 1 ≤ day_in_four n
  pub most : day_in_four n ≤ 1461

pub day_read : (n : ℕ) → (is_good Five n && leb 1 (four_years n)) ≡ true → DayRead n
day_read n e =
    let p = both (is_good Five n) (leb 1 (four_years n)) e in
    let q = both (leb 1 (day_in_four n)) (leb (day_in_four n) 1461) (sym (good_is Five n (lit≤ tt)) ∙ p.0) in
    record { stated = leb-true 1 (four_years n) p.1; least = leb-true 1 (day_in_four n) q.0; most = leb-true (day_in_four n) 1461 q.1 }

-- a good even string: "nA 1..24"
pub slot_read : (n : ℕ) → is_good Even n ≡ true → (1 ≤ slot_in n) × (slot_in n ≤ slots)
slot_read n e =
    let q = both (leb 1 (slot_in n)) (leb (slot_in n) slots) (sym (good_is Even n (lit≤ tt)) ∙ e) in
    (leb-true 1 (slot_in n) q.0, leb-true (slot_in n) slots q.1)
