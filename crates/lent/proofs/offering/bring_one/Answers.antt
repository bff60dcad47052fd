-- `offering::bring_one` meets its contract: the entry of what is shown is read through the borrow, and where `rises` says so the entry that `join` gives
-- is written in its place (joined_one), or the book is as it was (kept_one).
-- Assumes nothing.
use mathlib.Core.Path.{◌≡◌, sym, ap, ◌∙◌}
use mathlib.Core.Bool.{Bool, false}
use Prim.Native.Nat.{ℕ}
use lib.ListN.{get_or, set}
use Rattle.book.specs.declared.Entry.{Entry}
use Rattle.std.specs.Prelude.{Option}
use Rattle.book.specs.declared.Book.{Book}
use Rattle.book.specs.Entry.{blank}
use Rattle.book.specs.Book.{place_in, joined_entry, rises_above}
use Rattle.book.proofs.Joins.{shown_in_place, shown_below}
use Rattle.shows.specs.Shows.{rises_in}
use Rattle.station.specs.declared.Station.{Station}
use Rattle.lent.specs.Lent.{BringsOne}
use Rattle.lent.proofs.offering.bring_one.Goals as goal

-- ---- the contract, from what became of the entry
abbrev left : Station → ℕ → Entry → Station
left st k e = record { rows = st.rows; book = record { entries = set st.book.entries k e }; summary = st.summary }

abbrev entry_at : Station → ℕ → Entry
entry_at st k = get_or st.book.entries k blank

-- with another book
abbrev rebound : Station → Book → Station
rebound st b = record { rows = st.rows; book = b; summary = st.summary }

-- whether the entry rose, as the slot says
risen : (st : Station) (s : Option (ℕ × Entry)) (k : ℕ) (t : Bool) → k ≡ place_in s → t ≡ rises_above (entry_at st k) s → t ≡ rises_in st.book s
risen st s k t p q = q ∙ ap (λ (i : ℕ). rises_above (entry_at st i) s) p

joined_one : (st : Station) (s : Option (ℕ × Entry)) (k : ℕ) (e : Entry) (t : Bool) → k ≡ place_in s → t ≡ rises_above (entry_at st k) s → e ≡ joined_entry (entry_at st k) s
    → BringsOne st s (left st k e) t
joined_one st s k e t p q r = (rw (r, p) (ap (rebound st) (shown_in_place st.book s)), risen st s k t p q)

kept_one : (st : Station) (s : Option (ℕ × Entry)) (k : ℕ) (t : Bool) → k ≡ place_in s → t ≡ rises_above (entry_at st k) s → t ≡ false → BringsOne st s st t
kept_one st s k t p q f = (ap (rebound st) (shown_below st.book s (sym (risen st s k t p q) ∙ f)), risen st s k t p q)

pub returns-then-higher : goal.returns-then-higher
returns-then-higher c =
    joined_one c.args.st.now c.args.s c.place_of-at.result c.join.result c.rises-higher.result c.place_of-at.ensures.0 c.rises-higher.ensures c.join.ensures

pub returns-else-higher : goal.returns-else-higher
returns-else-higher c =
    kept_one c.args.st.now c.args.s c.place_of-at.result c.rises-higher.result c.place_of-at.ensures.0 c.rises-higher.ensures c.if-higher.false
