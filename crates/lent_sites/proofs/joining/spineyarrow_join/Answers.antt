-- `joining::spineyarrow_join` meets its contract: where the length is a book's, the station is lent on to `join_entries` and then to `sum_up`.
-- Assumes nothing.
use mathlib.Core.Path.{◌≡◌, refl, ap, ◌∙◌}
use mathlib.Core.Bool.{true, false}
use mathlib.Core.List.{List}
use Prim.Native.Nat.{ℕ}
use borrow.Author.Tests.{eq-eqb}
use lib.Dec.{eqb}
use lib.ListN.{length}
use Rattle.summary.specs.Walk.{walk_of as summary_of}
use Rattle.station.specs.declared.Station.{Station}
use Rattle.sites.specs.Joining.{site_joined}
use Rattle.lent.specs.Lent.{SumsUp}
use Rattle.lent_sites.specs.Lent.{book_length, JoinsLent, JoinsEntries}
use Rattle.lent_sites.proofs.joining.spineyarrow_join.Goals as goal

-- ---- the contract, from what the callees say
refused : (st : Station) (s : List ℕ) → eqb (length s) book_length ≡ false → JoinsLent st s st 2
refused st s e = record { answer = rw e refl; station = rw e refl }

abbrev summed : Station → Station
summed st = record { rows = st.rows; book = st.book; summary = summary_of st.book.entries }

joined : (st : Station) (s : List ℕ) (st₁ st₂ : Station) → eqb (length s) book_length ≡ true → JoinsEntries st s st₁ → SumsUp st₁ true st₂ → JoinsLent st s st₂ 0
unfolding site_joined
joined st s st₁ st₂ e je su = record { answer = rw e refl; station = rw e (su ∙ ap summed je) }

pub returns : goal.returns
returns c =
    joined c.args.st.now c.args.book.now c.join_entries.new.st c.sum_up.new.st (eq-eqb (length c.args.book.now) book_length c.if-book-ne-BOOK_BYTES.false) c.join_entries.ensures c.sum_up.ensures
