-- `sending::spineyarrow_book` meets its contract: where the length is a book's, the slice is given to `put_entries`, which says what it holds at last.
-- Assumes nothing.
use mathlib.Core.Path.{◌≡◌, refl}
use mathlib.Core.Bool.{true, false}
use mathlib.Core.List.{List}
use Prim.Native.Nat.{ℕ}
use lib.Dec.{eqb}
use lib.ListN.{length}
use Rattle.station.specs.declared.Station.{Station}
use Rattle.wire.specs.Bytes.{entries_bytes}
use Rattle.lent_sites.specs.Lent.{book_length, SendsLent}

-- ---- the contract, from what the callee says
refused : (st : Station) (out : List ℕ) → eqb (length out) book_length ≡ false → SendsLent st out out 12
refused st out e = record { answer = rw e refl; bytes = rw e refl }

sent : (st : Station) (out zs : List ℕ) → eqb (length out) book_length ≡ true → zs ≡ entries_bytes st.book.entries → SendsLent st out zs 0
sent st out zs e z = record { answer = rw e refl; bytes = rw e z }
