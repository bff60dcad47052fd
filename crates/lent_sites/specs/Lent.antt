-- A station lent by a host in C: emptied, another site's book joined into its own, and its own book written for another site (requests 13, 21 and 22).
-- For every station value.
-- Assumes nothing.
use Rattle.std.specs.Prelude.{ℕ, List, ◌≡◌, eqb, length}
use Rattle.strings.specs.Pick.{pick}
use Rattle.station.specs.declared.Station.{Station}
use Rattle.station.specs.Station.{fresh_station}
use Rattle.wire.specs.Bytes.{book_bytes, book_from}
use Rattle.sites.specs.Joining.{join_books, site_joined}

-- how many bytes a book is
abbrev pub book_length : ℕ
book_length = 480

-- "A fresh station is all empty", whatever it was before
pub record FreshLent (st' : Station) : Type 0 where
  pub station : st' ≡ fresh_station

-- SHAPE where the bytes are no book, and then nothing changes; else the book that they are is joined
pub record JoinsLent (st : Station) (s : List ℕ) (st' : Station) (r : ℕ) : Type 0 where
  pub answer : r ≡ pick (eqb (length s) book_length) 0 2
  pub station : st' ≡ pick (eqb (length s) book_length) (site_joined st (book_from s)) st

-- the entries alone; the rows and the summary as they were
abbrev pub JoinsEntries : Station → List ℕ → Station → Type 0
JoinsEntries st s st' = st' ≡ record { rows = st.rows; book = join_books st.book (book_from s); summary = st.summary }

-- ROOM where the bytes lent are not a book's, and then they stay; else they are the book's
pub record SendsLent (st : Station) (out : List ℕ) (out' : List ℕ) (r : ℕ) : Type 0 where
  pub answer : r ≡ pick (eqb (length out) book_length) 0 12
  pub bytes : out' ≡ pick (eqb (length out) book_length) (book_bytes st.book) out
