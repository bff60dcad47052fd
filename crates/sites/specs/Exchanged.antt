-- A station that a book is joined into: what stays, and that a join may be exchanged with a call and with another join. Of any station and any books that the
-- types allow. Proved as `site_laws` in `proofs/Exchanges.antt`.
-- Assumes nothing.
use Rattle.std.specs.Prelude.{ℕ, List, ◌≡◌}
use Rattle.book.specs.declared.Book.{Book}
use Rattle.book.specs.Book.{IsBook}
use Rattle.summary.specs.Walk.{walk_of}
use Rattle.station.specs.declared.Station.{Station}
use Rattle.station.specs.declared.Stepped.{Stepped}
use Rattle.station.specs.declared.Emptied.{Emptied}
use Rattle.station.specs.Station.{OffersTo, Resets}
use Rattle.station.specs.Demand1.{WellMade}
use Rattle.sites.specs.Joining.{join_books, site_joined}

-- a call on the joined station, and the same call before the join: the same answer, and the station is the joined one
pub record CallAndJoin (st : Station) (other : Book) : Type 0 where
  pub offer : (card c epoch : ℕ) (s : List ℕ) (before after : Stepped) → OffersTo st card c epoch s before → OffersTo (site_joined st other) card c epoch s after
      → (after.answer ≡ before.answer) × (after.station ≡ site_joined before.station other)
  pub reset : (card c : ℕ) (before after : Emptied) → Resets st card c before → Resets (site_joined st other) card c after
      → (after.answer ≡ before.answer) × (after.station ≡ site_joined before.station other)

pub record SiteLaws (st : Station) : Type 0 where
  -- rows, records and tallies are as they were; the summary "equals its walk"
  pub rows : (other : Book) → (site_joined st other).rows ≡ st.rows
  pub book : (other : Book) → (site_joined st other).book ≡ join_books st.book other
  pub walked : (other : Book) → (site_joined st other).summary ≡ walk_of (site_joined st other).book.entries
  -- two joins may be exchanged, and are one with the books joined
  pub joins : (a b : Book) → IsBook a → IsBook b → site_joined (site_joined st a) b ≡ site_joined (site_joined st b) a
  pub grouped : (a b : Book) → site_joined (site_joined st a) b ≡ site_joined st (join_books a b)
  -- the same book again changes nothing
  pub again : (other : Book) → IsBook other → site_joined (site_joined st other) other ≡ site_joined st other
  -- a join and a call may be exchanged
  pub call : WellMade st → (other : Book) → IsBook other → CallAndJoin st other
