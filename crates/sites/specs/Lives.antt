-- After a join (request 13): "After a join, the book rule of demand 3 counts what either site has shown." A site's life is fresh, a call more, or a join with
-- the book that another site's life has left so far. Proved as `every_life` and `life_laws` in `proofs/Lives.antt`.
-- Assumes nothing.
use Rattle.std.specs.Prelude.{ℕ, ◌≤◌, false, List, [], ◌∷◌, ◌↔◌, ◌≡◌}
use Rattle.book.specs.Entry.{Three, meaning, is_below}
use Rattle.book.specs.Book.{slots, in_slot, IsBook}
use Rattle.wire.specs.Bytes.{book_bytes, book_from}
use Rattle.summary.specs.Walk.{walk_of}
use Rattle.station.specs.declared.Station.{Station}
use Rattle.station.specs.declared.Stepped.{Stepped}
use Rattle.station.specs.declared.Emptied.{Emptied}
use Rattle.station.specs.Station.{fresh_station, OffersTo, Resets}
use Rattle.station.specs.History.{Call, Offer, Reset, ShownIn, Runs, station_of}
use Rattle.station.specs.Demand3.{BookRule}
use Rattle.sites.specs.Joining.{site_joined}

pub data Life : Type 0 where
  Fresh : Life
  Then : (call : Call) → (before : Life) → Life
  Joined : (before other : Life) → Life

-- the calls on the site's own station, the latest first
abbrev pub own_calls : Life → List Call
own_calls Fresh = []
own_calls (Then call l) = call ∷ own_calls l
own_calls (Joined l other) = own_calls l

-- the station that a life leaves: each call as its contract says, each join as `join_site`'s
pub data Lived : Life → Station → Type 0 where
  fresh : Lived Fresh fresh_station
  offering : (card c epoch : ℕ) (s : List ℕ) (l : Life) (st : Station) (r : Stepped) → Lived l st → OffersTo st card c epoch s r
      → Lived (Then (Offer card c epoch s) l) r.station
  resetting : (card c : ℕ) (l : Life) (st : Station) (r : Emptied) → Lived l st → Resets st card c r → Lived (Then (Reset card c) l) r.station
  joining : (l m : Life) (st other : Station) → Lived l st → Lived m other → Lived (Joined l m) (site_joined st other.book)

-- ---- the lives that a life has in it: its own up to each of its moments, and those joined into it, with the lives in them
pub data Within : Life → Life → Type 0 where
  itself : (l : Life) → Within l l
  before : (call : Call) (l part : Life) → Within part l → Within part (Then call l)
  kept : (l m part : Life) → Within part l → Within part (Joined l m)
  joined : (l m part : Life) → Within part m → Within part (Joined l m)

-- an entry shown in a life, or in any life joined into it
pub record ShownTo (l : Life) (slot : ℕ) (t : Three) : Type 0 where
  pub life : Life
  pub within : Within life l
  pub shown : ShownIn (own_calls life) slot t

pub record GreatestTo (l : Life) (slot : ℕ) (t : Three) : Type 0 where
  pub shown : ShownTo l slot t
  pub none_above : (u : Three) → ShownTo l slot u → is_below t u ≡ false

-- the book's rule: "a slot holds the greatest entry .. that any channel has shown", counting what either site has shown; "empty exactly when none was shown"
pub record LifeRule (l : Life) (st : Station) (slot : ℕ) : Type 0 where
  pub greatest : ((in_slot st.book slot).day ≡ 0 → ⊥) → GreatestTo l slot (meaning (in_slot st.book slot))
  pub empty : ((in_slot st.book slot).day ≡ 0) ↔ ((t : Three) → ShownTo l slot t → ⊥)

pub record AfterLife (l : Life) (st : Station) : Type 0 where
  pub book : (slot : ℕ) → 1 ≤ slot → slot ≤ slots → LifeRule l st slot
  -- the summary is the walk at all times
  pub summary : st.summary ≡ walk_of st.book.entries
  -- what its own channels hold, their records and tallies, is told by its own calls
  pub rows : st.rows ≡ (station_of (own_calls l)).rows
  -- the book is one that the types allow, so all laws of joining hold of it
  pub is_book : IsBook st.book
  -- and sent to another site, or kept over a restart, it comes back as it was
  pub sent : book_from (book_bytes st.book) ≡ st.book
  -- and no other station is left
  pub only : (other : Station) → Lived l other → other ≡ st

abbrev pub EveryLife : Type 0
EveryLife = (l : Life) (st : Station) → Lived l st → AfterLife l st

-- ---- lives that leave the same station
abbrev pub SameStation : Life → Life → Type 0
SameStation l m = (st st' : Station) → Lived l st → Lived m st' → st ≡ st'

-- a life of calls alone
abbrev pub life_of : List Call → Life
life_of [] = Fresh
life_of (call ∷ cs) = Then call (life_of cs)

pub record LifeLaws : Type 0 where
  -- a join and a call may be exchanged, and two joins
  pub call_and_join : (call : Call) (l m : Life) → SameStation (Then call (Joined l m)) (Joined (Then call l) m)
  pub two_joins : (l m n : Life) → SameStation (Joined (Joined l m) n) (Joined (Joined l n) m)
  -- joining what is in it already changes nothing: the same book the next night, with calls and joins between; an older book of a site after a newer one
  pub nothing_new : (l part : Life) → Within part l → SameStation (Joined l part) l
  -- the rule of demand 3 is the case with no join
  pub no_join : (cs : List Call) (st : Station) → (Lived (life_of cs) st ↔ Runs cs st)
  pub same_shown : (cs : List Call) (slot : ℕ) (t : Three) → ShownTo (life_of cs) slot t ↔ ShownIn cs slot t
  pub same_rule : (cs : List Call) (st : Station) (slot : ℕ) → LifeRule (life_of cs) st slot → BookRule cs st slot
