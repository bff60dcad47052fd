-- What holds of every call on a lent station. Begun by `spineyarrow_fresh`, its calls are a life (`sites`), so what is proved of lives is proved of it; and what
-- one lent station sends another joins. Proved as `laws` in `proofs/Laws.antt`.
-- Assumes nothing.
use Rattle.std.specs.Prelude.{ℕ, List, ◌≡◌, length}
use Rattle.book.specs.declared.Book.{Book}
use Rattle.book.specs.Book.{slots, IsBook}
use Rattle.wire.specs.Bytes.{book_bytes}
use Rattle.wire.specs.Laws.{Sent}
use Rattle.station.specs.declared.Station.{Station}
use Rattle.station.specs.History.{Offer, Reset}
use Rattle.sites.specs.Joining.{site_joined}
use Rattle.sites.specs.Lives.{Life, Fresh, Then, Joined, Lived}
use Rattle.lent.specs.Lent.{OffersLent, ResetsLent}
use Rattle.lent_sites.specs.Lent.{book_length, FreshLent, JoinsLent, SendsLent}

pub record Laws : Type 0 where
  -- a life begins with `spineyarrow_fresh`, and each call of `lent` is a call more
  pub fresh : (st' : Station) → FreshLent st' → Lived Fresh st'
  pub offers : (l : Life) (st : Station) (card c epoch : ℕ) (s : List ℕ) (st' : Station) (r : ℕ) → Lived l st → OffersLent st card c epoch s st' r
      → Lived (Then (Offer card c epoch s) l) st'
  pub resets : (l : Life) (st : Station) (card c : ℕ) (st' : Station) (r : ℕ) → Lived l st → ResetsLent st card c st' r → Lived (Then (Reset card c) l) st'
  -- the bytes that one lent station sends are taken by another, and it has then lived with the first one's life joined in
  pub joins : (l m : Life) (st other : Station) (out s : List ℕ) (st' : Station) (r : ℕ) → Lived l st → Lived m other → SendsLent other out s 0 → JoinsLent st s st' r
      → (r ≡ 0) × Lived (Joined l m) st'
  -- of any book and its bytes
  pub any_book : (st : Station) (b : Book) (st' : Station) (r : ℕ) → IsBook b → JoinsLent st (book_bytes b) st' r → (r ≡ 0) × (st' ≡ site_joined st b)
  -- a call is taken exactly where the bytes are a book's in number; one that is not changes nothing
  pub shape : (st : Station) (s : List ℕ) (st' : Station) (r : ℕ) → (length s ≡ book_length → ⊥) → JoinsLent st s st' r → (r ≡ 2) × (st' ≡ st)
  pub room : (st : Station) (out out' : List ℕ) (r : ℕ) → (length out ≡ book_length → ⊥) → SendsLent st out out' r → (r ≡ 12) × (out' ≡ out)
  pub sent : (st : Station) (out out' : List ℕ) (r : ℕ) → length st.book.entries ≡ slots → length out ≡ book_length → SendsLent st out out' r → (r ≡ 0) × ((out' ≡ book_bytes st.book) × Sent out')
