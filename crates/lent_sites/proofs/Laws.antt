-- The laws of the calls on a lent station (laws). Assumes nothing.
use Prim.Native.Nat.{ℕ}
use native.Mathlib.Omega.{arith}
use mathlib.Core.Bool.{Bool, true, false}
use mathlib.Core.List.{List}
use mathlib.Core.Path.{◌≡◌, refl, sym, ap, subst, ◌∙◌}
use lib.Dec.{eqb}
use lib.ListN.{length}
use borrow.Author.Tests.{eqb-true}
use Rattle.strings.specs.Pick.{pick}
use Rattle.book.specs.declared.Book.{Book}
use Rattle.book.specs.Book.{slots, IsBook}
use Rattle.wire.specs.Bytes.{book_bytes, book_from}
use Rattle.wire.specs.Laws.{Sent}
use Rattle.wire.proofs.Laws.{laws as wire-laws}
use Rattle.station.specs.declared.Station.{Station}
use Rattle.station.specs.History.{Offer, Reset}
use Rattle.sites.specs.Joining.{site_joined}
use Rattle.sites.specs.Lives.{Life, Fresh, Then, Joined, Lived, fresh, offering, resetting, joining}
use Rattle.sites.proofs.Lives.{every_life}
use Rattle.lent.specs.Lent.{OffersLent, ResetsLent}
use Rattle.lent.proofs.Laws.{laws as lent-laws}
use Rattle.lent_sites.specs.Lent.{book_length, JoinsLent, SendsLent}
use Rattle.lent_sites.specs.Laws.{Laws}

-- ---- the test of a length, either way
same_test : (n : ℕ) → n ≡ book_length → eqb n book_length ≡ true
same_test n e = ap (λ (k : ℕ). eqb k book_length) e

other_test : (n : ℕ) → (n ≡ book_length → ⊥) → eqb n book_length ≡ false
other_test n differs = by (eqb n book_length) refl
  where
    by : (t : Bool) → eqb n book_length ≡ t → t ≡ false
    by true e = absurd (differs (eqb-true n book_length e))
    by false e = refl

-- a call that is told 0 was taken
taken : (t : Bool) → ◌≡◌ {A = ℕ} 0 (pick t 0 12) → t ≡ true
taken true e = refl
taken false e = absurd (omega (arith, e))

taken_long : (n : ℕ) → ◌≡◌ {A = ℕ} 0 (pick (eqb n book_length) 0 12) → n ≡ book_length
taken_long n e = eqb-true n book_length (taken (eqb n book_length) e)

-- ---- the calls of `lent`
offers_on : (l : Life) (st : Station) (card c epoch : ℕ) (s : List ℕ) (st' : Station) (r : ℕ) → Lived l st → OffersLent st card c epoch s st' r → Lived (Then (Offer card c epoch s) l) st'
offers_on l st card c epoch s st' r lived g =
    let a = (lent-laws.as_offered st card c epoch s st' r).0 g in
    subst (Lived (Then (Offer card c epoch s) l)) (sym a.station) (offering card c epoch s l st a.step lived a.offers)

resets_on : (l : Life) (st : Station) (card c : ℕ) (st' : Station) (r : ℕ) → Lived l st → ResetsLent st card c st' r → Lived (Then (Reset card c) l) st'
resets_on l st card c st' r lived g =
    let a = (lent-laws.as_reset st card c st' r).0 g in
    subst (Lived (Then (Reset card c) l)) (sym a.station) (resetting card c l st a.step lived a.resets)

-- ---- joins
module _ (st : Station) (s : List ℕ) (st' : Station) (r : ℕ) (g : JoinsLent st s st' r) where
  joined_at : length s ≡ book_length → (r ≡ 0) × (st' ≡ site_joined st (book_from s))
  joined_at l = let e = same_test (length s) l in (g.answer ∙ ap (λ (t : Bool). pick t 0 2) e, g.station ∙ ap (λ (t : Bool). pick t (site_joined st (book_from s)) st) e)

  not_joined : (length s ≡ book_length → ⊥) → (r ≡ 2) × (st' ≡ st)
  not_joined l = let e = other_test (length s) l in (g.answer ∙ ap (λ (t : Bool). pick t 0 2) e, g.station ∙ ap (λ (t : Bool). pick t (site_joined st (book_from s)) st) e)

joined_book : (st : Station) (b : Book) (st' : Station) (r : ℕ) → IsBook b → JoinsLent st (book_bytes b) st' r → (r ≡ 0) × (st' ≡ site_joined st b)
joined_book st b st' r ib g =
    let p = joined_at st (book_bytes b) st' r g (wire-laws.long b ib.long).long in
    (p.0, p.1 ∙ ap (site_joined st) (wire-laws.back b ib))

-- ---- sending
module _ (st : Station) (out out' : List ℕ) (r : ℕ) (g : SendsLent st out out' r) where
  sent_at : length out ≡ book_length → (r ≡ 0) × (out' ≡ book_bytes st.book)
  sent_at l = let e = same_test (length out) l in (g.answer ∙ ap (λ (t : Bool). pick t 0 12) e, g.bytes ∙ ap (λ (t : Bool). pick t (book_bytes st.book) out) e)

  not_sent : (length out ≡ book_length → ⊥) → (r ≡ 12) × (out' ≡ out)
  not_sent l = let e = other_test (length out) l in (g.answer ∙ ap (λ (t : Bool). pick t 0 12) e, g.bytes ∙ ap (λ (t : Bool). pick t (book_bytes st.book) out) e)

sent_whole : (st : Station) (out out' : List ℕ) (r : ℕ) → length st.book.entries ≡ slots → length out ≡ book_length → SendsLent st out out' r
    → (r ≡ 0) × ((out' ≡ book_bytes st.book) × Sent out')
sent_whole st out out' r n l g =
    let p = sent_at st out out' r g l in
    (p.0, (p.1, subst Sent (sym p.1) (wire-laws.long st.book n)))

joins_on : (l m : Life) (st other : Station) (out s : List ℕ) (st' : Station) (r : ℕ) → Lived l st → Lived m other → SendsLent other out s 0 → JoinsLent st s st' r
    → (r ≡ 0) × Lived (Joined l m) st'
joins_on l m st other out s st' r lived lived' sends g =
    let e : s ≡ book_bytes other.book = (sent_at other out s 0 sends (taken_long (length out) sends.answer)).1 in
    let p = joined_book st other.book st' r (every_life m other lived').is_book (subst (λ (z : List ℕ). JoinsLent st z st' r) e g) in
    (p.0, subst (Lived (Joined l m)) (sym p.1) (joining l m st other lived lived'))

-- ALL OF THEM
pub laws : Laws
laws = record {
  fresh = λ st' g. subst (Lived Fresh) (sym g.station) fresh;
  offers = offers_on;
  resets = resets_on;
  joins = joins_on;
  any_book = joined_book;
  shape = λ st s st' r differs g. not_joined st s st' r g differs;
  room = λ st out out' r differs g. not_sent st out out' r g differs;
  sent = sent_whole;
}
