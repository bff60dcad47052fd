-- Each row of a station is what the calls on its own channel leave (in_step): the other channels' calls, and those on no channel, do not touch it. So
-- all that is proved of a channel holds of each row of a station.
-- Assumes nothing.
use mathlib.Core.Path.{◌≡◌, refl, sym, ap, ap₂, subst, ◌∙◌}
use mathlib.Core.Bool.{Bool, true, false, ◌&&◌, true≢false}
use mathlib.Core.List.{List, [], ◌∷◌}
use Prim.Native.Nat.{ℕ, ◌<◌}
use native.Mathlib.Omega.{arith}
use borrow.Author.Tests.{eq-eqb, ne_eqb, eqb-true}
use lib.Dec.{eqb}
use lib.ListN.{length, get_or, set, length-set, length-replicate, get_or-replicate}
use lib.Seq.{get_or-set_same, get_or-set_other}
use Rattle.strings.proofs.Below.{both}
use Rattle.book.specs.declared.Book.{Book}
use Rattle.summary.specs.declared.Summary.{Summary}
use Rattle.channel.specs.declared.Row.{Row}
use Rattle.channel.specs.Row.{empty_row}
use Rattle.channel.specs.Offers.{answer_paper, offer_tests, offered_row, Offers}
use Rattle.channel.specs.History.{Call as OnChannel, said_to, Runs as ChannelRuns, fresh as fresh_row, offering as offering-it, resetting as resetting-it}
use Rattle.station.specs.declared.Station.{Station}
use Rattle.station.specs.declared.Stepped.{Stepped}
use Rattle.station.specs.declared.Emptied.{Emptied}
use Rattle.station.specs.Station.{channels, fresh_station, no_row, row_at, held_at, is_served, told_in, book_after, summary_after, station_after, station_reset, OffersTo, Resets}
use Rattle.station.specs.History.{Call, Offer, Reset, channel_of, itself, is_let_in, is_on, calls_on, calls_by, Runs, fresh, offering, resetting}
use Rattle.station.proofs.Served.{open_says, served_below}

-- ---- one row
module _ (rows : List Row) (long : length rows ≡ channels) (c k : ℕ) (row : Row) (served : c < channels) where
  -- the row that is put back, and the others
  put_same : get_or (set rows c row) c no_row ≡ row
  put_same = get_or-set_same rows c row no_row (omega arith)

  put_other : (k ≡ c → ⊥) → get_or (set rows c row) k no_row ≡ get_or rows k no_row
  put_other n = get_or-set_other rows c k row no_row n

-- ---- the station after a call: as it was, or with the channel's row put back
module _ (st : Station) (card c : ℕ) where
  pub after_none : (epoch : ℕ) (s : List ℕ) → is_served card c ≡ false → station_after st card c epoch s ≡ st
  unfolding station_after
  after_none epoch s e = rw e

  pub after_some : (epoch : ℕ) (s : List ℕ) → is_served card c ≡ true
      → station_after st card c epoch s ≡ record {
        rows = set st.rows c (offered_row (row_at st c) epoch s);
        book = book_after st.book (row_at st c) epoch s;
        summary = summary_after st.summary st.book (row_at st c) epoch s;
      }
  unfolding station_after
  after_some epoch s e = rw e

  pub reset_none : is_served card c ≡ false → station_reset st card c ≡ st
  unfolding station_reset
  reset_none e = rw e

  pub reset_some : is_served card c ≡ true → station_reset st card c ≡ record { rows = set st.rows c empty_row; book = st.book; summary = st.summary }
  unfolding station_reset
  reset_some e = rw e

-- the row that is theirs
module _ (st : Station) (card c : ℕ) (long : length st.rows ≡ channels) (e : is_served card c ≡ true) where
  pub after_own : (epoch : ℕ) (s : List ℕ) → row_at (station_after st card c epoch s) c ≡ offered_row (row_at st c) epoch s
  after_own epoch s =
      ap (λ (x : Station). row_at x c) (after_some st card c epoch s e)
      ∙ get_or-set_same st.rows c (offered_row (row_at st c) epoch s) no_row (omega (arith, served_below card c e, long))

  pub reset_own : row_at (station_reset st card c) c ≡ empty_row
  reset_own = ap (λ (x : Station). row_at x c) (reset_some st card c e) ∙ get_or-set_same st.rows c empty_row no_row (omega (arith, served_below card c e, long))

-- and one that is not: of another channel, or of the same where the call is not let in
module _ (st : Station) (card c k : ℕ) (apart : is_served card c ≡ true → k ≡ c → ⊥) where
  pub after_apart : (epoch : ℕ) (s : List ℕ) → row_at (station_after st card c epoch s) k ≡ row_at st k
  after_apart epoch s = by (is_served card c) refl
    where
      by : (t : Bool) → is_served card c ≡ t → row_at (station_after st card c epoch s) k ≡ row_at st k
      by false e = ap (λ (x : Station). row_at x k) (after_none st card c epoch s e)
      by true e =
          ap (λ (x : Station). row_at x k) (after_some st card c epoch s e) ∙ get_or-set_other st.rows c k (offered_row (row_at st c) epoch s) no_row (apart e)

  pub reset_apart : row_at (station_reset st card c) k ≡ row_at st k
  reset_apart = by (is_served card c) refl
    where
      by : (t : Bool) → is_served card c ≡ t → row_at (station_reset st card c) k ≡ row_at st k
      by false e = ap (λ (x : Station). row_at x k) (reset_none st card c e)
      by true e = ap (λ (x : Station). row_at x k) (reset_some st card c e) ∙ get_or-set_other st.rows c k empty_row no_row (apart e)

-- ---- a call on a channel is let in and has its label
module _ (call : Call) (c : ℕ) where
  pub on_both : is_on c call ≡ true → (is_let_in call ≡ true) × (channel_of call ≡ c)
  on_both e = let p = both (is_let_in call) (eqb (channel_of call) c) e in (p.0, eqb-true (channel_of call) c p.1)

  pub not_let_in : is_let_in call ≡ false → is_on c call ≡ false
  not_let_in e = ap (λ (t : Bool). t && eqb (channel_of call) c) e

  pub on_another : (channel_of call ≡ c → ⊥) → is_on c call ≡ false
  on_another n = by (is_let_in call) (eqb (channel_of call) c) (ne_eqb (channel_of call) c n)
    where
      by : (t u : Bool) → u ≡ false → (t && u) ≡ false
      by true u q = q
      by false u q = refl

pub on_own : (call : Call) → is_let_in call ≡ true → is_on (channel_of call) call ≡ true
on_own call e = ap₂ (λ (t u : Bool). t && u) e (eq-eqb (channel_of call) (channel_of call) refl)

-- the calls on a channel, one call more
pub calls_same : (c : ℕ) (call : Call) (cs : List Call) → is_on c call ≡ true → calls_on c (call ∷ cs) ≡ itself call ∷ calls_on c cs
unfolding calls_by
calls_same c call cs e = rw e

pub calls_other : (c : ℕ) (call : Call) (cs : List Call) → is_on c call ≡ false → calls_on c (call ∷ cs) ≡ calls_on c cs
unfolding calls_by
calls_other c call cs e = rw e

-- ---- the rows, each a channel's run
pub record InStep (cs : List Call) (st : Station) : Type 0 where
  pub long : length st.rows ≡ channels
  pub run : (c : ℕ) → c < channels → ChannelRuns (calls_on c cs) (row_at st c)

-- a call that is not let in leaves all as it was
on_none : (call : Call) (cs : List Call) (st : Station) → is_let_in call ≡ false → InStep cs st → InStep (call ∷ cs) st
on_none call cs st e i =
    record {
      long = i.long;
      run = λ c h. subst (λ (l : List OnChannel). ChannelRuns l (row_at st c)) (sym (calls_other c call cs (not_let_in call c e))) (i.run c h);
    }

-- a call on a channel that leaves its row as the channel's own call does
on_one : (call : Call) (cs : List Call) (st : Station) (row : Row) (book : Book) (summary : Summary) → is_let_in call ≡ true → channel_of call < channels
    → InStep cs st → ChannelRuns (itself call ∷ calls_on (channel_of call) cs) row
    → InStep (call ∷ cs) (record { rows = set st.rows (channel_of call) row; book = book; summary = summary })
on_one call cs st row book summary e there i here =
    record {
      long = length-set st.rows (channel_of call) row ∙ i.long;
      run = λ c h. by c h (is_on c call) refl;
    }
  where
    apart : (c : ℕ) → is_on c call ≡ false → c ≡ channel_of call → ⊥
    apart c q w = true≢false (sym (on_own call e) ∙ ap (λ (k : ℕ). is_on k call) (sym w) ∙ q)

    by : (c : ℕ) → c < channels → (t : Bool) → is_on c call ≡ t → ChannelRuns (calls_on c (call ∷ cs)) (get_or (set st.rows (channel_of call) row) c no_row)
    by c h true q =
        subst (λ (l : List OnChannel). ChannelRuns l (get_or (set st.rows (channel_of call) row) c no_row)) (sym (calls_same c call cs q))
        (subst (λ (k : ℕ). ChannelRuns (itself call ∷ calls_on k cs) (get_or (set st.rows (channel_of call) row) k no_row)) (on_both call c q).1
        (subst (ChannelRuns (itself call ∷ calls_on (channel_of call) cs)) (sym (put_same st.rows i.long (channel_of call) c row there)) here))
    by c h false q =
        subst (λ (l : List OnChannel). ChannelRuns l (get_or (set st.rows (channel_of call) row) c no_row)) (sym (calls_other c call cs q))
        (subst (ChannelRuns (calls_on c cs)) (sym (put_other st.rows i.long (channel_of call) c row there (apart c q))) (i.run c h))

-- an offer's answer is its own row's
pub own_answer : (st : Station) (card c epoch : ℕ) (s : List ℕ) (r : Stepped) → is_served card c ≡ true → OffersTo st card c epoch s r
    → answer_paper r.answer ≡ said_to (held_at st c) epoch s
own_answer st card c epoch s r e o = o.answer ∙ open_says card c (offer_tests (held_at st c) epoch s) (told_in st c epoch s) e

-- what a station's offer says of its row's
pub row_offers : (st : Station) (card c epoch : ℕ) (s : List ℕ) (r : Stepped) → is_served card c ≡ true → OffersTo st card c epoch s r
    → Offers (row_at st c) epoch s (record { row = offered_row (row_at st c) epoch s; answer = r.answer })
unfolding Offers
row_offers st card c epoch s r e o = record { answer = own_answer st card c epoch s r e o; left = refl }

-- a fresh station
fresh_long : length fresh_station.rows ≡ channels
unfolding fresh_station
fresh_long = length-replicate channels empty_row

fresh_at : (c : ℕ) → c < channels → row_at fresh_station c ≡ empty_row
unfolding fresh_station
fresh_at c h = get_or-replicate channels c empty_row no_row h

step_fresh : InStep [] fresh_station
unfolding calls_by
step_fresh = record { long = fresh_long; run = λ c e. subst (ChannelRuns []) (sym (fresh_at c e)) fresh_row }

-- an offer and a reset
step_offer : (card c epoch : ℕ) (s : List ℕ) (cs : List Call) (st : Station) (r : Stepped) → InStep cs st → OffersTo st card c epoch s r
    → InStep (Offer card c epoch s ∷ cs) r.station
step_offer card c epoch s cs st r i o = by (is_served card c) refl
  where
    by : (t : Bool) → is_served card c ≡ t → InStep (Offer card c epoch s ∷ cs) r.station
    by false e = subst (InStep (Offer card c epoch s ∷ cs)) (sym (o.station ∙ after_none st card c epoch s e)) (on_none (Offer card c epoch s) cs st e i)
    by true e =
        subst (InStep (Offer card c epoch s ∷ cs)) (sym (o.station ∙ after_some st card c epoch s e))
        (on_one (Offer card c epoch s) cs st (offered_row (row_at st c) epoch s) (book_after st.book (row_at st c) epoch s)
        (summary_after st.summary st.book (row_at st c) epoch s) e (served_below card c e) i
        (offering-it epoch s (calls_on c cs) (row_at st c) (record { row = offered_row (row_at st c) epoch s; answer = r.answer }) (i.run c (served_below card c e)) (row_offers st card c epoch s r e o)))

step_reset : (card c : ℕ) (cs : List Call) (st : Station) (r : Emptied) → InStep cs st → Resets st card c r → InStep (Reset card c ∷ cs) r.station
step_reset card c cs st r i o = by (is_served card c) refl
  where
    by : (t : Bool) → is_served card c ≡ t → InStep (Reset card c ∷ cs) r.station
    by false e = subst (InStep (Reset card c ∷ cs)) (sym (o.station ∙ reset_none st card c e)) (on_none (Reset card c) cs st e i)
    by true e =
        subst (InStep (Reset card c ∷ cs)) (sym (o.station ∙ reset_some st card c e))
        (on_one (Reset card c) cs st empty_row st.book st.summary e (served_below card c e) i (resetting-it (calls_on c cs) (row_at st c) (i.run c (served_below card c e))))

-- EACH ROW IS A CHANNEL'S RUN
pub in_step : (cs : List Call) (st : Station) → Runs cs st → InStep cs st
in_step cs st fresh = step_fresh
in_step cs st (offering card c epoch s ds before r run o) = step_offer card c epoch s ds before r (in_step ds before run) o
in_step cs st (resetting card c ds before r run o) = step_reset card c ds before r (in_step ds before run) o
