-- Only each channel's own order counts: two histories with the same calls on every channel leave the same station (reorder), and each call gets the
-- answer that the calls before it on its channel determine (offer-said, reset-said). So neighbouring calls on different channels can be exchanged.
-- Assumes nothing.
use mathlib.Core.Path.{◌≡◌, refl, sym, ap, subst, ◌∙◌}
use mathlib.Core.Bool.{Bool, true, false}
use mathlib.Core.List.{List, [], ◌∷◌, ◌++◌}
use Prim.Native.Nat.{ℕ, suc, ◌-◌, ◌≤◌}
use native.Mathlib.Omega.{arith}
use lib.ListN.{get_or}
use lib.Seq.{ext_get_or}
use Rattle.strings.specs.Pick.{pick}
use Rattle.strings.specs.Calls.{written_paper}
use Rattle.book.specs.declared.Entry.{Entry}
use Rattle.book.specs.declared.Book.{Book}
use Rattle.book.specs.Entry.{Three, blank}
use Rattle.book.specs.Book.{slots, in_slot}
use Rattle.summary.specs.Walk.{walk_of}
use Rattle.channel.specs.declared.Row.{Row}
use Rattle.channel.specs.Frame.{Frame}
use Rattle.channel.specs.Row.{empty_row}
use Rattle.channel.specs.Offers.{answer_paper, offer_tests, offered_row}
use Rattle.channel.specs.History.{Call as OnChannel, Offer as OfferIt, Reset as ResetIt, held_after, said_to, Runs as ChannelRuns, fresh as fresh_row, offering as offering-it, resetting as resetting-it}
use Rattle.channel.proofs.HeldFrame.{held_is, offered_is}
use Rattle.station.specs.declared.Station.{Station}
use Rattle.station.specs.declared.Stepped.{Stepped}
use Rattle.station.specs.declared.Emptied.{Emptied}
use Rattle.station.specs.Station.{owner_of, no_row, row_at, held_at, is_served, shut_says, told_in, OffersTo, Resets}
use Rattle.station.specs.History.{Call, Offer, Reset, channel_of, itself, is_let_in, shut_said, is_on, calls_on, calls_by, said_on, said_after, Part, ShownIn, Runs}
use Rattle.station.specs.Demand3.{SameCalls}
use Rattle.station.proofs.Served.{open_says, shut_says_lem, served_below, below_served}
use Rattle.station.proofs.ChannelRuns.{in_step, on_both, on_another, calls_other, own_answer}
use Rattle.station.proofs.Holding.{held_once}
use Rattle.station.proofs.BookRule.{slot_holds, book_full}
use Rattle.station.proofs.AfterOffer.{same_station}
use Rattle.station.proofs.Walked.{runs_walked}

-- ---- a channel's calls leave one row
row_after : List OnChannel → Row
row_after [] = empty_row
row_after (OfferIt epoch s ∷ cs) = offered_row (row_after cs) epoch s
row_after (ResetIt ∷ cs) = empty_row

runs_is : (cs : List OnChannel) (row : Row) → ChannelRuns cs row → row ≡ row_after cs
unfolding row_after
runs_is cs row fresh_row = refl
runs_is cs row (offering-it epoch s ds before r run o) =
    offered_is before epoch s r o ∙ ap (λ (x : Row). offered_row x epoch s) (runs_is ds before run)
runs_is cs row (resetting-it ds before run) = refl

pub runs_once : (cs : List OnChannel) (row row' : Row) → ChannelRuns cs row → ChannelRuns cs row' → row ≡ row'
runs_once cs row row' a b = runs_is cs row a ∙ sym (runs_is cs row' b)

-- ---- two histories with the same calls on every channel
same_back : (cs ds : List Call) → SameCalls cs ds → SameCalls ds cs
same_back cs ds same card c e = sym (same card c e)

same_shown : (cs ds : List Call) → SameCalls cs ds → (k : ℕ) (u : Three) → ShownIn cs k u → ShownIn ds k u
same_shown cs ds same k u w =
    record {
      card = w.card;
      channel = w.channel;
      served = w.served;
      moment = w.moment;
      within = subst (Part w.moment) (same w.card w.channel w.served) w.within;
      pair = w.pair;
      named = w.named;
      shows = w.shows;
    }

-- ---- two stations, each after its own calls
module _ (cs ds : List Call) (st st' : Station) (run : Runs cs st) (run' : Runs ds st') where
  -- that were shown the same entries
  module _ (to : (k : ℕ) (u : Three) → ShownIn cs k u → ShownIn ds k u) (from : (k : ℕ) (u : Three) → ShownIn ds k u → ShownIn cs k u) where
    same-slot : (k : ℕ) → 1 ≤ k → k ≤ slots → in_slot st.book k ≡ in_slot st'.book k
    same-slot k l m =
        held_once (ShownIn cs k) (ShownIn ds k) (in_slot st.book k) (in_slot st'.book k) (to k) (from k) (slot_holds cs st run k l m) (slot_holds ds st' run' k l m)

    same_entries : st.book.entries ≡ st'.book.entries
    same_entries =
        let f = book_full cs st run in
        ext_get_or blank st.book.entries st'.book.entries (f ∙ sym (book_full ds st' run'))
        (λ i h.
        let e : suc i - 1 ≡ i = omega arith in
        ap (λ (j : ℕ). get_or st.book.entries j blank) (sym e) ∙ same-slot (suc i) (omega arith) (omega (arith, f)) ∙ ap (λ (j : ℕ). get_or st'.book.entries j blank) e)

    -- TWO STATIONS HOLD THE SAME BOOK, whatever channels the entries came by and in whatever order
    pub same_book : st.book ≡ st'.book
    same_book = ap (λ (l : List Entry). record { entries = l }) same_entries

  -- equal books, equal walks
  same_summary : st.book ≡ st'.book → st.summary ≡ st'.summary
  same_summary e = runs_walked cs st run ∙ ap (λ (b : Book). walk_of b.entries) e ∙ sym (runs_walked ds st' run')

  -- that had the same calls on every channel
  module _ (same : SameCalls cs ds) where
    same_row : (card c : ℕ) → is_served card c ≡ true → row_at st c ≡ row_at st' c
    same_row card c e =
        runs_once (calls_on c ds) (row_at st c) (row_at st' c) (subst (λ (l : List OnChannel). ChannelRuns l (row_at st c)) (same card c e) ((in_step cs st run).run c (served_below card c e)))
        ((in_step ds st' run').run c (served_below card c e))

    same_rows : st.rows ≡ st'.rows
    same_rows =
        let l = (in_step cs st run).long in
        ext_get_or no_row st.rows st'.rows (l ∙ sym (in_step ds st' run').long) (λ c h. same_row (owner_of c) c (below_served c (omega (arith, l))))

    -- ARE THE SAME STATION: only each channel's own order counts
    pub reorder : st ≡ st'
    reorder =
        let book = same_book (same_shown cs ds same) (same_shown ds cs (same_back cs ds same)) in
        same_station st st' same_rows book (same_summary book)

-- ---- each call's answer
-- it is told by the calls before it on its channel
pub said_same : (cs ds : List Call) (call : Call) → calls_on (channel_of call) cs ≡ calls_on (channel_of call) ds → said_after cs call ≡ said_after ds call
unfolding said_after
said_same cs ds call e = ap (λ (l : List OnChannel). pick (is_let_in call) (said_on (itself call) l) (shut_said call)) e

pub offer_said : (cs : List Call) (st : Station) → Runs cs st → (card c epoch : ℕ) (s : List ℕ) (r : Stepped) → OffersTo st card c epoch s r
    → answer_paper r.answer ≡ said_after cs (Offer card c epoch s)
unfolding said_after
offer_said cs st run card c epoch s r o = by (is_served card c) refl
  where
    by : (t : Bool) → is_served card c ≡ t → answer_paper r.answer ≡ pick t (said_to (held_after (calls_on c cs)) epoch s) (shut_says card c)
    by false e = o.answer ∙ shut_says_lem card c (offer_tests (held_at st c) epoch s) (told_in st c epoch s) e
    by true e =
        own_answer st card c epoch s r e o ∙ ap (λ (f : Frame). said_to f epoch s) (held_is (calls_on c cs) (row_at st c) ((in_step cs st run).run c (served_below card c e)))

pub reset_said : (cs : List Call) (st : Station) (card c : ℕ) (r : Emptied) → Resets st card c r → written_paper r.answer ≡ said_after cs (Reset card c)
unfolding said_after
reset_said cs st card c r o = by (is_served card c) refl
  where
    by : (t : Bool) → is_served card c ≡ t → written_paper r.answer ≡ pick t (0 ∷ []) (shut_says card c)
    by false e = o.answer
    by true e = o.answer ∙ open_says card c [] [] e

-- ---- two neighbouring calls on different channels
module _ (x y : Call) (differ : channel_of x ≡ channel_of y → ⊥) where
  -- exchanged, they leave each channel's calls as they were
  calls_exchanged : (cs : List Call) (c : ℕ) → calls_on c (x ∷ y ∷ cs) ≡ calls_on c (y ∷ x ∷ cs)
  unfolding calls_by
  calls_exchanged cs c = by (is_on c x) (is_on c y) refl refl
    where
      by : (t u : Bool) → is_on c x ≡ t → is_on c y ≡ u
          → pick t (itself x ∷ pick u (itself y ∷ calls_on c cs) (calls_on c cs)) (pick u (itself y ∷ calls_on c cs) (calls_on c cs))
          ≡ pick u (itself y ∷ pick t (itself x ∷ calls_on c cs) (calls_on c cs)) (pick t (itself x ∷ calls_on c cs) (calls_on c cs))
      by true true e f = absurd (differ ((on_both x c e).1 ∙ sym (on_both y c f).1))
      by true false e f = refl
      by false true e f = refl
      by false false e f = refl

  -- with any calls after them
  pub same_later : (later cs : List Call) (c : ℕ) → calls_on c (later ++ (x ∷ y ∷ cs)) ≡ calls_on c (later ++ (y ∷ x ∷ cs))
  unfolding calls_by
  same_later [] cs c = calls_exchanged cs c
  same_later (z ∷ later) cs c =
      ap (λ (l : List OnChannel). pick (is_on c z) (itself z ∷ l) l) (same_later later cs c)

  -- and neither is a call on the other's channel
  pub not_x : (cs : List Call) → calls_on (channel_of y) (x ∷ cs) ≡ calls_on (channel_of y) cs
  not_x cs = calls_other (channel_of y) x cs (on_another x (channel_of y) differ)

  pub not_y : (cs : List Call) → calls_on (channel_of x) (y ∷ cs) ≡ calls_on (channel_of x) cs
  not_y cs = calls_other (channel_of x) y cs (on_another y (channel_of x) (λ e. differ (sym e)))
