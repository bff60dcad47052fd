-- NOTHING IS LOST (nothing-lost, none-unwritten): a record that is not refused after some of a capture's records stays as it is until its channel is asked,
-- before that channel's next record or at the end. Two neighbours of one satellite differ (neighbours_differ), and each record of the file was told at a
-- moment of the capture (each-from-moment).
-- Assumes nothing.
use Prim.Native.Nat.{ℕ, zero, suc, ◌+◌, ◌≤◌, ◌<◌}
use mathlib.Core.Bool.{Bool, true, false}
use mathlib.Core.List.Memᴰ
use mathlib.Core.List.{List, Memᴰ}
use mathlib.Core.Logic.{⊎_elim}
use mathlib.Core.Path.{◌≡◌, refl, sym, ap, ◌∙◌}
use native.Mathlib.Omega.{arith}
use borrow.Author.Tests.{eqb-true, eqb-false}
use lib.Dec.{eqb}
use Rattle.fields.specs.Sixteen.{channel_in, epoch_in, symbols_in}
use Rattle.station.specs.declared.Station.{Station}
use Rattle.station.specs.Station.{channels, fresh_station}
use Rattle.navigation.specs.Writes.{n_at, quarter_at}
use Rattle.navfile.specs.File.{record_at, records_in, station_at, station_in, Ask, ask_of, asks_in, last_asks, satellite_of, epoch_of, is_answered, none_written, asks_of, records_of}
use Rattle.navfile.specs.Laws.{InFile, NothingLost, NoneUnwritten, NeighboursDiffer, EachFromMoment}
use Rattle.navfile.proofs.Answered.{answered_parts, said_written, written_said}
use Rattle.navfile.proofs.Stays.{answered_stays, satellite_stays, epoch_stays}
use Rattle.navfile.proofs.Due.{due_in}
use Rattle.navfile.proofs.Found.{all_found, neighbours}
use Rattle.navfile.proofs.Moments.{asks_have, asks_from, last_have, last_from}

module _ (card : ℕ) (input : List ℕ) where
  abbrev at : ℕ → Station
  at k = station_at card fresh_station input k

  -- ---- asked later, and told the same
  record Later (n quarter : ℕ) : Type 0 where
    ask : Ask
    asked : Memᴰ ask (asks_of card input)
    answered : is_answered card ask ≡ true
    satellite : satellite_of ask ≡ n
    epoch : epoch_of ask ≡ quarter

  -- at the end
  at_end : (k c : ℕ) → k ≡ records_in input → is_answered card (ask_of (at k) c) ≡ true → Later (n_at (at k) c) (quarter_at (at k) c)
  unfolding asks_of
  at_end k c e a =
      record {
        ask = ask_of (at k) c;
        asked =
            Memᴰ.append_right (asks_in card fresh_station input)
            (Memᴰ.cast (ap (λ (j : ℕ). ask_of (at j) c) e) (last_have (station_in card fresh_station input) channels c (answered_parts card (at k) c a).channel));
        answered = a;
        satellite = refl;
        epoch = refl;
      }

  -- before the channel's next record
  at_record : (k c : ℕ) → k < records_in input → channel_in (record_at input k) ≡ c → is_answered card (ask_of (at k) c) ≡ true → Later (n_at (at k) c) (quarter_at (at k) c)
  unfolding asks_of
  at_record k c h e a =
      record {
        ask = ask_of (at k) c;
        asked =
            Memᴰ.append_left (last_asks (station_in card fresh_station input))
            (Memᴰ.cast (ap (ask_of (at k)) (sym e)) (asks_have card fresh_station input (records_in input) k h));
        answered = a;
        satellite = refl;
        epoch = refl;
      }

  later_as : {n m p q : ℕ} → n ≡ m → p ≡ q → Later n p → Later m q
  later_as d e l = record { ask = l.ask; asked = l.asked; answered = l.answered; satellite = l.satellite ∙ d; epoch = l.epoch ∙ e }

  -- it stays until then
  asked_later : (left k c : ℕ) → k + left ≡ records_in input → is_answered card (ask_of (at k) c) ≡ true → Later (n_at (at k) c) (quarter_at (at k) c)
  unfolding station_at
  asked_later zero k c e a = at_end k c (omega arith) a
  asked_later (suc left) k c e a = by (eqb (channel_in (record_at input k)) c) refl (λ b. asked_later left (suc k) c (omega arith) b)
    where
      by : (t : Bool) → eqb (channel_in (record_at input k)) c ≡ t
          → (is_answered card (ask_of (at (suc k)) c) ≡ true → Later (n_at (at (suc k)) c) (quarter_at (at (suc k)) c))
          → Later (n_at (at k) c) (quarter_at (at k) c)
      by true q ih = at_record k c (omega arith) (eqb-true (channel_in (record_at input k)) c q) a
      by false q ih =
          let n : c ≡ channel_in (record_at input k) → ⊥ = λ x. eqb-false (channel_in (record_at input k)) c q (sym x) in
          let r = record_at input k in
          later_as (satellite_stays (at k) card (channel_in r) (epoch_in r) (symbols_in r) c n) (epoch_stays (at k) card (channel_in r) (epoch_in r) (symbols_in r) c n)
          (ih (answered_stays (at k) card (channel_in r) (epoch_in r) (symbols_in r) c n a))

  -- and is written, or one like it is
  in_file : {n quarter : ℕ} → Later n quarter → InFile card input n quarter
  unfolding records_of
  in_file l =
      let f = all_found card l.ask l.answered (asks_of card input) l.asked in
      record { ask = f.ask; is_written = f.among; satellite = f.satellite ∙ l.satellite; epoch = f.epoch ∙ l.epoch }

pub nothing_lost : NothingLost
nothing_lost card input k c h a = in_file card input (asked_later card input (left (records_in input) k h).0 k c (left (records_in input) k h).1 a)
  where
    left : (m j : ℕ) → j ≤ m → (d : ℕ) × (j + d ≡ m)
    left m zero l = (m, omega arith)
    left zero (suc j) l = absurd (omega arith)
    left (suc m) (suc j) l = let r = left m j (omega arith) in (r.0, omega (arith, r.1))

pub none_unwritten : NoneUnwritten
none_unwritten card input k c n quarter out out' h l w =
    let s = written_said card (station_at card fresh_station input k) c n quarter out out' l w in
    let f = nothing_lost card input k c h s.answered in
    record { ask = f.ask; is_written = f.is_written; satellite = f.satellite ∙ sym s.satellite; epoch = f.epoch ∙ sym s.epoch }

pub neighbours_differ : NeighboursDiffer
unfolding records_of
neighbours_differ card input n i = neighbours card n (asks_of card input) i

-- ---- each record of the file
asked_at : (card : ℕ) (input : List ℕ) (a : Ask) → Memᴰ a (asks_of card input) → (k : ℕ) × ((k ≤ records_in input) × (a.station ≡ station_at card fresh_station input k))
unfolding asks_of
asked_at card input a m =
    ⊎_elim
    (λ (n : Memᴰ a (asks_in card fresh_station input)).
    let b = asks_from card fresh_station input (records_in input) a n in
    (b.j, (omega (arith, b.within), ap (λ (x : Ask). x.station) b.is)))
    (λ (n : Memᴰ a (last_asks (station_in card fresh_station input))). (records_in input, (omega arith, last_from (station_in card fresh_station input) _ a n)))
    (Memᴰ.append_cases (asks_in card fresh_station input) m)

pub each_from_moment : EachFromMoment
unfolding records_of
each_from_moment card input a m =
    let d = due_in card none_written (asks_of card input) a m in
    let p = asked_at card input a d.0 in
    record { k = p.0; within = p.1.0; moment = p.1.1; call = λ out l. said_written card a.station a.channel out l d.1 }
