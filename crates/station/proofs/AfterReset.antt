-- A reset of a station's channel, from where the call enters and what became of the row: the facts that a call has to show, whether it hands the station on or
-- changes it in its place.
-- Assumes nothing.
use Prim.Native.Nat.{ℕ}
use mathlib.Core.List.{[]}
use mathlib.Core.Path.{◌≡◌, sym}
use lib.ListN.{set}
use Rattle.strings.specs.declared.Refusal.{Refusal}
use Rattle.std.specs.Prelude.{Ok, Err}
use Rattle.channel.specs.declared.Row.{Row}
use Rattle.channel.specs.Row.{empty_row}
use Rattle.station.specs.declared.Station.{Station}
use Rattle.station.specs.declared.Emptied.{Emptied}
use Rattle.station.specs.Station.{Enters, station_reset, Resets}
use Rattle.station.proofs.Served.{open_says, entered}

-- a call that is not let in
pub reset_shut : (st : Station) (card c : ℕ) (why : Refusal) → Enters card c (Err why) → Resets st card c (record { station = st; answer = Err why })
unfolding station_reset
reset_shut st card c why n = record { answer = n.1; station = rw n.0 }

-- the channel's row an empty one, and all else as it was
abbrev pub emptied_at : Station → ℕ → Row → Emptied
emptied_at st i row = record { station = record { rows = set st.rows i row; book = st.book; summary = st.summary }; answer = Ok tt }

pub reset_open : (st : Station) (card c i : ℕ) (row : Row) → Enters card c (Ok i) → row ≡ empty_row → Resets st card c (emptied_at st i row)
unfolding station_reset
reset_open st card c i row n e =
    entered (λ (k : ℕ). Resets st card k (emptied_at st i row)) card n (λ f. record { answer = sym (open_says card i [] [] f); station = rw (f, e) })
