-- `resetting::spineyarrow_reset` meets its contract: the channel's row is written through the borrow, where the gate lets the call in.
-- Assumes nothing.
use mathlib.Core.Path.{◌≡◌, refl, sym, ap, ◌∙◌}
use mathlib.Core.Bool.{true}
use mathlib.Core.List.{[], ◌∷◌}
use Prim.Native.Nat.{ℕ, ◌<◌}
use native.Mathlib.Omega.{arith}
use Rattle.strings.specs.Numbers.{first_of}
use Rattle.channel.specs.declared.Row.{Row}
use Rattle.channel.specs.Row.{empty_row}
use Rattle.station.specs.declared.Station.{Station}
use Rattle.station.specs.Station.{gate_tests, is_served, station_reset}
use Rattle.station.proofs.ChannelRuns.{reset_none}
use Rattle.station.proofs.Served.{open_says}
use Rattle.told.specs.Told.{packed}
use Rattle.lent.specs.Lent.{ResetsLent}
use Rattle.lent.proofs.Gate.{shut_out, let_in_lem}
use Rattle.lent.proofs.Parts.{with_row}
use Rattle.lent.proofs.resetting.spineyarrow_reset.Goals as goal

-- ---- the contract, from what became of the row
refused_lent : (st : Station) (card c r : ℕ) → r ≡ first_of (gate_tests card c) → 0 < r → ResetsLent st card c st r
refused_lent st card c r er t =
    let p = shut_out card c r er t in
    let alone : r ≡ packed (r ∷ []) = omega arith in
    record { answer = alone ∙ ap packed (sym p.1); station = sym (reset_none st card c p.0) }

emptied_lent : (st : Station) (card c : ℕ) (r : Row) → is_served card c ≡ true → r ≡ empty_row → ResetsLent st card c (with_row st c r) 0
unfolding station_reset
emptied_lent st card c r n e = record { answer = ap packed (sym (open_says card c [] [] n)); station = rw (n, e) refl }

pub returns-then-shut-gt0 : goal.returns-then-shut-gt0
returns-then-shut-gt0 c = refused_lent c.args.st.now c.args.card c.args.channel c.gate_number-shut.result c.gate_number-shut.ensures c.if-shut-gt0.true

pub returns : goal.returns
returns c =
    emptied_lent c.args.st.now c.args.card c.args.channel c.empty_row.result
    (let_in_lem c.args.card c.args.channel c.gate_number-shut.result c.gate_number-shut.ensures c.if-shut-gt0.false)
    c.empty_row.ensures
