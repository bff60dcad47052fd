-- There are skies: the one of `specs/Witness.antt` is made, and a station holds it.
-- Assumes nothing.
use mathlib.Core.Path.{◌≡◌, refl}
use mathlib.Core.Bool.{false}
use mathlib.Core.List.{List}
use Prim.Native.Nat.{ℕ}
use borrow.Author.Tests.{eq-eqb}
use lib.ListN.{length, replicate, length-replicate}
use Rattle.records.specs.Records.{list_of}
use Rattle.std.specs.Prelude.{Ok}
use Rattle.layout.specs.Layout.{layout}
use Rattle.words.specs.Values.{first_bad}
use Rattle.superframe.specs.Sky.{record_in}
use Rattle.superframe.specs.Refused.{wrong_slot, string_bad, lowest_bad}
use Rattle.sky.specs.Line.{sky_lines}
use Rattle.sky.specs.Calls.{MakesSky}
use Rattle.station.specs.History.{station_of}
use Rattle.station.proofs.EveryHistory.{every_history}
use Rattle.heard.specs.SkyHeard.{line_calls}
use Rattle.heard.specs.Witness.{some_sky, SomeHeard}
use Rattle.heard.proofs.SkyHeard.{sky_heard}

in_order_lem : wrong_slot some_sky 24 ≡ false
unfolding some_sky wrong_slot
in_order_lem = refl

none_bad : lowest_bad some_sky 75 ≡ 0
unfolding some_sky record_in string_bad lowest_bad first_bad layout list_of
none_bad = refl

is_made : (out : List ℕ) → length out ≡ 15000 → MakesSky some_sky out (Ok tt) (sky_lines some_sky)
unfolding MakesSky
is_made out e =
    let l = eq-eqb (length out) 15000 e in
    record { answer = rw (l, in_order_lem, none_bad); output = rw (l, in_order_lem, none_bad) }

-- THE PREMISE CAN BE MET
pub some_heard : SomeHeard
some_heard =
    record {
      made = is_made;
      holds = λ card c e served.
          (sky_heard some_sky (replicate 15000 0) (sky_lines some_sky) (is_made (replicate 15000 0) (length-replicate {A = ℕ} 15000 0)) card c e served).leaves
          (station_of (line_calls (sky_lines some_sky) card c e 75)) (every_history (line_calls (sky_lines some_sky) card c e 75));
    }
