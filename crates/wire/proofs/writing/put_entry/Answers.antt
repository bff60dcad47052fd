-- `writing::put_entry` meets its contract: the bytes grow from left to right (`Begun`). Assumes nothing.
use mathlib.Core.Path.{◌≡◌, refl}
use mathlib.Core.List.{◌++◌}
use Prim.Native.Nat.{◌+◌, ◌*◌, ◌^◌}
use native.Mathlib.Omega.{arith}
use Rattle.strings.specs.Number.{bytes_of}
use Rattle.wire.specs.Bytes.{entry_bytes}
use Rattle.wire.proofs.Begun.{Begun, begun_none, begun_part, begun_number, begun_all}
use Rattle.wire.proofs.writing.put_entry.Goals as goal

pub returns : goal.returns
unfolding entry_bytes
returns c =
    -- where the three numbers were written
    let e = c.args.e in
    let t₂ = bytes_of 9 (e.etop * 2 ^ 64 + e.even) in
    let t₃ = bytes_of 9 (e.otop * 2 ^ 64 + e.odd) in
    let e₂ : c.put_nine.new.out ≡ t₂ = c.put_nine.ensures in
    let e₃ : c.put_nine-2.new.out ≡ t₃ = c.put_nine-2.ensures in
    let u₁ : Begun 20 2 _ (bytes_of 2 e.day) = begun_number 2 e.day (omega arith) c.put_number.ensures (begun_none c.args.out.now c.requires) in
    let u₂ : Begun 20 11 _ (bytes_of 2 e.day ++ t₂) = begun_part (omega arith) refl e₂ u₁ in
    let u₃ : Begun 20 20 _ ((bytes_of 2 e.day ++ t₂) ++ t₃) = begun_part (omega arith) refl e₃ u₂ in
    begun_all u₃
