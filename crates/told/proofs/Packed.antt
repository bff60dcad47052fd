-- The numbers of an answer, packed from the parts that `telling` makes. Assumes nothing.
use Prim.Native.Nat.{ℕ, ◌*◌}
use native.Mathlib.Omega.{arith}
use mathlib.Core.List.{[], ◌∷◌}
use mathlib.Core.Path.{◌≡◌, refl}
use lib.ListN.{get_or}
use Rattle.strings.specs.declared.Refusal.{Refusal}
use Rattle.std.specs.Prelude.{Ok}
use Rattle.strings.specs.declared.Refusal.TheVariants.{Channel, Shape, Damaged, Idle, Number, Early, Stale, OffBeat, Conflict, Range, Place, Room, Nothing, Slot, Owner, Card}
use Rattle.strings.specs.declared.Verdict.{Verdict}
use Rattle.strings.specs.Numbers.{refusal_paper, verdict_paper}
use Rattle.strings.specs.Calls.{checked_paper}
use Rattle.told.specs.Told.{packed}

-- a refusal has a number, and at most a place besides
pub refusal_packed : (why : Refusal) → packed (get_or (refusal_paper why) 0 0 ∷ get_or (refusal_paper why) 1 0 ∷ []) ≡ packed (refusal_paper why)
refusal_packed Channel = refl
refusal_packed Shape = refl
refusal_packed (Damaged d) = refl
refusal_packed Idle = refl
refusal_packed Number = refl
refusal_packed Early = refl
refusal_packed Stale = refl
refusal_packed OffBeat = refl
refusal_packed Conflict = refl
refusal_packed (Range place) = refl
refusal_packed Place = refl
refusal_packed Room = refl
refusal_packed Nothing = refl
refusal_packed Slot = refl
refusal_packed Owner = refl
refusal_packed Card = refl

-- a taken check tells 0, and its verdict
pub taken_packed : (v : Verdict) (n : ℕ) → n ≡ packed (verdict_paper v) → 256 * n ≡ packed (checked_paper (Ok v))
taken_packed v n e = omega (arith, e)
