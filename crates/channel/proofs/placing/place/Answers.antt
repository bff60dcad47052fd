-- `placing::place` meets its contract: each fate comes to what the tests say (`Settling`). Assumes nothing.
use mathlib.Core.Path.{◌≡◌, sym, subst}
use Prim.Native.Nat.{ℕ}
use Rattle.strings.specs.Number.{number_of}
use Rattle.std.specs.Prelude.{Ok}
use Rattle.strings.proofs.Shape.{shaped}
use Rattle.channel.specs.declared.Fate.{Fate}
use Rattle.channel.specs.declared.News.TheVariants.{AlreadyHeld}
use Rattle.channel.specs.Row.{Held, held_in}
use Rattle.channel.specs.Offers.{Places}
use Rattle.channel.proofs.Settling.{placed_not, placed_here, placed_new}
use Rattle.channel.proofs.placing.place.Goals as goal

-- what is held, and the string
abbrev has : (c : goal.In-Err) → Held
has c = let a = c.args in held_in a.head a.all.now

-- what is held, and the string
abbrev has-2 : (c : goal.After-number_in) → Held
has-2 c = let a = c.args in held_in a.head a.all.now

-- what is held, and the string
abbrev has-3 : (c : goal.After-slice_known-in-Ok-New-1) → Held
has-3 c = let a = c.args in held_in a.head a.all.now

abbrev string : (c : goal.In-Err) → ℕ
string c = number_of c.args.s.now

abbrev string-2 : (c : goal.After-number_in) → ℕ
string-2 c = number_of c.args.s.now

abbrev string-3 : (c : goal.After-slice_known-in-Ok-New-1) → ℕ
string-3 c = number_of c.args.s.now

pub fate_of-fate-requires : goal.fate_of-fate-requires
fate_of-fate-requires c = (c.requires.0, (shaped _ c.requires.1).0)

pub number_in-requires : goal.number_in-requires
number_in-requires c = (shaped _ c.requires.1).0

pub returns-in-Err : goal.returns-in-Err
returns-in-Err c =
    let a = c.args in
    placed_not (has c) a.epoch (string c) a.v _ c.fate_of-fate.ensures _ c.in-Err.is

pub returns-in-Ok-Held : goal.returns-in-Ok-Held
returns-in-Ok-Held c =
    let a = c.args in
    subst (λ (m : ℕ). Places (has-2 c) a.epoch (string-2 c) a.v (Ok (m, a.v, AlreadyHeld)) (has-2 c)) (sym c.number_in.ensures)
    (placed_here (has-2 c) a.epoch (string-2 c) a.v _ c.fate_of-fate.ensures (subst (λ (f : Fate). c.fate_of-fate.result ≡ Ok f) (rw c.in-Ok-Held.is at c.in-Ok-Held.field-0-is) c.in-Ok-Held.is))

pub returns-in-Ok-New : goal.returns-in-Ok-New
returns-in-Ok-New c =
    let a = c.args in
    placed_new (has-3 c) a.epoch (string-3 c) a.v _ c.fate_of-fate.ensures _ _ (subst (λ (f : Fate). c.fate_of-fate.result ≡ Ok f) (rw c.in-Ok-New.is at c.in-Ok-New.field-0-is) c.in-Ok-New.is) _ _ c.keep.ensures
