-- `offering::offer_apart` meets its contract: what is heard refuses, or is placed (`Settling`). Assumes nothing.
use Rattle.channel.specs.Row.{Held, held_in}
use Rattle.channel.proofs.Settling.{heard_no, heard_shaped, heard_on_lem}
use Rattle.channel.proofs.offering.offer_apart.Goals as goal

-- what is held
abbrev has : (c : goal.After-whole-in-Ok-1) → Held
has c = let a = c.args in held_in a.head a.all.now

-- what is held
abbrev has-2 : (c : goal.In-Err) → Held
has-2 c = let a = c.args in held_in a.head a.all.now

-- what is held
abbrev has-3 : (c : goal.After-slice_known-in-Ok-1) → Held
has-3 c = let a = c.args in held_in a.head a.all.now

pub place-requires : goal.place-requires
place-requires c =
    (c.requires, heard_shaped (has c) c.args.epoch _ _ _ _ c.hear-heard.ensures _ c.in-Ok.is)

pub returns-in-Err : goal.returns-in-Err
returns-in-Err c =
    heard_no (has-2 c) c.args.epoch _ _ _ _ c.hear-heard.ensures _ c.in-Err.is

pub returns-in-Ok : goal.returns-in-Ok
returns-in-Ok c =
    heard_on_lem (has-3 c) c.args.epoch _ _ _ _ c.hear-heard.ensures _ c.in-Ok.is _ _ c.place.ensures
