-- `stepping::newly_shown` meets its contract: the five pairs by the mask, which is empty where no string is stored. Assumes nothing.
use mathlib.Core.Path.{ap, ◌∙◌}
use mathlib.Core.Bool.{Bool}
use Prim.Native.Nat.{ℕ}
use Rattle.strings.specs.Pick.{pick}
use Rattle.channel.specs.Row.{framed}
use Rattle.channel.specs.Offers.{is_stored}
use Rattle.shows.specs.Shows.{shows_of}
use Rattle.shows.proofs.Shows.{newly_is}
use Rattle.shows.proofs.stepping.newly_shown.Goals as goal

pub returns : goal.returns
returns c =
    let a = c.args in
    rw (c.shown_at-5.ensures, c.shown_at-4.ensures, c.shown_at-3.ensures, c.shown_at-2.ensures, c.shown_at.ensures)
    (ap (λ (x : ℕ). shows_of (framed 0 x a.all)) (c.mask_if-mask.ensures ∙ ap (λ (t : Bool). pick t a.present 0) c.is_stored.ensures)
    ∙ newly_is (is_stored a.answer) a.present a.all)
