-- `offering::offer` meets its contract: the row put together again, its record and its tallies by the answer (`Settling`). Assumes nothing.
use mathlib.Core.Path.{◌≡◌, sym, ap, ◌∙◌}
use mathlib.Core.Bool.{Bool}
use Rattle.tallies.specs.declared.Tallies.{Tallies}
use Rattle.tallies.specs.Tallies.{after_offer}
use Rattle.channel.specs.declared.Row.{Row}
use Rattle.immediate.specs.Kept.{record_by}
use Rattle.channel.specs.Row.{Held, held_in, held_of, holding, counted}
use Rattle.channel.specs.Offers.{outcome_of, tells_record}
use Rattle.channel.proofs.Settling.{placed_whole, offers_by}
use Rattle.channel.proofs.offering.offer.Goals as goal
use Rattle.channel.proofs.offering.offer.Goals.{then-is_built, else-is_built}

-- a row with tallies
abbrev tallied : Row → Tallies → Row
tallied row t = record { strings = row.strings; start = row.start; present = row.present; immediate = row.immediate; tallies = t }

abbrev after : (c : goal.Joined-is_built) → Held
after c = held_in c.offer_apart-moved.result.head c.offer_apart-moved.new.all

abbrev after-2 : (c : goal.After-count-row) → Held
after-2 c = held_in c.offer_apart-moved.result.head c.offer_apart-moved.new.all

-- the record by the answer
kept : (c : goal.After-count-row) → c.if-is_built.row ≡ holding c.args.row (after-2 c) (record_by (tells_record c.offer_apart-moved.result.answer) (after-2 c).start (after-2 c).bytes c.args.row.immediate)
kept c =
    let row = c.args.row in
    let h = after-2 c in
    let by : Bool → Row = λ (t : Bool). holding row h (record_by t h.start h.bytes row.immediate) in
    let e = c.is_built.ensures in
    elim c.if-is_built.branch [
      | then-is_built w ↦ w.row-is ∙ ap (holding row h) w.first_four-record.ensures ∙ ap by (sym w.if-is_built.true ∙ e)
      | else-is_built w ↦ w.row-is ∙ ap by (sym w.if-is_built.false ∙ e)
    ]

pub told_with-answer-requires : goal.told_with-answer-requires
told_with-answer-requires c =
    placed_whole (held_of c.args.row) c.args.epoch _ _ (after c) c.offer_apart-moved.ensures

pub returns : goal.returns
unfolding counted
returns c =
    let told = c.told_with-answer in
    offers_by c.args.row c.args.epoch _ (after-2 c) c.offer_apart-moved.result.answer _ c.offer_apart-moved.ensures told.ensures
    (ap (tallied c.if-is_built.row) c.count-row.ensures ∙ ap (λ (x : Row). tallied x (after_offer (outcome_of told.result) x.tallies)) (kept c))
