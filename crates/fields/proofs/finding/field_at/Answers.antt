-- `finding::field_at` meets its contract: each return by the tests that led to it. Assumes nothing.
use mathlib.Core.Path.{◌∙◌, sym}
use Rattle.fields.proofs.Answers.{ends, cut, unknown, wrong, well}
use Rattle.fields.proofs.finding.field_at.Goals as goal

pub returns-then-s-at : goal.returns-then-s-at
returns-then-s-at c = ends c.if-s-at.true

pub returns-then-is_cut : goal.returns-then-is_cut
returns-then-is_cut c =
    cut c.if-s-at.false (sym c.is_cut.ensures ∙ c.if-is_cut.true) c.refused.ensures

pub returns-then-is_unknown : goal.returns-then-is_unknown
returns-then-is_unknown c =
    unknown c.if-s-at.false (sym c.is_cut.ensures ∙ c.if-is_cut.false) (sym c.is_unknown.ensures ∙ c.if-is_unknown.true) c.refused-then-is_unknown.ensures

pub returns-then-is_wrong : goal.returns-then-is_wrong
returns-then-is_wrong c =
    wrong c.if-s-at.false (sym c.is_cut.ensures ∙ c.if-is_cut.false) (sym c.is_unknown.ensures ∙ c.if-is_unknown.false)
    c.length_at-size.ensures (sym c.is_wrong.ensures ∙ c.if-is_wrong.true) c.refused-then-is_wrong.ensures

pub returns : goal.returns
returns c =
    well c.if-s-at.false (sym c.is_cut.ensures ∙ c.if-is_cut.false) (sym c.is_unknown.ensures ∙ c.if-is_unknown.false)
    c.length_at-size.ensures (sym c.is_wrong.ensures ∙ c.if-is_wrong.false) c.good.ensures
