-- `coding::polarity_in` meets its contract: the first symbol is 0, or it is not.
-- Assumes nothing.
use mathlib.Core.Path.{sym, ap, ◌∙◌}
use mathlib.Core.Bool.{Bool}
use borrow.Author.Tests.{eq-eqb, ne_eqb}
use Rattle.strings.specs.Pick.{pick}
use Rattle.relative.specs.declared.Polarity.TheVariants.{Upright, Inverted}
use Rattle.relative.specs.Polarity.{first_symbol}
use Rattle.relative.proofs.coding.polarity_in.Goals as goal

pub returns-then-bit-eq0 : goal.returns-then-bit-eq0
unfolding first_symbol
returns-then-bit-eq0 c = sym (ap (λ (t : Bool). pick t Upright Inverted) (eq-eqb _ _ (sym c.bit.ensures ∙ c.if-bit-eq0.true)))

pub returns-else-bit-eq0 : goal.returns-else-bit-eq0
unfolding first_symbol
returns-else-bit-eq0 c = sym (ap (λ (t : Bool). pick t Upright Inverted) (ne_eqb _ _ (λ q. c.if-bit-eq0.false (c.bit.ensures ∙ q))))
