-- `named::list_of` meets its contract, arm by arm. Assumes nothing.
use mathlib.Core.Path.{sym, ap, ◌∙◌}
use Rattle.records.specs.Records.{list_of}
use Rattle.records.proofs.named.list_of.Goals as goal

pub returns-in-One : goal.returns-in-One
unfolding list_of
returns-in-One c = c.string1_list.ensures ∙ sym (ap list_of c.in-One.is)

pub returns-in-Two : goal.returns-in-Two
unfolding list_of
returns-in-Two c = c.string2_list.ensures ∙ sym (ap list_of c.in-Two.is)

pub returns-in-Three : goal.returns-in-Three
unfolding list_of
returns-in-Three c = c.string3_list.ensures ∙ sym (ap list_of c.in-Three.is)

pub returns-in-Four : goal.returns-in-Four
unfolding list_of
returns-in-Four c = c.string4_list.ensures ∙ sym (ap list_of c.in-Four.is)

pub returns-in-Five : goal.returns-in-Five
unfolding list_of
returns-in-Five c = c.string5_list.ensures ∙ sym (ap list_of c.in-Five.is)

pub returns-in-Even : goal.returns-in-Even
unfolding list_of
returns-in-Even c = c.even_list.ensures ∙ sym (ap list_of c.in-Even.is)

pub returns-in-Odd : goal.returns-in-Odd
unfolding list_of
returns-in-Odd c = c.odd_list.ensures ∙ sym (ap list_of c.in-Odd.is)

pub returns-in-Fourteen : goal.returns-in-Fourteen
unfolding list_of
returns-in-Fourteen c = c.string14_list.ensures ∙ sym (ap list_of c.in-Fourteen.is)
