-- `writing::spineyarrow_navigation` meets its contract: the gate's number, 13 where the record has no slot, else what the channel's row and the slot's entry tell.
-- Assumes nothing.
use Rattle.lent.proofs.Gate.{let_in_lem}
use Rattle.lent_navigation.proofs.Asked.{navigation_shut, navigation_none, navigation_some}
use Rattle.lent_navigation.proofs.writing.spineyarrow_navigation.Goals as goal

pub returns-then-shut-gt0 : goal.returns-then-shut-gt0
returns-then-shut-gt0 c =
    let a = c.args in
    navigation_shut a.st.now a.card a.channel a.out.now c.gate_number-shut.result c.gate_number-shut.ensures c.if-shut-gt0.true

pub returns-then-slot-eq0 : goal.returns-then-slot-eq0
returns-then-slot-eq0 c =
    let a = c.args in
    navigation_none a.st.now a.card a.channel a.out.now c.row_in-row.result c.slot_of-slot.result
    (let_in_lem a.card a.channel c.gate_number-shut.result c.gate_number-shut.ensures c.if-shut-gt0.false)
    c.row_in-row.ensures
    c.slot_of-slot.ensures.0
    c.if-slot-eq0.true

pub returns : goal.returns
returns c =
    let a = c.args in
    navigation_some a.st.now a.card a.channel a.out.now c.row_in-row.result c.slot_of-slot.result
    (let_in_lem a.card a.channel c.gate_number-shut.result c.gate_number-shut.ensures c.if-shut-gt0.false)
    c.row_in-row.ensures
    c.slot_of-slot.ensures.0
    c.entry_in.result
    c.put_navigation.new.out
    c.put_navigation.result
    c.if-slot-eq0.false
    c.entry_in.ensures
    c.put_navigation.ensures
