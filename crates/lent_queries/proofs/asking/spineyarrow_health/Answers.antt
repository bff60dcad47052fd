-- `asking::spineyarrow_health` meets its contract: the gate's number, else the health by the channel's row and its satellite's entry.
-- Assumes nothing.
use Rattle.lent.proofs.Gate.{let_in_lem}
use Rattle.lent_queries.proofs.Healths.{health_shut, health_none, health_some}
use Rattle.lent_queries.proofs.asking.spineyarrow_health.Goals as goal

pub returns-then-shut-gt0 : goal.returns-then-shut-gt0
returns-then-shut-gt0 c = let a = c.args in health_shut a.st.now a.card a.channel c.gate_number-shut.result c.gate_number-shut.ensures c.if-shut-gt0.true

pub returns-then-slot-eq0 : goal.returns-then-slot-eq0
returns-then-slot-eq0 c =
    let a = c.args in
    health_none a.st.now a.card a.channel c.row_in-row.result c.slot_of-slot.result
    (let_in_lem a.card a.channel c.gate_number-shut.result c.gate_number-shut.ensures c.if-shut-gt0.false)
    c.row_in-row.ensures
    c.slot_of-slot.ensures.0
    c.if-slot-eq0.true

pub returns : goal.returns
returns c =
    let a = c.args in
    health_some a.st.now a.card a.channel c.row_in-row.result c.slot_of-slot.result
    (let_in_lem a.card a.channel c.gate_number-shut.result c.gate_number-shut.ensures c.if-shut-gt0.false)
    c.row_in-row.ensures
    c.slot_of-slot.ensures.0
    c.entry_in.result
    c.health_told.result
    c.if-slot-eq0.false
    c.entry_in.ensures
    c.health_told.ensures
