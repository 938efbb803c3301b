-- The causes of the table, then those of the order; where none holds, the table may be filled, and the order may be judged.
use Rattle.std.proofs.Common.{rules}
use Rattle.verifier.proofs.Answers.{table_refused, order_refused, order_room, order_filled}
use Rattle.verifier.proofs.fill_checked.Goals as goal

pub returns-in_err-check_table : goal.returns-in_err-check_table
returns-in_err-check_table c =
    let a = c.args in
    table_refused a.v.now a.message.now a.signature.now a.table.now c.check_table.ensures c.in_err-check_table.was (search rules)

pub returns-in_err-check_order : goal.returns-in_err-check_order
returns-in_err-check_order c =
    let a = c.args in
    order_refused a.v.now a.message.now a.signature.now a.table.now c.check_table.ensures c.in_ok-check_table.was c.check_order.ensures
    c.in_err-check_order.was (search rules)

pub invariant_of-limited : goal.invariant_of-limited
invariant_of-limited c =
    let a = c.args in
    record { limits = (order_room a.v.now a.message.now a.signature.now a.table.now c.check_table.ensures c.in_ok-check_table.was).0 }

pub fill-requires : goal.fill-requires
fill-requires c =
    let a = c.args in
    (order_room a.v.now a.message.now a.signature.now a.table.now c.check_table.ensures c.in_ok-check_table.was).1

pub returns : goal.returns
returns c =
    let a = c.args in
    order_filled a.v.now a.message.now a.signature.now a.table.now c.check_table.ensures c.in_ok-check_table.was c.check_order.ensures c.in_ok-check_order.was
    c.fill.ensures.0 c.fill.ensures.1
