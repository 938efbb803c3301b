-- Refused before the chains, or decided by the recovered root.
use Rattle.std.proofs.Common.{refl, rules}
use Rattle.verifier.proofs.Answers.{ready_front, judge_few, leaf_accepted, judge_decided}
use Rattle.verifier.proofs.judge_order.Goals as goal

pub returns-then-count_too_small : goal.returns-then-count_too_small
returns-then-count_too_small c =
    let a = c.args in
    judge_few a.v.now a.message.now a.signature.now (search rules)

pub row_in-row-requires-clause-message_len_bound : goal.row_in-row-requires-clause-message_len_bound
row_in-row-requires-clause-message_len_bound c =
    let a = c.args in
    (c.requires.short, ready_front a.v.now a.count a.message.now a.signature.now a.table.now c.requires)

pub returns-then-is_ok : goal.returns-then-is_ok
returns-then-is_ok c =
    let v = c.args.v.now in
    let message = c.args.message.now in
    let signature = c.args.signature.now in
    let own = c.leaf_in-leaf.ensures in
    let found = c.recover_root-found.ensures in
    judge_decided v message signature c.row_in-row.result c.row_in-row.ensures own (search rules) found.root found.steps c.ne.ensures
    (search rules) (rw (← c.if-is_ok.ensures.value) (search (rules, leaf_accepted v message signature)))

pub returns-else-is_ok : goal.returns-else-is_ok
returns-else-is_ok c =
    let a = c.args in
    let found = c.recover_root-found.ensures in
    judge_decided a.v.now a.message.now a.signature.now c.row_in-row.result c.row_in-row.ensures c.leaf_in-leaf.ensures (search rules)
    found.root found.steps c.ne.ensures (search rules) (rw (← c.if-is_ok.ensures.value) refl)
