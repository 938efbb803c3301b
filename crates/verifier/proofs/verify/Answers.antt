-- The causes before the table, the table, and the judging behind them.
use Rattle.verifier.specs.Operations.{VerifyingCall}
use Rattle.verifier.proofs.Answers.{verify_behind}
use Rattle.verifier.proofs.verify.Goals as goal

pub judge-requires : goal.judge-requires
judge-requires c = c.fill_checked-early.ensures.ready

pub returns : goal.returns
returns c =
    let call : VerifyingCall = record { message = c.args.message.now; signature = c.args.signature.now; work = c.args.table.now } in
    verify_behind c.args.v.now call c.fill_checked-early.ensures c.judge.ensures
