-- Refused, nothing is written; granted, the shape is within its limits and the table fits.
use Rattle.std.proofs.Common.{length, rules}
use Rattle.counts.specs.Operations.{count_causes}
use Rattle.counts.proofs.Answer.{count-refused, count-granted}
use Rattle.counts.proofs.Room.{count-passed}
use Rattle.refusal.proofs.Causes.{granted-none}
use Rattle.counts.proofs.table.codeword_count.Goals as goal

pub returns-in_err-check_count : goal.returns-in_err-check_count
returns-in_err-check_count c = count-refused c.args.shape c.args.table.now c.check_count.ensures c.in_err-check_count.was (search rules)

pub invariant_of-limited : goal.invariant_of-limited
invariant_of-limited c =
    let a = c.args in
    let none = granted-none (count_causes a.shape (length a.table.now)) c.in_ok-check_count.was c.check_count.ensures in
    record { limits = (count-passed a.shape (length a.table.now) none).0 }

pub fill-requires : goal.fill-requires
fill-requires c =
    let a = c.args in
    let none = granted-none (count_causes a.shape (length a.table.now)) c.in_ok-check_count.was c.check_count.ensures in
    (count-passed a.shape (length a.table.now) none).1

pub returns : goal.returns
returns c =
    count-granted c.args.shape c.args.table.now c.check_count.ensures c.in_ok-check_count.was c.fill.ensures.0 c.fill.ensures.1
