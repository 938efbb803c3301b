-- A turn copies one byte more, and once all are copied the slice is as the contract says.
use Rattle.std.proofs.Common.{◌∙◌, ap, arith}
use Rattle.std.specs.Option.{unwrap_or}
use Rattle.sheet_reader.proofs.PayloadLaws.{copy_next, copy_all}
use Rattle.sheet_reader.proofs.payload.copy.Goals as goal

pub loop-i-preserved : goal.loop-i-preserved
loop-i-preserved c =
    copy_next c.args.sheet.now c.args.at c.args.out.now c.loop-i.i c.unwrap_or.result (omega arith) c.loop-i.invariant
    (c.unwrap_or.ensures ∙ ap (λ b. unwrap_or b 0) c.byte_at.ensures)

pub returns : goal.returns
returns c = copy_all c.args.sheet.now c.args.at c.args.out.now c.loop-i.i (omega arith) c.loop-i.invariant
