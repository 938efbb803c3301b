-- The line ends behind i bytes, or it has another byte, or it is wrong.
use Rattle.std.proofs.Common.{◌+◌, ◌*◌, drop, arith, sym, ◌∙◌}
use borrow.Author.Tests.{eqb-true, eqb-false}
use Rattle.hex_lines.specs.Hex.{read_line}
use Rattle.frame_reader.proofs.ParserLaws.{found-start, found_end, found-next, found_none, found-over}
use Rattle.frame_reader.proofs.frame.line_bytes.Goals as goal

pub loop-i-init : goal.loop-i-init
loop-i-init c = found-start c.args.sheet.now c.args.at c.args.most

pub returns-then-ends_at : goal.returns-then-ends_at
returns-then-ends_at c =
    let a = c.args in
    let i = c.loop-i.i in
    sym (c.loop-i.invariant ∙ found_end a.sheet.now (a.at + 2 * i) i a.most (omega arith) (eqb-true _ _ (sym c.if-ends_at.ensures)))

pub returns-in_err-byte_at : goal.returns-in_err-byte_at
returns-in_err-byte_at c =
    let a = c.args in
    let i = c.loop-i.i in
    c.from_residual.ensures
    ∙ sym (c.loop-i.invariant ∙ found_none a.sheet.now (a.at + 2 * i) i a.most (sym c.in_err-byte_at.ensures) (eqb-false _ _ (sym c.if-ends_at.ensures)))

pub loop-i-preserved : goal.loop-i-preserved
loop-i-preserved c =
    let a = c.args in
    c.loop-i.invariant ∙ found-next a.sheet.now a.at c.loop-i.i a.most c.in_ok-byte_at.field-0 (sym c.in_ok-byte_at.ensures)

pub returns-in_ok-byte_at : goal.returns-in_ok-byte_at
returns-in_ok-byte_at c =
    let a = c.args in
    let i = c.loop-i.i in
    sym (c.loop-i.invariant ∙ found-next a.sheet.now a.at i a.most c.in_ok-byte_at.field-0 (sym c.in_ok-byte_at.ensures)
    ∙ found-over (i + 1) a.most (read_line (drop (a.at + 2 * (i + 1)) a.sheet.now)) (omega arith))
