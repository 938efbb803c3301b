-- A byte that is missing or differs ends the search, and one that is the same moves it on.
use Rattle.std.proofs.Common.{arith}
use Rattle.frames.specs.Frames.{frame_at}
use Rattle.frame_reader.proofs.ParserLaws.{head-next, head-apart}
use Rattle.frame_reader.proofs.frame.head_stands.Goals as goal

pub returns-then-ne : goal.returns-then-ne
returns-then-ne c =
    let a = c.args in
    head-apart a.sheet.now a.at (frame_at a.limited.profile a.k).head c.loop-i.i c.loop-i.invariant (omega arith) c.byte_at.result c.head_byte.result c.byte_at.ensures
    c.head_byte.ensures c.if-ne.ensures

pub loop-i-preserved : goal.loop-i-preserved
loop-i-preserved c =
    let a = c.args in
    head-next a.sheet.now a.at (frame_at a.limited.profile a.k).head c.loop-i.i c.loop-i.invariant (omega arith) c.byte_at.result c.head_byte.result c.byte_at.ensures
    c.head_byte.ensures c.if-ne.ensures
