-- `lines_length` meets its contract: the lines of all frames, added up. The profile's frame has at most seven bytes.
use Rattle.std.proofs.Common.{arith}
use Rattle.frames.proofs.FrameList.{behind-frames}
use Rattle.frames.proofs.FrameNumbers.{edition_long}
use Rattle.frames.proofs.lines_length.Goals as goal

pub overflow_mul-result : goal.overflow_mul-result
overflow_mul-result c = omega (arith, edition_long c.args.p.edition)

pub overflow_add-result : goal.overflow_add-result
overflow_add-result c = omega (arith, edition_long c.args.p.edition)

pub overflow_add-result-3 : goal.overflow_add-result-3
overflow_add-result-3 c = omega (arith, edition_long c.args.p.edition)

pub returns : goal.returns
returns c = omega (arith, behind-frames c.args.p)
