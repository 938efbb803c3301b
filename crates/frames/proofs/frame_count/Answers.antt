-- `frame_count` meets its contract: four frames, and one for each chain and each height.
use Rattle.std.proofs.Common.{arith}
use Rattle.frames.proofs.FrameNumbers.{length-frames}
use Rattle.frames.proofs.frame_count.Goals as goal

pub returns : goal.returns
returns c = omega (arith, length-frames c.args.p)
