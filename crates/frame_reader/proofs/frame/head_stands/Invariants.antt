-- Of the fixed bytes, i stand, and the others are still to be looked for.
use Rattle.frames.specs.Frames.{frame_at}
use Rattle.frame_reader.proofs.ParserLaws.{HeadLeft}
use Rattle.frame_reader.proofs.frame.head_stands.Given as goal

abbrev pub invariant-loop-i : goal.invariant-loop-i
invariant-loop-i l = HeadLeft l.sheet l.at (frame_at l.limited.profile l.k).head l.i
