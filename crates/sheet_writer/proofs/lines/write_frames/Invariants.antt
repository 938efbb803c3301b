-- The lines of k frames are written, and what follows is as it was.
use Rattle.std.proofs.Common.{drop}
use Rattle.frames.specs.Frames.{frames}
use Rattle.sheet_writer.proofs.LineLaws.{Writing}
use Rattle.sheet_writer.proofs.lines.write_frames.Given as goal

abbrev pub invariant-loop-k : goal.invariant-loop-k
invariant-loop-k l = Writing (frames l.limited.profile) l.signature l.initial.sheet l.sheet l.at l.rest (drop l.k (frames l.limited.profile))
