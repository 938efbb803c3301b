-- i bytes are copied.
use Rattle.std.proofs.Common.{◌≡◌}
use lib.Seq.{paste}
use Rattle.sheet_reader.proofs.PayloadLaws.{copied}
use Rattle.sheet_reader.proofs.payload.copy.Given as goal

abbrev pub invariant-loop-i : goal.invariant-loop-i
invariant-loop-i l = l.out ≡ paste l.fn.out 0 (copied l.sheet l.at l.fn.out) l.i
