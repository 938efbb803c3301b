-- The first i of the fixed bytes are written.
use Rattle.std.proofs.Common.{◌≡◌, ◌++◌, ◌+◌, ◌*◌, take, drop}
use Rattle.lists.specs.Joined.{join_to}
use Rattle.hex_lines.proofs.Writing.{pair_of}
use Rattle.frames.specs.Frames.{frame_at}
use Rattle.sheet_writer.proofs.lines.write_head.Given as goal

abbrev pub invariant-loop-i : goal.invariant-loop-i
invariant-loop-i l = l.sheet ≡ take l.at l.fn.sheet ++ join_to (pair_of (frame_at l.limited.profile l.k).head) l.i ++ drop (l.at + 2 * l.i) l.fn.sheet
