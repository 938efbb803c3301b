-- The first i bytes are written.
use Rattle.std.proofs.Common.{◌≡◌, ◌+◌, ◌*◌, ◌++◌, take, drop}
use Rattle.lists.specs.Joined.{join_to}
use Rattle.hex_lines.proofs.Writing.{pair_of}
use Rattle.hex_lines.proofs.write_bytes.Given as goal

abbrev pub invariant-loop-i : goal.invariant-loop-i
invariant-loop-i l = l.out ≡ take l.at l.fn.out ++ join_to (pair_of l.bytes) l.i ++ drop (l.at + 2 * l.i) l.fn.out
