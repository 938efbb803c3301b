-- The first c values are written, and what follows is as it was.
use Rattle.std.proofs.Common.{◌≡◌, ◌++◌, ◌+◌, ◌*◌, take, drop}
use Rattle.lists.specs.Joined.{join_to}
use Rattle.chains.specs.Leaves.{shown_value}
use Rattle.chains.proofs.leaves.write_values.Given as goal

abbrev pub invariant-loop-c : goal.invariant-loop-c
invariant-loop-c l = l.out
    ≡ take l.at l.fn.out ++ join_to (shown_value l.hasher.domain l.secret l.leaf.0 l.row) l.c ++ drop (l.at + 16 * l.c) l.fn.out
