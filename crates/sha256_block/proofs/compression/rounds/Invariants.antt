-- The loops of `rounds`: the variables are those after the rounds before.
use Rattle.std.proofs.Common.{◌≡◌, ◌+◌, ◌*◌}
use Rattle.sha256_block.specs.Compression.{rounds as rounds_of}
use Rattle.sha256_block.proofs.compression.rounds.Given as goal

abbrev pub invariant-loop-turn : goal.invariant-loop-turn
invariant-loop-turn l = l.v ≡ rounds_of (8 * l.turn) l.fn.v l.ws

abbrev pub invariant-loop-i : goal.invariant-loop-i
invariant-loop-i l = l.v ≡ rounds_of (8 * l.turn + l.i) l.fn.v l.ws
