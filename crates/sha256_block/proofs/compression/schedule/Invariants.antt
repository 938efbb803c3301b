-- The loops of `schedule`: the first t words are there, and the others are zero.
use Rattle.std.proofs.Common.{◌≡◌, ◌-◌, ◌++◌, replicate}
use Rattle.sha256_block.specs.Compression.{words_of, extend}
use Rattle.sha256_block.proofs.compression.schedule.Given as goal

abbrev pub invariant-loop-t : goal.invariant-loop-t
invariant-loop-t l = l.ws ≡ words_of l.t l.block ++ replicate (64 - l.t) 0

abbrev pub invariant-loop-t-2 : goal.invariant-loop-t-2
invariant-loop-t-2 l = l.ws ≡ extend (l.t - 16) (words_of 16 l.block) ++ replicate (64 - l.t) 0
