-- The running hash has taken the first c tops.
use Rattle.std.proofs.Common.{◌≡◌}
use Rattle.sha256.specs.Running.{hashed}
use Rattle.chains.specs.Leaves.{top_value}
use Rattle.chains.proofs.LeafLaws.{taken}
use Rattle.chains.proofs.leaves.key_of_leaf.Given as goal

abbrev pub invariant-loop-c : goal.invariant-loop-c
invariant-loop-c l = l.hash ≡ hashed (taken l.hasher.domain l.leaf.0 (top_value l.hasher.domain l.chains l.secret l.leaf.0) l.c)
