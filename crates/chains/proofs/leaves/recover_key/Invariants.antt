-- The running hash has taken the first c tops, and the steps are those of the first c chains, at most 15 each.
use Rattle.std.proofs.Common.{◌≡◌, ◌*◌, ◌≤◌}
use Rattle.sha256.specs.Running.{hashed}
use Rattle.chains.specs.Leaves.{reached_top, steps_to}
use Rattle.chains.proofs.LeafLaws.{taken}
use Rattle.chains.proofs.leaves.recover_key.Given as goal

abbrev pub invariant-loop-c : goal.invariant-loop-c
invariant-loop-c l = record {
  few_steps : l.steps ≤ 15 * l.c;
  counted : l.steps ≡ steps_to l.chains.width l.row l.c;
  has_taken : l.hash ≡ hashed (taken l.hasher.domain l.leaf.0 (reached_top l.hasher.domain l.chains l.leaf.0 l.row l.values) l.c);
}
