-- The value is that of the height k, and the steps are those from the lowest height to k.
use Rattle.std.proofs.Common.{◌≡◌, ◌-◌, ◌≤◌}
use Rattle.chains.specs.Chains.{walked}
use Rattle.chains.proofs.steps.walk.Given as goal

abbrev pub invariant-loop-k : goal.invariant-loop-k
invariant-loop-k l = record {
  within : l.k - l.low ≤ l.high - l.low;
  counted : l.walked.steps ≡ l.k - l.low;
  reached : l.walked.value ≡ walked l.hasher.domain l.leaf.0 l.chain.0 l.low (l.k - l.low) l.fn.value;
}
