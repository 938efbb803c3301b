-- The value is that of the height k, and the index that of its node.
use Rattle.std.proofs.Common.{◌≡◌, ◌/◌, ◌^◌}
use Rattle.merkle.specs.Nodes.{climbed}
use Rattle.merkle.proofs.climb_path.Given as goal

abbrev pub invariant-loop-k : goal.invariant-loop-k
invariant-loop-k l = record {
  place : l.index ≡ l.leaf / 2 ^ l.k;
  node : l.value ≡ climbed l.hasher.domain l.leaf l.fn.key l.siblings l.k;
}
