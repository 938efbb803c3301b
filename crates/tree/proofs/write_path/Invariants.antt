-- The first k siblings are written, and the index is that of the node of the height k above the leaf.
use Rattle.std.proofs.Common.{◌≡◌, ◌++◌, ◌*◌, ◌/◌, ◌^◌, drop}
use Rattle.chains.specs.Leaves.{leaf_key}
use Rattle.merkle.specs.Nodes.{path}
use Rattle.tree.proofs.write_path.Given as goal

abbrev pub invariant-loop-k : goal.invariant-loop-k
invariant-loop-k l = record {
  above_leaf : l.index ≡ l.leaf / 2 ^ l.k;
  written : l.out ≡ path l.hasher.domain (leaf_key l.hasher.domain l.limited.chains l.secret) l.k l.leaf ++ drop (16 * l.k) l.fn.out;
}
