-- At the height 0 stands the leaf key; above it, the hash of the two children, which are within their height.
use Rattle.std.proofs.Common.{arith}
use Rattle.chains.specs.Leaves.{leaf_key}
use Rattle.merkle.proofs.Indices.{child_within}
use Rattle.merkle.proofs.NodeLaws.{node_leaf, node-above}
use Rattle.tree.proofs.+node.Goals as goal

pub returns-then-height-eq0 : goal.returns-then-height-eq0
returns-then-height-eq0 t c =
    let a = c.args in
    node_leaf a.hasher.domain (leaf_key a.hasher.domain a.limited.chains a.secret.now) a.height a.index c.if-height-eq0.true c.key_of_leaf.ensures

pub node-left-requires : goal.node-left-requires
node-left-requires t c =
    let within = child_within c.args.height (omega arith) c.requires.low c.requires.index_within in
    (omega arith, (omega arith, omega (arith, within)))

pub node-right-requires : goal.node-right-requires
node-right-requires t c =
    let within = child_within c.args.height (omega arith) c.requires.low c.requires.index_within in
    (omega arith, (omega arith, within))

pub returns : goal.returns
returns t c =
    let a = c.args in
    let leaves = leaf_key a.hasher.domain a.limited.chains a.secret.now in
    node-above a.hasher.domain leaves a.height a.index (omega arith) c.node-left.ensures c.node-right.ensures c.parent.ensures
