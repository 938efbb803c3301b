-- Each turn writes the sibling of the node of the height k above the leaf.
use Rattle.std.proofs.Common.{◌≡◌, ℕ, ◌/◌, length, sym, ap, ◌∙◌, arith, rules}
use Rattle.std.proofs.Math.Nat.{div-one}
use Rattle.chains.specs.Leaves.{leaf_key}
use Rattle.chains.proofs.LeafLaws.{length_leaf_key}
use Rattle.merkle.specs.Nodes.{sibling}
use Rattle.merkle.proofs.Indices.{half_place, sibling-place-within}
use Rattle.merkle.proofs.PathLaws.{path-start, path-next}
use Rattle.tree.proofs.write_path.Goals as goal

pub loop-k-init : goal.loop-k-init
loop-k-init c =
    let a = c.args in
    record {
      above_leaf = sym (div-one a.leaf);
      written = path-start a.hasher.domain (leaf_key a.hasher.domain a.limited.chains a.secret.now) a.leaf a.out.now;
    }

pub node-value-requires-clause-index_within : goal.node-value-requires-clause-index_within
node-value-requires-clause-index_within c =
    let within = sibling-place-within c.args.leaf c.args.height c.loop-k.k c.requires.low c.requires.leaf_within c.loop-k-test.true in
    omega (arith, within, c.sibling.ensures, ap sibling c.loop-k.invariant.above_leaf)

pub loop-k-preserved : goal.loop-k-preserved
loop-k-preserved c =
    let a = c.args in
    let d = a.hasher.domain in
    let chains = a.limited.chains in
    let place = c.loop-k.invariant.above_leaf in
    let long : length c.node-value.result ≡ 16 = search rules in
    let next =
    path-next d (leaf_key d chains a.secret.now) a.leaf a.out.now (length_leaf_key d chains a.secret.now) a.height c.loop-k.k c.loop-k.index
    c.requires.room c.loop-k-test.true place in
    record {
      above_leaf = ap (λ (i : ℕ). i / 2) place ∙ half_place a.leaf c.loop-k.k;
      written = next c.sibling.ensures c.node-value.ensures c.loop-k.invariant.written (rw long at c.copy.ensures);
    }
