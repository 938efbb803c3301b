-- The tops go into the hash one after another, and its end is the leaf key.
use Rattle.std.proofs.Common.{◌≡◌, ◌-◌, length, arith, rules}
use Rattle.chains.specs.Leaves.{top_value, leaf_key}
use Rattle.chains.proofs.ChainLaws.{length-value}
use Rattle.chains.proofs.LeafLaws.{no_top, top-more, all_tops}
use Rattle.chains.proofs.leaves.key_of_leaf.Goals as goal

pub loop-c-init : goal.loop-c-init
loop-c-init c =
    let a = c.args in
    no_top a.hasher.domain a.leaf.0 (top_value a.hasher.domain a.limited.chains a.secret.now a.leaf.0) c.leaf_key_address.ensures c.begin-hash.ensures

pub loop-c-preserved : goal.loop-c-preserved
loop-c-preserved c =
    let a = c.args in
    let d = a.hasher.domain in
    let chains = a.limited.chains in
    let long : length d.seed ≡ 16 = search rules in
    top-more d a.leaf.0 (top_value d chains a.secret.now a.leaf.0) c.loop-c.c chains.count long a.limited.few c.loop-c-test.true
    (λ i _. length-value d a.leaf.0 i a.secret.now (chains.width - 1)) c.loop-c.invariant c.chain_value-top.ensures c.absorb.ensures

pub returns : goal.returns
unfolding leaf_key
returns c =
    let a = c.args in
    let chains = a.limited.chains in
    all_tops a.hasher.domain a.leaf.0 (top_value a.hasher.domain chains a.secret.now a.leaf.0) c.loop-c.c chains.count (omega arith)
    c.loop-c.invariant c.end.ensures
