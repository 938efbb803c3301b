-- Each turn writes the next value behind those before it.
use Rattle.std.proofs.Common.{◌≡◌, ℕ, ◌<◌, length, get_or, arith, rules}
use Rattle.lists.proofs.Joins.{write_start, write_next}
use Rattle.chains.specs.Leaves.{shown_value, revealed}
use Rattle.chains.proofs.ChainLaws.{length-value}
use Rattle.chains.proofs.leaves.write_values.Goals as goal

pub loop-c-init : goal.loop-c-init
loop-c-init c =
    let a = c.args in
    write_start (shown_value a.hasher.domain a.secret.now a.leaf.0 a.row) 16 a.at a.out.now

pub loop-c-preserved : goal.loop-c-preserved
loop-c-preserved c =
    let a = c.args in
    let d = a.hasher.domain in
    let shown = shown_value d a.secret.now a.leaf.0 a.row in
    let each : (i : ℕ) → i < a.limited.chains.count → length (shown i) ≡ 16 =
    λ i _. length-value d a.leaf.0 i a.secret.now (get_or a.row i 0) in
    let long : length c.chain_value-value.result ≡ 16 = search rules in
    write_next shown 16 a.limited.chains.count each a.at a.out.now c.requires c.loop-c.c c.loop-c-test.true
    (rw c.from-height.ensures at c.chain_value-value.ensures) c.loop-c.invariant (rw long at c.copy.ensures)

pub returns : goal.returns
unfolding revealed
returns c = let all : c.loop-c.c ≡ c.args.limited.chains.count = omega arith in rw all at c.loop-c.invariant
