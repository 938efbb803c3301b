-- The walks end at the tops, which go into the hash one after another, and its end is the leaf key.
use Rattle.std.proofs.Common.{◌≡◌, ℕ, ◌-◌, ◌<◌, length, get_or, ap, ◌∙◌, arith, rules}
use Rattle.lists.proofs.Joins.{length-value}
use Rattle.chains.specs.Chains.{walked}
use Rattle.chains.specs.Leaves.{reached_top, recovered, steps_to}
use Rattle.chains.proofs.StepLaws.{steps_next}
use Rattle.chains.proofs.ChainLaws.{length-walked}
use Rattle.chains.proofs.LeafLaws.{no_top, top-more, all_tops}
use Rattle.chains.proofs.leaves.recover_key.Goals as goal

pub loop-c-init : goal.loop-c-init
unfolding steps_to
loop-c-init c =
    let a = c.args in
    let tops = reached_top a.hasher.domain a.limited.chains a.leaf.0 a.row a.values.now in
    record {
      few_steps = omega arith;
      counted = omega arith;
      has_taken = no_top a.hasher.domain a.leaf.0 tops c.leaf_key_address.ensures c.begin-hash.ensures;
    }

pub loop-c-preserved : goal.loop-c-preserved
loop-c-preserved c =
    let a = c.args in
    let d = a.hasher.domain in
    let chains = a.limited.chains in
    let i = c.loop-c.c in
    let values = a.values.now in
    let before = c.loop-c.invariant in
    let long : length d.seed ≡ 16 = search rules in
    let left : ℕ → ℕ = λ j. chains.width - 1 - get_or a.row j 0 in
    let each : (j : ℕ) → j < chains.count → length (reached_top d chains a.leaf.0 a.row values j) ≡ 16 =
    λ j low. length-walked d a.leaf.0 j (get_or a.row j 0) (left j) _ (length-value 16 values chains.count j c.requires low) in
    let here = rw c.from-height.ensures at c.walk-walked.ensures.value ∙ ap (walked d a.leaf.0 i (get_or a.row i 0) (left i)) c.array_at-value.ensures in
    let made = rw c.from-height.ensures at c.walk-walked.ensures.steps in
    record {
      few_steps = omega (arith, made, a.limited.narrow);
      counted = omega (arith, before.counted, made, steps_next chains.width a.row i);
      has_taken =
          top-more d a.leaf.0 (reached_top d chains a.leaf.0 a.row values) i chains.count long a.limited.few c.loop-c-test.true each
          before.has_taken here c.absorb.ensures;
    }

pub returns-clause-value : goal.returns-clause-value
unfolding recovered
returns-clause-value c =
    let a = c.args in
    let chains = a.limited.chains in
    all_tops a.hasher.domain a.leaf.0 (reached_top a.hasher.domain chains a.leaf.0 a.row a.values.now) c.loop-c.c chains.count (omega arith)
    c.loop-c.invariant.has_taken c.end.ensures
