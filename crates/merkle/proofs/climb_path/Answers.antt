-- Each turn takes the node's sibling and goes one height further.
use Rattle.std.proofs.Common.{ℕ, ◌/◌, refl, sym, ap, ◌∙◌}
use Rattle.std.proofs.Math.Nat.{div-one}
use Rattle.merkle.specs.Nodes.{climbed}
use Rattle.merkle.proofs.Indices.{half_place}
use Rattle.merkle.proofs.NodeLaws.{climbed-next}
use Rattle.merkle.proofs.climb_path.Goals as goal

pub loop-k-init : goal.loop-k-init
unfolding climbed
loop-k-init c = record { place = sym (div-one c.args.leaf); node = refl }

pub loop-k-preserved : goal.loop-k-preserved
loop-k-preserved c =
    let a = c.args in
    let here = c.loop-k.invariant in
    let next = climbed-next a.hasher.domain a.leaf a.key a.siblings.now c.loop-k.k c.loop-k.index here.place in
    record {
      place = ap (λ (i : ℕ). i / 2) here.place ∙ half_place a.leaf c.loop-k.k;
      node = next here.node c.array_at-other.ensures c.climb_once-above.ensures;
    }
