-- Each turn is a step, from no step at the lowest height to all at the highest.
use Rattle.std.proofs.Common.{◌≡◌, ◌-◌, arith}
use Rattle.std.proofs.Math.Nat.{sub_self}
use Rattle.chains.specs.Chains.{walked}
use Rattle.chains.proofs.ChainLaws.{walked_next}
use Rattle.chains.proofs.steps.walk.Goals as goal

pub loop-k-init : goal.loop-k-init
unfolding walked
loop-k-init c = record { within = omega arith; counted = omega arith; reached = rw sub_self }

pub loop-k-preserved : goal.loop-k-preserved
loop-k-preserved c =
    let a = c.args in
    let next = walked_next a.hasher.domain a.leaf.0 a.chain.0 a.low c.loop-k.k _ _ _ in
    record {
      within = omega arith;
      counted = omega arith;
      reached = next (omega arith) c.loop-k.invariant.reached c.chain_step.ensures;
    }

pub returns : goal.returns
returns c =
    let all : c.loop-k.k - c.args.low ≡ c.args.high - c.args.low = omega arith in
    record { value = rw all at c.loop-k.invariant.reached; steps = rw all at c.loop-k.invariant.counted }
