-- The highest word that is not 0 decides.
use Rattle.std.proofs.Common.{◌≡◌, suc, ◌-◌, arith, w32, rules}
use Rattle.lists.proofs.Lists.{below-fits}
use Rattle.numbers.specs.Number.{value}
use Rattle.numbers.proofs.PowerLaws.{log_at, taken_less}
use Rattle.numbers.proofs.powers.log2.Goals as goal

pub returns-then-n-i-ne0 : goal.returns-then-n-i-ne0
returns-then-n-i-ne0 c =
    let here : suc (c.loop-i.i - 1) ≡ c.loop-i.i = omega arith in
    log_at c.args.n (c.loop-i.i - 1) c.ilog2.result (below-fits w32 c.args.n (λ j. search rules)) (rw here c.loop-i.invariant)
    c.ilog2.ensures.power_le c.ilog2.ensures.next_power_gt

pub loop-i-preserved : goal.loop-i-preserved
loop-i-preserved c =
    let here : suc (c.loop-i.i - 1) ≡ c.loop-i.i = omega arith in
    taken_less c.args.n (c.loop-i.i - 1) (rw here c.loop-i.invariant) c.if-n-i-ne0.false

pub returns : goal.returns
unfolding value
returns c =
    let end : c.loop-i.i ≡ 0 = omega arith in
    let none : value c.args.n ≡ 0 = rw end at c.loop-i.invariant in
    rw none (record { least = omega arith; below = omega arith })
