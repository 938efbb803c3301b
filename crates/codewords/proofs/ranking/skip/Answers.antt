-- Each turn adds the share read, and the sum fits.
use Rattle.std.proofs.Common.{arith, ap}
use Rattle.numbers.specs.Number.{value}
use Rattle.codewords.proofs.RankLaws.{down_from, skip_begins, skip_fits, skip_next}
use Rattle.codewords.proofs.ranking.skip.Goals as goal

pub loop-j-init : goal.loop-j-init
loop-j-init c = skip_begins (down_from c.args.table.now c.args.above) c.requires.number_value.0

pub add-sum-requires : goal.add-sum-requires
add-sum-requires c =
    skip_fits c.args.number (down_from c.args.table.now c.args.above) (omega arith) c.requires.digit_bound _ c.loop-j.invariant
    (ap value c.load.ensures)

pub loop-j-preserved : goal.loop-j-preserved
loop-j-preserved c =
    skip_next c.args.number (down_from c.args.table.now c.args.above) (omega arith) c.requires.digit_bound _ c.loop-j.invariant
    (ap value c.load.ensures) c.add-sum.ensures
