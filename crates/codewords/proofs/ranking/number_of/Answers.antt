-- At each place the shares of the lengths below the digit are skipped, as they stand in the table.
use Rattle.std.proofs.Common.{arith, ◌+◌, ◌-◌, length}
use Rattle.counts.proofs.TableLaws.{cell_within}
use Rattle.codewords.proofs.RankLaws.{left_begins, digit-within, number-words, skipped-small, left-next, left-ends}
use Rattle.codewords.proofs.ranking.number_of.Goals as goal

pub loop-place-init : goal.loop-place-init
loop-place-init c = left_begins c.requires.le_width c.requires.codeword

pub skip-next-requires-clause-number_value : goal.skip-next-requires-clause-number_value
skip-next-requires-clause-number_value c =
    let a = c.args in
    let chains = length a.row.now in
    let l = c.loop-place in
    let within = digit-within c.requires.le_width c.requires.codeword c.loop-place-test.true l.invariant in
    let room = cell_within a.width a.sum (chains + 1) a.table.now c.requires.table_value (chains - 1 - l.place) l.left (omega arith) l.invariant.most in
    (number-words c.requires.le_width c.requires.codeword c.loop-place-test.true l.invariant, omega (arith, within), room)

pub skip-next-requires-clause-digit_bound : goal.skip-next-requires-clause-digit_bound
skip-next-requires-clause-digit_bound c =
    rw c.from-digit.ensures
    (skipped-small c.requires.le_width c.requires.codeword c.loop-place-test.true c.loop-place.invariant c.args.table.now c.requires.table_value)

pub overflow_sub-left : goal.overflow_sub-left
overflow_sub-left c = rw c.from-digit.ensures (digit-within c.requires.le_width c.requires.codeword c.loop-place-test.true c.loop-place.invariant)

pub loop-place-preserved : goal.loop-place-preserved
loop-place-preserved c =
    rw c.from-digit.ensures
    (left-next c.requires.le_width c.requires.codeword c.loop-place-test.true c.loop-place.invariant c.args.table.now c.requires.table_value
    (rw c.from-digit.ensures at c.skip-next.ensures))

pub returns : goal.returns
returns c = left-ends c.loop-place-test.false c.loop-place.invariant
