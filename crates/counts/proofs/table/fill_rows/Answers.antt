-- Row 0 is there before the loop, and each turn puts the next row over what was behind the rows.
use Rattle.std.proofs.Common.{arith, ◌≡◌, ◌+◌, ◌*◌, ◌≤◌, ◌∙◌}
use Rattle.std.proofs.Math.Nat.{mul-le-mul_right}
use Rattle.counts.proofs.TableLaws.{row_end, above_row, rows-over}
use Rattle.counts.proofs.table.fill_rows.Goals as goal

pub first_row-requires : goal.first_row-requires
first_row-requires c = omega (arith, row_end c.args.chains c.args.sum)

pub loop-i-init : goal.loop-i-init
loop-i-init c = record {
  filled = c.first_row.ensures c.args.width;
  same_length = c.first_row.auto.table;
}

pub fill_row-requires : goal.fill_row-requires
fill_row-requires c =
    let a = c.args in
    let i = c.loop-i.i in
    let limits = c.requires.le_width in
    let within : (i + 1) * (a.sum + 1) ≤ (a.chains + 1) * (a.sum + 1) = mul-le-mul_right (a.sum + 1) (omega arith) in
    record {
      le_width = (limits.0, limits.1, omega arith, omega arith, limits.3);
      table_value = above_row a.width a.sum i _ _ c.loop-i.invariant.filled;
      sum_in_bounds = omega (arith, c.requires.sum_in_bounds, c.loop-i.invariant.same_length);
    }

pub loop-i-preserved : goal.loop-i-preserved
loop-i-preserved c = record {
  filled = rows-over c.args.width c.args.sum (omega arith) _ c.loop-i.invariant.filled c.fill_row.ensures;
  same_length = c.fill_row.auto.table ∙ c.loop-i.invariant.same_length;
}

pub returns : goal.returns
returns c =
    let all : c.loop-i.i ≡ c.args.chains + 1 = omega arith in
    rw all at c.loop-i.invariant.filled
