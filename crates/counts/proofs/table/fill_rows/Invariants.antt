-- The rows above i are there, and what is behind them is as it was.
use Rattle.std.proofs.Common.{◌≡◌, ◌++◌, ◌+◌, ◌*◌, length, drop}
use Rattle.counts.specs.Table.{rows}
use Rattle.counts.proofs.table.fill_rows.Given as goal

abbrev pub invariant-loop-i : goal.invariant-loop-i
invariant-loop-i l = record {
  filled : l.table ≡ rows l.width l.sum l.i ++ drop (5 * (l.i * (l.sum + 1))) l.fn.table;
  same_length : length l.table ≡ length l.fn.table;
}
