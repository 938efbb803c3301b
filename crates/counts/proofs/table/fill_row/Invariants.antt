-- The row is there up to t, n is its last number, and what is behind it is as it was.
use Rattle.std.proofs.Common.{◌≡◌, ◌++◌, ◌+◌, ◌*◌, length, drop}
use Rattle.numbers.specs.inner.Limbs.{number}
use Rattle.counts.specs.Counts.{share, D}
use Rattle.counts.specs.Table.{rows, cells}
use Rattle.counts.proofs.table.fill_row.Given as goal

abbrev pub invariant-loop-t : goal.invariant-loop-t
invariant-loop-t l = record {
  same_length : length l.table ≡ length l.fn.table;
  filled : l.table ≡ rows l.width l.sum l.i ++ cells (D l.width l.i) l.t ++ drop (5 * (l.i * (l.sum + 1) + l.t)) l.fn.table;
  last : number l.n ≡ share (D l.width l.i) l.t 1;
}
