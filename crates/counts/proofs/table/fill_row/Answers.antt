-- Each turn stores the next number of the row, and after the last the row is whole.
use Rattle.std.proofs.Common.{arith, ◌≡◌, ◌+◌, ◌*◌, ◌≤◌, length, ap, sym, ◌∙◌, refl}
use Rattle.numbers.specs.Number.{value, to_words}
use Rattle.counts.specs.Counts.{D}
use Rattle.counts.proofs.CountLaws.{share-start, share-before}
use Rattle.counts.proofs.TableLaws.{row_begins, row_end, above_cell, next_cell, row_ends}
use Rattle.counts.proofs.table.fill_row.Goals as goal

pub loop-t-init : goal.loop-t-init
unfolding value
loop-t-init c = record {
  same_length = refl;
  filled = row_begins c.args.width c.args.sum c.args.i c.args.table.now c.requires.table_value;
  last = c.from-n.ensures ∙ sym (share-start (D c.args.width c.args.i));
}

pub cell-n-requires : goal.cell-n-requires
cell-n-requires c =
    let a = c.args in
    let limits = c.requires.le_width in
    record {
      le_width = (limits.0, limits.1, limits.2, limits.3, omega arith, limits.4);
      table_value = above_cell a.width a.sum a.i c.loop-t.t _ _ c.loop-t.invariant.filled;
      sum_in_bounds = omega (arith, row_end a.i a.sum, c.requires.sum_in_bounds, c.loop-t.invariant.same_length);
      previous_value = c.loop-t.invariant.last;
    }

pub store-requires : goal.store-requires
store-requires c = omega (arith, row_end c.args.i c.args.sum, c.requires.sum_in_bounds, c.loop-t.invariant.same_length)

pub loop-t-preserved : goal.loop-t-preserved
loop-t-preserved c =
    let a = c.args in
    let t = c.loop-t.t in
    let room : 5 * (a.i * (a.sum + 1) + t) + 5 ≤ length a.table.now = omega (arith, row_end a.i a.sum, c.requires.sum_in_bounds) in
    let words = c.from.ensures ∙ ap (to_words 5) c.cell-n.ensures in
    record {
      same_length = c.store.auto.table ∙ c.loop-t.invariant.same_length;
      filled = next_cell a.width a.sum a.i t a.table.now _ _ _ room c.loop-t.invariant.filled words c.store.ensures;
      last = c.cell-n.ensures ∙ sym (share-before (D a.width a.i) t);
    }

pub returns : goal.returns
returns c =
    let a = c.args in
    let all : c.loop-t.t ≡ a.sum + 1 = omega arith in
    rw all at c.loop-t.invariant.filled ∙ row_ends a.width a.sum a.i a.table.now
