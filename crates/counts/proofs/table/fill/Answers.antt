-- The rows are the table, and their last number is the count.
use Rattle.std.proofs.Common.{arith, ◌+◌, ◌*◌, take, drop, ap, ◌∙◌}
use Rattle.profile.proofs.Limits.{sum-small}
use Rattle.counts.specs.Table.{table_length, with_table}
use Rattle.counts.proofs.Answer.{last_cell}
use Rattle.counts.proofs.TableLaws.{row_end}
use Rattle.counts.proofs.table.fill.Goals as goal

pub fill_rows-requires : goal.fill_rows-requires
unfolding table_length
fill_rows-requires c =
    let h = c.args.limited.limits in
    record {
      le_width = (omega (arith, h.wide), h.narrow, h.few_chains, sum-small c.args.limited.shape h);
      sum_in_bounds = c.requires;
    }

pub load-requires : goal.load-requires
unfolding table_length
load-requires c = omega (arith, c.fill_rows.auto.table, c.requires, row_end c.args.limited.shape.chains c.args.limited.shape.sum)

pub returns : goal.returns
unfolding with_table table_length
returns c =
    let shape = c.args.limited.shape in (
      c.load.ensures ∙ ap (λ l. take 5 (drop (5 * (shape.chains * (shape.sum + 1) + shape.sum)) l)) c.fill_rows.ensures ∙ last_cell shape _,
      c.fill_rows.ensures,
    )
