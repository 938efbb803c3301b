-- Refused, nothing is written; granted, the row is a codeword, and its number comes from the table.
use Rattle.std.proofs.Common.{arith, rules}
use Rattle.profile.proofs.Limits.{sum-small}
use Rattle.counts.specs.Table.{table_length, Holds}
use Rattle.counts.proofs.Answer.{table-held}
use Rattle.codewords.proofs.RankLaws.{rank-refused, rank-row_refused, rank_limits, rank_row, rank-granted}
use Rattle.codewords.proofs.ranking.rank.Goals as goal

pub returns-in_err-check_count : goal.returns-in_err-check_count
returns-in_err-check_count c =
    let a = c.args in
    rank-refused a.shape a.row.now a.table.now c.check_count.ensures c.in_err-check_count.was (search rules)

pub returns-in_err-check_row : goal.returns-in_err-check_row
returns-in_err-check_row c =
    let a = c.args in
    rank-row_refused a.shape a.row.now a.table.now c.check_count.ensures c.in_ok-check_count.was c.check_row.ensures c.in_err-check_row.was (search rules)

pub invariant_of-limited : goal.invariant_of-limited
invariant_of-limited c =
    let a = c.args in
    record { limits = (rank_limits a.shape a.row.now a.table.now c.check_count.ensures c.in_ok-check_count.was).0 }

pub fill-requires : goal.fill-requires
fill-requires c =
    let a = c.args in
    (rank_limits a.shape a.row.now a.table.now c.check_count.ensures c.in_ok-check_count.was).1

pub number_of-requires : goal.number_of-requires
unfolding Holds table_length
number_of-requires c =
    let a = c.args in
    let h = (rank_limits a.shape a.row.now a.table.now c.check_count.ensures c.in_ok-check_count.was).0 in
    let is = rank_row a.shape a.row.now a.table.now c.check_count.ensures c.in_ok-check_count.was c.check_row.ensures c.in_ok-check_row.was in
    record {
      le_width = (omega (arith, h.wide), h.narrow, omega (arith, h.few_chains, is.lengths.chains), sum-small a.shape h);
      codeword = rw is.lengths.chains is;
      table_value = rw is.lengths.chains (table-held a.shape a.table.now c.fill.ensures.1);
    }

pub returns : goal.returns
returns c =
    let a = c.args in
    rank-granted a.shape a.row.now a.table.now c.check_count.ensures c.in_ok-check_count.was c.check_row.ensures c.in_ok-check_row.was c.number_of.ensures
    c.fill.ensures.1
