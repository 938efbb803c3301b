-- Each length is a byte, so the sum of so few fits; and the definition's sum is std's.
use Rattle.std.proofs.Common.{rules}
use Rattle.std.proofs.iter.runs.Sources.{sums}
use Rattle.codewords.proofs.RankLaws.{total_sum}
use Rattle.codewords.proofs.ranking.sum_of.Goals as goal

pub sum-requires-clause-fits : goal.sum-requires-clause-fits
sum-requires-clause-fits c = search (rules, sums)

pub returns : goal.returns
returns c = rw (total_sum c.args.row.now) (search (rules, sums))
