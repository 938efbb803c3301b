-- The number so far, with that of the lengths to come, is the number of the row.
use Rattle.codewords.proofs.RankLaws.{Left}
use Rattle.codewords.proofs.ranking.number_of.Given as goal

abbrev pub invariant-loop-place : goal.invariant-loop-place
invariant-loop-place l = Left l.width l.sum l.row l.place l.left l.n
