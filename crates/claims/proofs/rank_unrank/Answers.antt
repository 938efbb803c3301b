-- The number of a row and the row of a number.
use Rattle.codewords.proofs.OrderLaws.{rank_unrank}
use Rattle.claims.proofs.rank_unrank.Goals as goal

pub returns : goal.returns
returns c = rank_unrank
