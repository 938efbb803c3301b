-- The rows of numbers stand in dictionary order.
use Rattle.counts.specs.Counts.{count}
use Rattle.codewords.proofs.OrderLaws.{order}
use Rattle.claims.proofs.rows_in_order.Goals as goal

pub returns : goal.returns
unfolding count
returns c p m n = order p.width p.chains p.sum m n
