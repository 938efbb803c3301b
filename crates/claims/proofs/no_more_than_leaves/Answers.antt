-- No list of calls issues more signatures than the tree has leaves.
use Rattle.claims.proofs.OrdersProved.{issued-few}
use Rattle.claims.proofs.no_more_than_leaves.Goals as goal

pub returns : goal.returns
returns c p seed secret calls = issued-few p seed secret calls
