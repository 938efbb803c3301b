-- Orders that are reserved and signed in turn are issued, one for each, as many as a key has leaves.
use Rattle.claims.proofs.Issuing.{orders-issued}
use Rattle.claims.proofs.orders_issued.Goals as goal

pub returns : goal.returns
returns c = orders-issued
