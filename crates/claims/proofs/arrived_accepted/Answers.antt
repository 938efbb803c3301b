-- Whichever of one fresh key's orders arrive, in an order that the window allows, they are accepted.
use Rattle.claims.proofs.OrdersProved.{arrived_accepted}
use Rattle.claims.proofs.arrived_accepted.Goals as goal

pub returns : goal.returns
returns c p seed secret = arrived_accepted p seed secret
