-- One fresh key's orders are accepted in every order of arrival that the window allows.
use Rattle.claims.proofs.OrdersProved.{arrivals-accepted}
use Rattle.claims.proofs.arrivals_accepted.Goals as goal

pub returns : goal.returns
returns c p seed secret = arrivals-accepted p seed secret
