-- Demand 3, whole.
use Rattle.claims.specs.Rows.{Incomparable, Complete}
use Rattle.claims.specs.Orders.{OrdersHold}

-- its first sentence, its second, and what it says of a list
pub record Demand3 : Type 0 where
  pub incomparable : Incomparable
  pub complete : Complete
  pub orders : OrdersHold
