-- The gate's count, and what follows from it.
use Rattle.claims.proofs.GateCount.{gate-counted}
use Rattle.claims.proofs.gate_count.Goals as goal

pub returns : goal.returns
returns c = gate-counted
