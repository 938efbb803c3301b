-- At whichever step power fails, no leaf signs twice, and all that is issued is accepted.
use Rattle.claims.proofs.PowerCuts.{power_cuts}
use Rattle.claims.proofs.power_cuts.Goals as goal

pub returns : goal.returns
returns c = power_cuts
