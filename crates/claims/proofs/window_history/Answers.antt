-- After every list of checks the window says exactly which leaves were accepted.
use Rattle.claims.proofs.History.{window_history}
use Rattle.claims.proofs.window_history.Goals as goal

pub returns : goal.returns
returns c = window_history
