-- A whole round behind a trace of steps and cuts issues an order, unless the key is spent.
use Rattle.claims.proofs.RoundIssues.{rounds_issue}
use Rattle.claims.proofs.rounds_issue.Goals as goal

pub returns : goal.returns
returns c = rounds_issue
