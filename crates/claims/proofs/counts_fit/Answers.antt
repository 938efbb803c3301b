-- A count fits five words.
use Rattle.counts.proofs.Answer.{counts_fit}
use Rattle.claims.proofs.counts_fit.Goals as goal

pub returns : goal.returns
returns c = counts_fit
