-- No code of its length is larger than the rows of the middle sum.
use Rattle.claims.proofs.Largest.{largest-code}
use Rattle.claims.proofs.largest_code.Goals as goal

pub returns : goal.returns
returns c = largest-code
