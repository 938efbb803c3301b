-- The walk of a comparison ends at the highest word that differs, with the pairs that the document counts.
use Rattle.numbers.proofs.Comparison.{walk_ends}
use Rattle.claims.proofs.walk_ends.Goals as goal

pub returns : goal.returns
returns c = walk_ends
