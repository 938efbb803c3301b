-- Sign and Check never answer 7, and 19 exactly for a count below 256, past the causes before it.
use Rattle.claims.proofs.Bits.{small-counts}
use Rattle.claims.proofs.small_counts.Goals as goal

pub returns : goal.returns
returns c = small-counts
