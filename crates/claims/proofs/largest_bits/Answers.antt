-- The bits of a count are the largest value up to 128 whose power of two is not above it.
use Rattle.claims.proofs.Bits.{largest-bits}
use Rattle.claims.proofs.largest_bits.Goals as goal

pub returns : goal.returns
returns c = largest-bits
