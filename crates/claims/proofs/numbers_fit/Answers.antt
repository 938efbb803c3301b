-- A message number has its count's bits, is below the count, and with 128 bits is that of document 01.
use Rattle.claims.proofs.Bits.{numbers_fit}
use Rattle.claims.proofs.numbers_fit.Goals as goal

pub returns : goal.returns
returns c = numbers_fit
