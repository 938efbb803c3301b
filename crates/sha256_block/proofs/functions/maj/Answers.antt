-- `maj` meets its contract: its form is equal to the definition digit by digit.
use Rattle.sha256_block.specs.Functions.{Maj}
use Rattle.sha256_block.proofs.Bits.{majority}
use Rattle.sha256_block.proofs.functions.maj.Goals as goal

pub returns : goal.returns
unfolding Maj
returns c = majority 32 c.args.x c.args.y c.args.z c.ranges.x.fits c.ranges.y.fits
