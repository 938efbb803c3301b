-- `ch` meets its contract: its form is equal to the definition digit by digit.
use Rattle.sha256_block.specs.Functions.{Ch, complement}
use Rattle.sha256_block.proofs.Bits.{choice}
use Rattle.sha256_block.proofs.functions.ch.Goals as goal

pub returns : goal.returns
unfolding Ch complement
returns c = choice 32 c.args.x c.args.y c.args.z c.ranges.x.fits c.ranges.z.fits
