-- `round` meets its contract: each call gives the term of the definition.
use Rattle.sha256_block.specs.Functions.{◌⊞◌}
use Rattle.sha256_block.specs.Compression.{round}
use Rattle.sha256_block.proofs.compression.round.Goals as goal

pub returns : goal.returns
unfolding round ◌⊞◌
returns c = rw (c.big_sigma1.ensures, c.ch.ensures, c.big_sigma0.ensures, c.maj.ensures)
