-- `next_word` meets its contract: each call gives the term of the definition.
use Rattle.sha256_block.specs.Functions.{◌⊞◌}
use Rattle.sha256_block.specs.Compression.{next_word}
use Rattle.sha256_block.proofs.compression.next_word.Goals as goal

pub returns : goal.returns
unfolding next_word ◌⊞◌
returns c = rw (c.small_sigma1.ensures, c.small_sigma0.ensures)
