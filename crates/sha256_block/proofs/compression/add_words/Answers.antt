-- `add_words` meets its contract: the code is the definition.
use Rattle.std.proofs.Common.{refl}
use Rattle.sha256_block.specs.Functions.{◌⊞◌}
use Rattle.sha256_block.specs.Compression.{add_words}
use Rattle.sha256_block.proofs.compression.add_words.Goals as goal

pub returns : goal.returns
unfolding add_words ◌⊞◌
returns c = refl
