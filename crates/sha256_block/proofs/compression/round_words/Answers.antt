-- `round_words` meets its contract: the whole table is computed from the definition and compared.
use Rattle.std.proofs.Common.{map, sym, ap}
use Rattle.sha256_block.specs.Constants.{root_from, whole_root, root_word, round_words}
use Rattle.sha256_block.proofs.Constants.{listed, primes-listed}
use Rattle.sha256_block.proofs.compression.round_words.Goals as goal

pub returns : goal.returns
unfolding round_words listed root_word whole_root root_from
returns c = ap (map (root_word 3)) (sym primes-listed)
