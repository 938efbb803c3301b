-- `initial` meets its contract: the eight words are computed from the definition.
use Rattle.std.proofs.Common.{refl}
use Rattle.sha256_block.specs.Constants.{has_divisor, is_prime, primes_from, primes, root_from, whole_root, root_word, initial_words}
use Rattle.sha256_block.specs.Compression.{initial, hash_words}
use Rattle.sha256_block.proofs.compression.initial.Goals as goal

pub returns : goal.returns
unfolding initial hash_words initial_words primes primes_from is_prime has_divisor root_word whole_root root_from
returns c = refl
