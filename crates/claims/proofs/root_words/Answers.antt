-- The round and initial words are from the roots of the first primes.
use Rattle.sha256_block.proofs.Constants.{root-words}
use Rattle.claims.proofs.root_words.Goals as goal

pub returns : goal.returns
returns c = root-words
