-- Reading what was written gives the key.
use Rattle.stored_key.proofs.RoundTrip.{written-is-read}
use Rattle.claims.proofs.written_key_is_read.Goals as goal

pub returns : goal.returns
returns c = written-is-read
