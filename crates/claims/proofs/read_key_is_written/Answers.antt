-- Writing what was read gives the same bytes.
use Rattle.stored_key.proofs.RoundTrip.{read-is-written}
use Rattle.claims.proofs.read_key_is_written.Goals as goal

pub returns : goal.returns
returns c = read-is-written
