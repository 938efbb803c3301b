-- A running hash gives the digest of all that was added.
use Rattle.sha256.proofs.Joined.{running_hash}
use Rattle.claims.proofs.running_hash.Goals as goal

pub returns : goal.returns
returns c = running_hash
