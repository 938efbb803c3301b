-- FIPS 180-4 gives the digest of "abc".
use Rattle.sha256.proofs.Example.{abc}
use Rattle.claims.proofs.abc_digest.Goals as goal

pub returns : goal.returns
returns c = abc
