-- Of every list of checks from a fresh cabinet, no leaf is accepted twice.
use Rattle.claims.proofs.AcceptedOnce.{no_leaf_accepted_twice}
use Rattle.claims.proofs.no_leaf_accepted_twice.Goals as goal

pub returns : goal.returns
returns c = no_leaf_accepted_twice
