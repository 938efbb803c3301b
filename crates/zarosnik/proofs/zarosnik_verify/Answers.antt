-- What `verify` answers and leaves, with the profile named by its numbers.
use Rattle.zarosnik.proofs.Carried.{verify_call}
use Rattle.zarosnik.proofs.zarosnik_verify.Goals as goal

pub returns : goal.returns
returns c = verify_call c.profile.ensures c.verify-verdict.ensures c.returned.ensures
