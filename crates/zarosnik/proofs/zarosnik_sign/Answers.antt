-- What `sign` answers and leaves, with the key named by its numbers.
use Rattle.zarosnik.proofs.Carried.{key_of, sign-call}
use Rattle.zarosnik.proofs.zarosnik_sign.Goals as goal

pub returns : goal.returns
returns c = sign-call (key_of c.profile.ensures c.signing_key-key.ensures) c.sign-signed.ensures c.returned.ensures c.mark_left.ensures
