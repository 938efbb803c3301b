-- Granted, the values have room for the chains, and the key and the steps are those found.
use Rattle.one_time.proofs.Answers.{recover_room, recover_granted}
use Rattle.one_time.proofs.one_time_recover.Goals as goal

pub invariant_of-limited : goal.invariant_of-limited
invariant_of-limited c = record { limits = (recover_room c.args.values.now c.row_of_number.ensures c.in_ok-row.was).0 }

pub recover_key-requires : goal.recover_key-requires
recover_key-requires c = rw c.limited_chains-chains.ensures (recover_room c.args.values.now c.row_of_number.ensures c.in_ok-row.was).1

pub returns : goal.returns
returns c =
    recover_granted c.args.values.now c.row_of_number.ensures c.in_ok-row.was c.args.seed
    (rw (c.first_hasher-hasher.ensures, c.limited_chains-chains.ensures) at c.recover_key.ensures.value)
    (rw c.limited_chains-chains.ensures at c.recover_key.ensures.steps)
