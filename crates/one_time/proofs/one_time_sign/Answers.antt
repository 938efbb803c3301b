-- Granted, the values have room for those of the chains, which are written.
use Rattle.one_time.proofs.Answers.{reveal_room, reveal_granted}
use Rattle.one_time.proofs.one_time_sign.Goals as goal

pub invariant_of-limited : goal.invariant_of-limited
invariant_of-limited c = record { limits = (reveal_room c.args.values.now c.row_of_number.ensures c.in_ok-row.was).0 }

pub write_values-requires : goal.write_values-requires
write_values-requires c = rw c.limited_chains-chains.ensures (reveal_room c.args.values.now c.row_of_number.ensures c.in_ok-row.was).1

pub returns : goal.returns
returns c =
    let a = c.args in
    reveal_granted a.values.now c.row_of_number.ensures c.in_ok-row.was a.seed a.secret.now
    (rw (c.first_hasher-hasher.ensures, c.limited_chains-chains.ensures) at c.write_values.ensures)
