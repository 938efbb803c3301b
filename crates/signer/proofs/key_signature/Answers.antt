-- The number of the message with the tree's root, its codeword, and the signature made of it.
use Rattle.signature.specs.Signature.{signature_length}
use Rattle.signer.proofs.Answers.{number_is, key-number-fits, signature-is}
use Rattle.signer.proofs.key_signature.Goals as goal

pub write_codeword-requires-clause-number_bound : goal.write_codeword-requires-clause-number_bound
write_codeword-requires-clause-number_bound c =
    let key = c.args.key.now in
    let message = c.args.message.now in
    let number = number_is key c.args.r message c.first_hasher-hasher.ensures
    (rw c.limited_chains-chains.ensures at c.way_up-way.ensures.root) c.message_number-number.ensures in
    rw number (key-number-fits key c.args.r message c.requires.large)

pub returns : goal.returns
unfolding signature_length
returns c =
    let key = c.args.key.now in
    let message = c.args.message.now in
    let domain = c.first_hasher-hasher.ensures in
    let chains = c.limited_chains-chains.ensures in
    let number = number_is key c.args.r message domain (rw chains at c.way_up-way.ensures.root) c.message_number-number.ensures in
    signature-is key c.args.r message c.requires.large _ _ domain number c.write_codeword.ensures
    (rw chains at c.way_up-way.ensures.siblings) (rw chains at c.make_signature.ensures)
