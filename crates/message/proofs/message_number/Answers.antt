-- The message number is the first bits of the digest, as many as the count takes.
use Rattle.std.proofs.Common.{◌∙◌, arith}
use Rattle.numbers.specs.Number.{value}
use Rattle.message.specs.Message.{message_number}
use Rattle.message.proofs.NumberLaws.{bits-few}
use Rattle.message.proofs.message_number.Goals as goal

pub number_of_digest-requires : goal.number_of_digest-requires
number_of_digest-requires c = omega (arith, c.number_bits.ensures, bits-few (value c.args.count))

pub returns : goal.returns
unfolding message_number
returns c = c.number_of_digest.ensures ∙ rw (c.message_digest.ensures, c.number_bits.ensures, c.requires.count_value)
