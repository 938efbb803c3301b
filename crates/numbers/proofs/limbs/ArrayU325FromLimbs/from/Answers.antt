-- A limb is two words.
use Rattle.std.proofs.Common.{rules}
use Rattle.numbers.proofs.LimbLaws.{words-number}
use Rattle.numbers.proofs.limbs.ArrayU325FromLimbs.from.Goals as goal

pub returns : goal.returns
returns c = words-number c.args.n (search rules) (search rules) (search rules)
