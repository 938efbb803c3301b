-- Two words are a limb.
use Rattle.std.proofs.Common.{◌≡◌, length, rules}
use Rattle.numbers.proofs.LimbLaws.{number-words}
use Rattle.numbers.proofs.limbs.LimbsFromArrayU325.from.Goals as goal

pub returns : goal.returns
returns c =
    let long : length c.args.n ≡ 5 = search rules in
    rw (c.limb_of.ensures, c.limb_of-2.ensures) (number-words c.args.n long)
