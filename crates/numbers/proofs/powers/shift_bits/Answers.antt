-- Each word is shifted with the one above it.
use Rattle.std.proofs.Common.{◌≡◌, length, w32, rules}
use Rattle.lists.proofs.Lists.{below-fits}
use Rattle.numbers.proofs.PowerLaws.{value_shifted_5}
use Rattle.numbers.proofs.powers.shift_bits.Goals as goal

pub returns : goal.returns
returns c =
    let long : length c.args.n ≡ 5 = search rules in
    value_shifted_5 c.args.bits c.args.n long c.requires (below-fits w32 c.args.n (λ j. search rules))
    c.shift_word.ensures c.shift_word-2.ensures c.shift_word-3.ensures c.shift_word-4.ensures c.shift_word-5.ensures
