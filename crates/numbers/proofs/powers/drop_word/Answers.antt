-- The words above the lowest are the number without it.
use Rattle.std.proofs.Common.{◌≡◌, ◌/◌, ◌^◌, ◌<◌, [], ◌∷◌, length, get_or, sym, ap, ◌∙◌, w32, rules}
use Rattle.numbers.specs.Number.{value}
use Rattle.lists.proofs.Lists.{five, below-fits}
use Rattle.numbers.proofs.PowerLaws.{value_dropped}
use Rattle.numbers.proofs.powers.drop_word.Goals as goal

pub returns : goal.returns
returns c =
    let n = c.args.n in
    let long : length n ≡ 5 = search rules in
    let lowest : get_or n 0 0 < 2 ^ 32 = below-fits w32 n (λ j. search rules) 0 in
    value_dropped (get_or n 0 0) (get_or n 1 0 ∷ get_or n 2 0 ∷ get_or n 3 0 ∷ get_or n 4 0 ∷ []) lowest
    ∙ ap (λ l. value l / 2 ^ 32) (sym (five 0 n long))
