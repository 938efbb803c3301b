-- The first bits are those of the first 16 bytes, shifted right.
use Rattle.std.proofs.Common.{◌≡◌, length, sym, ◌∙◌, rules, w8}
use Rattle.lists.proofs.Lists.{below-fits}
use Rattle.message.proofs.NumberLaws.{first_16}
use Rattle.message.proofs.number_of_digest.Goals as goal

pub returns : goal.returns
returns c =
    let digest = c.args.digest in
    let long : length digest ≡ 32 = search rules in
    c.shift_right.ensures
    ∙ rw c.first_words.ensures
    (sym (first_16 c.args.bits digest c.requires long (below-fits w8 digest (λ j. search rules))))
