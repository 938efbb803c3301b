-- The number that the count is compared with is 256.
use Rattle.numbers.specs.Number.{value}
use Rattle.message.specs.Message.{count_too_small}
use Rattle.message.proofs.count_too_small.Goals as goal

pub returns : goal.returns
unfolding count_too_small value
returns c = c.less.ensures
