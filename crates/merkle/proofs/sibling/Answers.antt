-- Of an even index the next one, of an odd index the one before.
use Rattle.merkle.specs.Nodes.{sibling}
use Rattle.merkle.proofs.Indices.{left_even, right_odd}
use Rattle.merkle.proofs.sibling.Goals as goal

pub returns-then-index-eq0 : goal.returns-then-index-eq0
unfolding sibling
returns-then-index-eq0 c = rw (left_even c.args.index c.if-index-eq0.true)

pub returns-else-index-eq0 : goal.returns-else-index-eq0
unfolding sibling
returns-else-index-eq0 c = rw (right_odd c.args.index c.if-index-eq0.false)
