-- A left child goes before its sibling, a right child behind it.
use Rattle.merkle.proofs.NodeLaws.{left-climbed, right-climbed}
use Rattle.merkle.proofs.climb_once.Goals as goal

pub returns-then-index-eq0 : goal.returns-then-index-eq0
returns-then-index-eq0 c =
    let a = c.args in
    left-climbed a.hasher.domain a.height a.index a.own a.other c.if-index-eq0.true c.parent.ensures

pub returns-else-index-eq0 : goal.returns-else-index-eq0
returns-else-index-eq0 c =
    let a = c.args in
    right-climbed a.hasher.domain a.height a.index a.own a.other c.if-index-eq0.false c.parent-else-index-eq0.ensures
