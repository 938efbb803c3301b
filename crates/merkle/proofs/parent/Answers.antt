-- A tweaked hash that takes the left child, then the right one.
use Rattle.std.proofs.Common.{◌≡◌, length, rules}
use Rattle.merkle.proofs.NodeLaws.{children_taken}
use Rattle.merkle.proofs.parent.Goals as goal

pub returns : goal.returns
returns c =
    let a = c.args in
    let long : (length a.hasher.domain.seed ≡ 16) × (length a.left ≡ 16) × (length a.right ≡ 16) = search rules in
    children_taken a.hasher.domain a.height a.index a.left a.right long.0 long.1 long.2 c.node_address.ensures c.begin-hash.ensures
    c.absorb.ensures c.absorb-2.ensures c.end.ensures
