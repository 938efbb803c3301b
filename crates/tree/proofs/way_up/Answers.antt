-- The climb along the siblings that are written ends at the root.
use Rattle.tree.proofs.WayLaws.{way_root}
use Rattle.tree.proofs.way_up.Goals as goal

pub returns-clause-root : goal.returns-clause-root
returns-clause-root c =
    let a = c.args in
    way_root a.hasher.domain a.limited.chains a.secret.now a.height a.leaf _ c.requires.leaf_within c.write_path.ensures
    c.key_of_leaf-own.ensures c.climb_path-root.ensures
