-- The root is the climb from the leaf key that the values give.
use Rattle.tree.specs.Tree.{recovered_root}
use Rattle.tree.proofs.recover_root.Goals as goal

pub returns-clause-value : goal.returns-clause-value
unfolding recovered_root
returns-clause-value c = rw (← c.recover_key-found.ensures.value) c.climb_path.ensures
