-- A node calls itself for the height below it.
use Rattle.tree.proofs.+node.Given as goal

abbrev pub decreases-node : goal.decreases-node
decreases-node l = l.height
