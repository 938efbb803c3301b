-- The climb along a leaf's siblings ends at the root.
use Rattle.chains.specs.Leaves.{chains_of}
use Rattle.tree.proofs.WayLaws.{climbs}
use Rattle.claims.proofs.climbs_to_root.Goals as goal

pub returns : goal.returns
returns c d p secret leaf low = climbs d (chains_of p.shape) secret p.height leaf low
