-- The leaves counted tell as 2^h does.
use Rattle.std.proofs.Common.{rules}
use Rattle.profile.specs.Checks.{leaf_beyond}
use Rattle.profile.proofs.Limits.{counted-leaves}
use Rattle.profile.proofs.leaf_beyond.Goals as goal

pub returns : goal.returns
unfolding leaf_beyond
returns c = rw (c.leaf_count.ensures, c.from.ensures) (counted-leaves c.args.height c.args.leaf (search rules)).0
