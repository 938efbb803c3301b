-- The checks of the shape come first, and then the size of the work slice.
use Rattle.std.proofs.Common.{rules}
use Rattle.refusal.proofs.Causes.{refused_first, granted_first}
use Rattle.profile.specs.Checks.{shape_causes}
use Rattle.profile.proofs.Limits.{shape-numbered}
use Rattle.counts.specs.Operations.{count_causes}
use Rattle.counts.proofs.Room.{short}
use Rattle.counts.proofs.table.check_count.Goals as goal

pub returns-in_err-check_shape : goal.returns-in_err-check_shape
unfolding count_causes
returns-in_err-check_shape c =
    let a = c.args in
    let refused = refused_first (shape_causes a.shape) (short a.shape a.words) c.in_err-check_shape.was c.check_shape.ensures in
    search rules

pub returns : goal.returns
unfolding count_causes
returns c =
    let a = c.args in
    let granted = granted_first (shape_causes a.shape) (short a.shape a.words) (shape-numbered a.shape) c.in_ok-check_shape.was c.check_shape.ensures in
    search rules
