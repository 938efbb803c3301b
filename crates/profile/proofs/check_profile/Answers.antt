-- What the checks of the shape refuse is refused; granted, the height and the edition count.
use Rattle.std.proofs.Common.{rules}
use Rattle.refusal.proofs.Causes.{refused_first, granted_first}
use Rattle.profile.specs.Checks.{shape_causes, profile_causes}
use Rattle.profile.proofs.Limits.{others, shape-numbered}
use Rattle.profile.proofs.check_profile.Goals as goal

pub returns-in_err-check_shape : goal.returns-in_err-check_shape
unfolding profile_causes
returns-in_err-check_shape c =
    let p = c.args.p in
    let refused = refused_first (shape_causes p.shape) (others p) c.in_err-check_shape.was c.check_shape.ensures in
    search rules

pub returns-in_err-refuse_if : goal.returns-in_err-refuse_if
unfolding profile_causes
returns-in_err-refuse_if c =
    let p = c.args.p in
    let granted = granted_first (shape_causes p.shape) (others p) (shape-numbered p.shape) c.in_ok-check_shape.was c.check_shape.ensures in
    search rules

pub returns : goal.returns
unfolding profile_causes
returns c =
    let p = c.args.p in
    let granted = granted_first (shape_causes p.shape) (others p) (shape-numbered p.shape) c.in_ok-check_shape.was c.check_shape.ensures in
    search rules
