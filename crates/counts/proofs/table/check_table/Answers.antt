-- The checks of the profile come first, and then the size of the work slice.
use Rattle.std.proofs.Common.{rules}
use Rattle.refusal.proofs.Causes.{refused_first, granted_first}
use Rattle.profile.specs.Checks.{profile_causes}
use Rattle.profile.proofs.Limits.{profile-numbered}
use Rattle.counts.specs.Table.{table_causes}
use Rattle.counts.proofs.Room.{short}
use Rattle.counts.proofs.table.check_table.Goals as goal

pub returns-in_err-check_profile : goal.returns-in_err-check_profile
unfolding table_causes
returns-in_err-check_profile c =
    let a = c.args in
    let refused = refused_first (profile_causes a.p) (short a.p.shape a.words) c.in_err-check_profile.was c.check_profile.ensures in
    search rules

pub returns : goal.returns
unfolding table_causes
returns c =
    let a = c.args in
    let granted = granted_first (profile_causes a.p) (short a.p.shape a.words) (profile-numbered a.p) c.in_ok-check_profile.was c.check_profile.ensures in
    search rules
