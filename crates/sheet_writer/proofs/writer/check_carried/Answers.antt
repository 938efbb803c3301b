-- What the checks of the profile refuse is refused; granted, the text and the signature count.
use Rattle.std.proofs.Common.{rules}
use Rattle.refusal.proofs.Causes.{refused_first, granted_first}
use Rattle.profile.specs.Checks.{profile_causes}
use Rattle.profile.proofs.Limits.{profile-numbered}
use Rattle.sheet_writer.proofs.WriteAnswer.{own}
use Rattle.sheet_writer.proofs.writer.check_carried.Goals as goal

pub returns-in_err-check_profile : goal.returns-in_err-check_profile
returns-in_err-check_profile c =
    let a = c.args in
    let refused = refused_first (profile_causes a.p) (own a.p a.signature.now a.message.now) c.in_err-check_profile.was c.check_profile.ensures in
    search rules

pub returns-in_err-refuse_if : goal.returns-in_err-refuse_if
returns-in_err-refuse_if c =
    let a = c.args in
    let granted =
    granted_first (profile_causes a.p) (own a.p a.signature.now a.message.now) (profile-numbered a.p) c.in_ok-check_profile.was c.check_profile.ensures in
    search rules

pub returns : goal.returns
returns c =
    let a = c.args in
    let granted =
    granted_first (profile_causes a.p) (own a.p a.signature.now a.message.now) (profile-numbered a.p) c.in_ok-check_profile.was c.check_profile.ensures in
    search rules
