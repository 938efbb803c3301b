-- Granted, the profile is within its limits, and the root is the node of its height.
use Rattle.std.proofs.Common.{◌-◌, arith, rules}
use Rattle.std.proofs.Math.Pow.{pow_mono}
use Rattle.refusal.proofs.Causes.{granted-none}
use Rattle.profile.specs.Checks.{profile_causes}
use Rattle.profile.proofs.Limits.{profile-limits}
use Rattle.tree.proofs.Answer.{root-refused, root-granted}
use Rattle.tree.proofs.root.Goals as goal

pub invariant_of-limited : goal.invariant_of-limited
invariant_of-limited c =
    let p = c.args.p in
    record { limits = (profile-limits p (granted-none (profile_causes p) c.in_ok-check_profile.was c.check_profile.ensures)).0 }

pub node-requires : goal.node-requires
node-requires c =
    let p = c.args.p in
    let limits = profile-limits p (granted-none (profile_causes p) c.in_ok-check_profile.was c.check_profile.ensures) in
    let room = pow_mono {i = 1} {j = 31 - p.height} (omega (arith, limits.1)) in
    record { low = omega (arith, limits.1); index_within = omega (arith, room) }

pub returns-in_err-check_profile : goal.returns-in_err-check_profile
returns-in_err-check_profile c =
    let refused = root-refused c.args.p c.args.seed c.args.secret.now c.check_profile.ensures c.in_err-check_profile.was in
    search rules

pub returns : goal.returns
returns c =
    root-granted c.args.p c.args.seed c.args.secret.now c.check_profile.ensures c.in_ok-check_profile.was
    (rw (c.first_hasher.ensures, c.limited_chains.ensures) at c.node.ensures)
