-- The checks of the profile, and then the leaf; granted, the shape is within its limits.
use Rattle.std.proofs.Common.{rules, Bool, ℕ, List, [], ◌∷◌}
use Rattle.refusal.proofs.Causes.{refused_first, granted-none, granted_first}
use Rattle.profile.specs.Checks.{profile_causes, leaf_beyond}
use Rattle.profile.specs.declared.Profile.{Profile}
use Rattle.profile.proofs.Limits.{profile-numbered, profile-limits}
use Rattle.one_time.specs.Operations.{leaf_key_code}
use Rattle.one_time.proofs.leaf_key.Goals as goal

-- the causes behind those of the profile
abbrev others : Profile → (leaf : ℕ) → List (Bool × ℕ)
others p leaf = (leaf_beyond p.height leaf, 11) ∷ []

pub returns-in_err-check_profile : goal.returns-in_err-check_profile
unfolding leaf_key_code
returns-in_err-check_profile c =
    let p = c.args.p in
    let refused = refused_first (profile_causes p) (others p c.args.leaf) c.in_err-check_profile.was c.check_profile.ensures in
    search rules

pub returns-in_err-refuse_if : goal.returns-in_err-refuse_if
unfolding leaf_key_code
returns-in_err-refuse_if c =
    let p = c.args.p in
    let granted = granted_first (profile_causes p) (others p c.args.leaf) (profile-numbered p) c.in_ok-check_profile.was c.check_profile.ensures in
    search rules

pub invariant_of-limited : goal.invariant_of-limited
invariant_of-limited c =
    let p = c.args.p in
    record { limits = (profile-limits p (granted-none (profile_causes p) c.in_ok-check_profile.was c.check_profile.ensures)).0 }

pub returns : goal.returns
unfolding leaf_key_code
returns c =
    let p = c.args.p in
    let granted = granted_first (profile_causes p) (others p c.args.leaf) (profile-numbered p) c.in_ok-check_profile.was c.check_profile.ensures in
    search rules
