-- The causes of the counter stand behind those of the profile.
use Rattle.std.proofs.Common.{◌≡◌, ◌^◌, ◌≤◌, subst, sym, ◌∙◌, arith}
use Rattle.refusal.specs.Code.{first_cause}
use Rattle.profile.specs.Checks.{profile_causes, counted_leaves}
use Rattle.profile.specs.declared.Profile.{Profile}
use Rattle.profile.proofs.Limits.{profile-passed, leaves-few, counted-few}
use Rattle.signing_key.specs.Counter.{AnswersWith}
use Rattle.signing_key.proofs.CounterLaws.{checked-code}
use Rattle.signing_key.proofs.reserve.Goals as goal

-- of a profile that passes its checks the leaves counted are 2^h
counted : (p : Profile) → first_cause (profile_causes p) ≡ 0 → (counted_leaves p.height ≡ 2 ^ p.height) × (2 ^ p.height ≤ 1024)
counted p passed = let low = (profile-passed p passed).low in (counted-few p.height (omega arith), leaves-few p.height low)

pub reserve_leaf-requires : goal.reserve_leaf-requires
reserve_leaf-requires c = λ none.
    let few = counted c.args.p (sym c.check_profile.ensures ∙ none) in
    omega (arith, c.leaf_count.ensures, few.0, few.1)

pub returns : goal.returns
returns c =
    let p = c.args.p in
    let counter = c.args.counter.now in
    let number = checked-code p counter c.check_profile.result c.check_profile.ensures (λ none. c.leaf_count.ensures ∙ (counted p (sym c.check_profile.ensures ∙ none)).0) in
    subst (λ n. AnswersWith n counter c.reserve_leaf.new.counter c.reserve_leaf.result) number c.reserve_leaf.ensures
