-- Document 01, "Leaf key and Root": what Root answers.
use Rattle.std.specs.Prelude.{◌≡◌, cond, List, ℕ, eqb, replicate, Result}
use Rattle.std.specs.Result.{result_unwrap_or}
use Rattle.refusal.specs.Code.{outcome_code, first_cause}
use Rattle.refusal.specs.declared.Refusal.{Refusal}
use Rattle.profile.specs.Checks.{profile_causes}
use Rattle.profile.specs.declared.Profile.{Profile}
use Rattle.tweak.specs.Tweak.{first_domain}
use Rattle.tree.specs.Tree.{root_of}

-- "Leaf key and Root: profile checks"
unfoldable pub root_code : Profile → ℕ
root_code p = first_cause (profile_causes p)

-- what Root answers; a refusal is read as a root of zeros
pub record Roots (p : Profile) (seed secret : List ℕ) (r : Result (List ℕ) Refusal) : Type 0 where
  pub code : outcome_code r ≡ root_code p
  pub root : result_unwrap_or r (replicate 16 0) ≡ cond (eqb (root_code p) 0) (root_of (first_domain seed) p secret) (replicate 16 0)
