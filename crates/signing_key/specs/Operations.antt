-- Document 02, point 5: Reserve of a profile's key, whose tree has 2^h leaves.
use Rattle.std.specs.Prelude.{◌++◌, ℕ, ◌^◌, Result}
use Rattle.refusal.specs.Code.{first_cause}
use Rattle.refusal.specs.declared.Refusal.{Refusal}
use Rattle.profile.specs.Checks.{profile_causes}
use Rattle.profile.specs.declared.Profile.{Profile}
use Rattle.signing_key.specs.Counter.{counter_causes, AnswersWith}
use Rattle.signing_key.specs.declared.Counter.{Counter}

-- "Reserve gives the profile checks and 12"; "21 when reserve finds a mark, before 12"
unfoldable pub reserve_code : Profile → Counter → ℕ
reserve_code p c = first_cause (profile_causes p ++ counter_causes (2 ^ p.height) c)

-- what Reserve answers, and the counter that it leaves
abbrev pub Reserves : Profile → (c c' : Counter) → {A : Type 0} → Result A Refusal → Type 0
Reserves p c c' r = AnswersWith (reserve_code p c) c c' r
