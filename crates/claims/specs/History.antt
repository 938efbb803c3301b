-- Document 02, point 4: what a cabinet's window says of all that it has accepted, after every list of checks.
use Rattle.std.specs.Prelude.{◌≡◌, Bool, ◌↔◌, List, ◌++◌, map, ℕ, length, take}
use Rattle.refusal.specs.Code.{first_cause}
use Rattle.profile.specs.declared.Profile.{Profile}
use Rattle.counts.specs.Table.{table_causes}
use Rattle.window.specs.History.{PassedBy, History}
use Rattle.verifier.specs.Verifying.{fresh_verifier}
use Rattle.verifier.specs.Operations.{VerifyingCall, verify_causes, verify_code, verifier_after}
use Rattle.verifier.specs.declared.Verifier.{Verifier}
use Rattle.claims.specs.Arrivals.{accepted, leaf_checked}
use Rattle.claims.specs.Orders.{state_along}

-- the cabinet that a list of checks hands back: each check gets the one that the check before handed back, "refused checks included"
abbrev pub cabinet_after : Verifier → List VerifyingCall → Verifier
cabinet_after v calls = state_along verifier_after v calls

-- the leaves that were accepted in a list of checks, one after another
abbrev pub leaves_accepted : Verifier → List VerifyingCall → List ℕ
leaves_accepted v calls = map leaf_checked (accepted v calls)

-- the causes of Check in front of 14: the profile's, 5, 16, 13 and 11
abbrev pub causes_before_fourteen : Verifier → VerifyingCall → List (Bool × ℕ)
causes_before_fourteen v call =
    table_causes v.profile (length call.work) ++ take 3 (verify_causes v (length call.message) call.signature)

-- for every list of checks from fresh
pub record WindowHistory : Type 0 where
  -- the window that it leaves says exactly what was accepted
  pub window : (p : Profile) (seed root : List ℕ) (calls : List VerifyingCall)
      → let fresh = fresh_verifier p seed root in History (leaves_accepted fresh calls) (cabinet_after fresh calls).window
  -- "14 now means a leaf 32 or more below the highest, or one already accepted": the next check is refused by 14 exactly then, where no
  -- cause in front of 14 holds
  pub fourteen : (p : Profile) (seed root : List ℕ) (calls : List VerifyingCall) (call : VerifyingCall)
      → let fresh = fresh_verifier p seed root in
      (verify_code (cabinet_after fresh calls) call ≡ 14)
      ↔ ((first_cause (causes_before_fourteen (cabinet_after fresh calls) call) ≡ 0) × PassedBy (leaves_accepted fresh calls) (leaf_checked call))
