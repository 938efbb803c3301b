-- Document 01, "Check", with document 02, points 3 and 4: what Check answers, and what the cabinet is afterwards.
use Rattle.std.specs.Prelude.{◌≡◌, Bool, not, ◌||◌, cond, List, [], ◌∷◌, ◌++◌, ℕ, eqb, length}
use Rattle.refusal.specs.Code.{outcome_code, first_cause}
use Rattle.profile.specs.Checks.{leaf_beyond}
use Rattle.signature.specs.Signature.{outside_text, signature_length, leaf_in}
use Rattle.counts.specs.Counts.{count}
use Rattle.counts.specs.Table.{table_causes, table_after}
use Rattle.message.specs.Message.{count_too_small}
use Rattle.window.specs.Window.{passed}
use Rattle.verifier.specs.Verifying.{with_accepted, root_in, steps_in, same_bytes}
use Rattle.verifier.specs.declared.Verifier.{Verifier}
use Rattle.verifier.specs.declared.Verdict.{Verdict}

-- a call of Check: order text, signature and work slice, each as it is when the call begins
pub record VerifyingCall : Type 0 where
  pub message : List ℕ
  pub signature : List ℕ
  pub work : List ℕ

-- "16; 13 signature not 20 + 16 × l + 16 × h bytes; 11; 14 …", where 14 now means that the leaf is passed by the rule of the window
abbrev pub verify_causes : Verifier → (text : ℕ) (signature : List ℕ) → List (Bool × ℕ)
verify_causes v text signature =
    (outside_text text, 16) ∷ (not (eqb (length signature) (signature_length v.profile)), 13)
    ∷ (leaf_beyond v.profile.height (leaf_in signature), 11) ∷ (passed v.window (leaf_in signature), 14) ∷ []

-- "Check: profile checks, 5, 16; 13 …; 11; 14 …; 7; …", with 19 "in 7's place"
unfoldable pub causes_before_root : Verifier → VerifyingCall → List (Bool × ℕ)
causes_before_root v call =
    table_causes v.profile (length call.work)
    ++ (verify_causes v (length call.message) call.signature ++ ((count_too_small (count v.profile.shape), 19) ∷ []))

-- "… 15 recovered root differs"
unfoldable pub verify_code : Verifier → VerifyingCall → ℕ
verify_code v call =
    first_cause (causes_before_root v call ++ ((not (same_bytes (root_in v call.message call.signature) v.root), 15) ∷ []))

-- the cabinet afterwards; refused, as it was
unfoldable pub verifier_after : Verifier → VerifyingCall → Verifier
verifier_after v call = cond (eqb (verify_code v call) 0) (with_accepted v (leaf_in call.signature)) v

-- "The answer carries the steps made: 0 before the chains, the full sum for 15 and success"
unfoldable pub steps_made : Verifier → VerifyingCall → ℕ
steps_made v call =
    cond (eqb (verify_code v call) 0 || eqb (verify_code v call) 15) (steps_in v call.message call.signature) 0

-- what Check answers and leaves, the cabinet among it
pub record Verifies (v : Verifier) (call : VerifyingCall) (work' : List ℕ) (left : Verifier) (answer : Verdict) : Type 0 where
  pub code : outcome_code answer.outcome ≡ verify_code v call
  pub verifier : left ≡ verifier_after v call
  pub steps : answer.steps ≡ steps_made v call
  pub table : work' ≡ table_after (verify_code v call) v.profile.shape call.work
