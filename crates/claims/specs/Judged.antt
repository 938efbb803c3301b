-- Demand 1: "A well-formed signature is judged by its root".
use Rattle.std.specs.Prelude.{◌≡◌, ◌↔◌}
use Rattle.refusal.specs.Code.{first_cause}
use Rattle.verifier.specs.Verifying.{root_in}
use Rattle.verifier.specs.Operations.{VerifyingCall, causes_before_root, verify_code}
use Rattle.verifier.specs.declared.Verifier.{Verifier}

-- past the other causes of Check, a signature is accepted exactly when the recovered root is the cabinet's
abbrev pub JudgedByRoot : Type 0
JudgedByRoot =
    (v : Verifier) (call : VerifyingCall) → first_cause (causes_before_root v call) ≡ 0
    → (verify_code v call ≡ 0) ↔ (root_in v call.message call.signature ≡ v.root)
