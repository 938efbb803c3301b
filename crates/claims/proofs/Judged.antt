-- A check that no other cause refuses is decided by the recovered root.
use mathlib.Core.Path.{◌≡◌, refl, sym, ◌∙◌}
use mathlib.Core.Bool.{Bool, not}
use mathlib.Core.List.{[], ◌∷◌}
use borrow.Author.Tests.{not-false}
use lib.ListN.{length}
use Rattle.refusal.specs.Code.{first_cause}
use Rattle.refusal.proofs.Causes.{Numbered, without-append, none_here, none_then}
use Rattle.counts.specs.Table.{table_causes}
use Rattle.counts.proofs.Room.{table-numbered}
use Rattle.verifier.specs.Verifying.{root_in, same_bytes}
use Rattle.verifier.specs.Operations.{VerifyingCall, causes_before_root, verify_code}
use Rattle.verifier.specs.declared.Verifier.{Verifier}
use Rattle.verifier.proofs.SameLaws.{same_refl, same_true}
use Rattle.claims.specs.Judged.{JudgedByRoot}

module _ (v : Verifier) (call : VerifyingCall) where
  pub before-numbered : Numbered (causes_before_root v call)
  unfolding causes_before_root
  before-numbered =
      without-append 0 (table_causes v.profile (length call.work)) _ (table-numbered v.profile (length call.work))
      (refl, (refl, (refl, (refl, (refl, tt)))))

  -- the last cause: the recovered root differs
  abbrev differs : Bool
  differs = not (same_bytes (root_in v call.message call.signature) v.root)

  judged : first_cause (causes_before_root v call) ≡ 0 → verify_code v call ≡ first_cause ((differs, 15) ∷ [])
  unfolding verify_code
  judged none = none_then (causes_before_root v call) ((differs, 15) ∷ []) none before-numbered

pub judged-by-root : JudgedByRoot
judged-by-root v call none =
    let to : verify_code v call ≡ 0 → root_in v call.message call.signature ≡ v.root =
    λ accepted. same_true (root_in v call.message call.signature) v.root
    (not-false _ (none_here (differs v call) 15 [] refl (sym (judged v call none) ∙ accepted)).0) in
    let from : root_in v call.message call.signature ≡ v.root → verify_code v call ≡ 0 =
    λ root. judged v call none ∙ rw (root, same_refl v.root) in
    (to, from)
