-- A check is decided by the root that the number of the cabinet's own edition leads to.
use mathlib.Core.Path.{◌≡◌, refl}
use mathlib.Core.List.{List}
use Prim.Native.Nat.{ℕ}
use Rattle.profile.specs.Checks.{profile_causes}
use Rattle.counts.specs.Table.{table_causes}
use Rattle.message.specs.Message.{message_number}
use Rattle.signature.specs.Signature.{signature_length}
use Rattle.verifier.specs.Verifying.{number_in}
use Rattle.verifier.specs.Operations.{causes_before_root}
use Rattle.verifier.specs.declared.Verifier.{Verifier}
use Rattle.claims.specs.Editions.{number_judged}
use Rattle.claims.proofs.Judged.{judged-by-root}
use Rattle.claims.proofs.judged_by_edition.Goals as goal

-- the number that Check takes, written out
own-number : (v : Verifier) (message signature : List ℕ) → number_in v message signature ≡ number_judged v message signature
unfolding number_in message_number
own-number v message signature = refl

pub returns : goal.returns
unfolding causes_before_root table_causes profile_causes signature_length
returns c =
    record {
      before = λ v call. refl;
      verdict = λ v call none. rw (own-number v call.message call.signature) at (judged-by-root v call none);
    }
