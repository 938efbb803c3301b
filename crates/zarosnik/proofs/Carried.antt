-- How the contracts of Sign and Check become those of their calls: the call names its profile by numbers, returns the answer's code and writes
-- its values.
use mathlib.Core.Path.{◌≡◌, refl, sym, ap, subst, ◌∙◌}
use mathlib.Core.Bool.{Bool, true, false, cond}
use mathlib.Core.List.{List}
use Prim.Native.Nat.{ℕ}
use lib.Dec.{eqb}
use Rattle.std.specs.Prelude.{Result}
use Rattle.refusal.specs.Code.{outcome_code}
use Rattle.refusal.specs.declared.Refusal.{Refusal}
use Rattle.profile.specs.declared.Profile.{Profile}
use Rattle.signing_key.specs.Counter.{cleared}
use Rattle.signing_key.specs.Key.{key_with, recounted}
use Rattle.signing_key.specs.declared.Counter.{Counter}
use Rattle.signing_key.specs.declared.SigningKey.{SigningKey}
use Rattle.signer.specs.Operations.{SigningCall, Signs, sign_code, key_after}
use Rattle.verifier.specs.Verifying.{with_accepted}
use Rattle.verifier.specs.Operations.{VerifyingCall, Verifies, verify_code, verifier_after}
use Rattle.signature.specs.Signature.{leaf_in}
use Rattle.verifier.specs.declared.Verifier.{Verifier}
use Rattle.verifier.specs.declared.Verdict.{Verdict}
use Rattle.zarosnik.specs.Interface.{mark_left, verifier_of}
use Rattle.zarosnik.specs.Interface.{SignCall, VerifyCall}

-- of the key that comes back only the mark can differ
only_mark : (key after : SigningKey) (granted : Bool) → after ≡ cond granted (recounted key (cleared key.counter)) key
    → after ≡ recounted key (record { next = key.counter.next; mark = after.counter.mark })
only_mark key after true e = subst (λ (k : SigningKey). k ≡ recounted key (record { next = key.counter.next; mark = k.counter.mark })) (sym e) refl
only_mark key after false e = subst (λ (k : SigningKey). k ≡ recounted key (record { next = key.counter.next; mark = k.counter.mark })) (sym e) refl

-- of the cabinet that comes back only the highest leaf and the marks can differ
only_window : (v after : Verifier) (leaf : ℕ) (granted : Bool) → after ≡ cond granted (with_accepted v leaf) v
    → after ≡ verifier_of v.profile v.seed v.root after.window.highest after.window.marks
unfolding with_accepted
only_window v after leaf true e =
    subst (λ (x : Verifier). x ≡ verifier_of v.profile v.seed v.root x.window.highest x.window.marks) (sym e) refl
only_window v after leaf false e =
    subst (λ (x : Verifier). x ≡ verifier_of v.profile v.seed v.root x.window.highest x.window.marks) (sym e) refl

-- of a profile
module _ {p q : Profile} (e : p ≡ q) {r : ℕ} where
  pub verify_call : {seed root : List ℕ} {highest marks : ℕ} {call : VerifyingCall} {work' : List ℕ} {left : Verifier} {a : Verdict}
      → Verifies (verifier_of p seed root highest marks) call work' left a → r ≡ outcome_code a.outcome
      → VerifyCall (verifier_of q seed root highest marks) call work' left.window.highest left.window.marks a.steps r
  unfolding verifier_after
  verify_call {seed} {root} {highest} {marks} {call} {work'} {left} {a} h n =
      let v : Verifier = verifier_of p seed root highest marks in
      let after = left.window in
      subst (λ (s : Profile). VerifyCall (verifier_of s seed root highest marks) call work' after.highest after.marks a.steps r) e
      (record {
        left = left;
        answer = a;
        verifies = h;
        returned = n;
        verifier_kept = only_window v left (leaf_in call.signature) (eqb (verify_code v call) 0) h.verifier;
        steps_written = refl;
      })

-- a key of a profile that is named by numbers
pub key_of : {p q : Profile} {k : SigningKey} {seed secret : List ℕ} {c : Counter} → p ≡ q → k ≡ key_with p seed secret c
    → k ≡ key_with q seed secret c
key_of {seed} {secret} {c} e f = f ∙ ap (λ (s : Profile). key_with s seed secret c) e

-- of a key
module _ {k key : SigningKey} (e : k ≡ key) {r : ℕ} where
  pub sign-call : {call : SigningCall} {work' out' : List ℕ} {mark mark' : ℕ} {left : SigningKey} {a : Result (Unit {0}) Refusal}
      → Signs k call work' out' left a → r ≡ outcome_code a → mark' ≡ mark_left (outcome_code a) mark left.counter.mark
      → SignCall key call work' out' mark mark' r
  unfolding key_after
  sign-call {call} {work'} {out'} {mark} {mark'} {left} {a} h n m =
      subst (λ (x : SigningKey). SignCall x call work' out' mark mark' r) e
      (record {
        left = left;
        answer = a;
        signs = h;
        returned = n;
        mark_written = m ∙ ap (λ c. mark_left c mark left.counter.mark) (sym n);
        key_kept = only_mark k left (eqb (sign_code k call) 0) h.key';
      })
