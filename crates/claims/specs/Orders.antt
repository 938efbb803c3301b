-- Demand 3, its last sentences: one claim about a whole list of Reserve and Sign calls and the checks of what they issued.
use Rattle.std.specs.Prelude.{◌≡◌, Bool, true, false, cond, List, [], ◌∷◌, ◌++◌, map, ℕ, ◌-◌, ◌*◌, ◌≤◌, eqb, length, take}
use Rattle.lists.specs.Distinct.{Distinct}
use Rattle.profile.specs.declared.Shape.{Shape}
use Rattle.profile.specs.declared.Profile.{Profile}
use Rattle.counts.specs.Table.{table_length}
use Rattle.tweak.specs.Tweak.{first_domain}
use Rattle.tree.specs.Tree.{root_of}
use Rattle.signature.specs.Signature.{signature_length, leaf_in}
use Rattle.signing_key.specs.Key.{fresh_key, reserved_key}
use Rattle.signing_key.specs.declared.SigningKey.{SigningKey}
use Rattle.signer.specs.Operations.{SigningCall, sign_code, key_after, output_after}
use Rattle.verifier.specs.Verifying.{fresh_verifier}
use Rattle.verifier.specs.Operations.{VerifyingCall, verify_code, verifier_after, steps_made}
use Rattle.verifier.specs.declared.Verifier.{Verifier}

-- a call of Sign, "with any R, text, work slice and output slice"
pub record OrderCall : Type 0 where
  pub call : SigningCall
  -- "R (16 bytes, given by the caller)"
  pub sixteen : length call.r ≡ 16

-- a signature issued, and its own text
pub record Issued : Type 0 where
  pub signature : List ℕ
  pub message : List ℕ

-- "An issued signature is the first 20 + 16 × l + 16 × h output bytes of a granted call, as that call left them; its own text is that
-- call's text"
unfoldable pub signed_by : SigningKey → SigningCall → Issued
signed_by key call =
    record {
      signature = take (signature_length key.profile) (output_after key call);
      message = call.message;
    }

-- what a call of Sign issues: "a granted sign is what issues"
unfoldable pub issued_by : SigningKey → SigningCall → List Issued
issued_by key call = cond (eqb (sign_code key call) 0) (signed_by key call ∷ []) []

-- what the calls of a list give, the first at a state and each other at the state that the one before handed back, with `after` and `gives`
-- for what a call
-- hands back and gives
unfoldable pub given_along : {State Call Item : Type 0} → (after : State → Call → State) (gives : State → Call → List Item) → State
    → List Call → List Item
given_along after gives s [] = []
given_along after gives s (c ∷ calls) = gives s c ++ given_along after gives (after s c) calls

-- the state that the last call of a list hands back, or the first state where there is no call
unfoldable pub state_along : {State Call : Type 0} → (after : State → Call → State) → State → List Call → State
state_along after s [] = s
state_along after s (c ∷ calls) = state_along after (after s c) calls

-- each call of a list is as `allowed` says, the first at a state and each other at the state that the one before handed back
unfoldable pub Along : {State Call : Type 0} → (after : State → Call → State) (allowed : State → Call → Type 0) → State → List Call → Type 0
Along after allowed s [] = Unit {0}
Along after allowed s (c ∷ calls) = allowed s c × Along after allowed (after s c) calls

-- "Lists of reserve and sign take the place of lists of issue in demand 3": in any order, granted or refused
pub data KeyCall : Type 0 where
  reserve : KeyCall
  sign : OrderCall → KeyCall

-- "the key that the one before handed back": what a call of either kind hands back
unfoldable pub key_handed_back : SigningKey → KeyCall → SigningKey
key_handed_back key reserve = reserved_key key
key_handed_back key (sign c) = key_after key c.call

-- what a call of either kind issues
unfoldable pub given_by : SigningKey → KeyCall → List Issued
given_by key reserve = []
given_by key (sign c) = issued_by key c.call

-- "The first gets a fresh key of any profile and seeds, each other the key that the one before handed back"
abbrev pub issued : SigningKey → List KeyCall → List Issued
issued key calls = given_along key_handed_back given_by key calls

-- the leaf that a signature carries, read from its bytes
abbrev pub leaf_of : Issued → ℕ
leaf_of one = leaf_in one.signature

-- "no two of the signatures issued carry the same leaf"
abbrev pub NoLeafTwice : List Issued → Type 0
NoLeafTwice signatures = Distinct 0 (map leaf_of signatures)

-- a call of Check: of the next signature of a list, with its own text and a work slice, or any other
pub data Check : Type 0 where
  next : (work : List ℕ) → Check
  other : VerifyingCall → Check

-- the check of a signature with its own text
abbrev pub own_check : Issued → (work : List ℕ) → VerifyingCall
own_check one work = record { message = one.message; signature = one.signature; work = work }

-- a check of a run: whether it is the check of one of the signatures, the call, and the cabinet that gets it
pub record Checked : Type 0 where
  pub own : Bool
  pub call : VerifyingCall
  pub cabinet : Verifier

-- "Checked in the list's order, each with its own text": the checks of a run, one after another. "The cabinet goes from check to check in
-- the
-- same way, refused checks included". Behind the last signature `next` is no check
unfoldable pub checked_along : Verifier → List Issued → List Check → List Checked
checked_along v signatures [] = []
checked_along v [] (next work ∷ checks) = checked_along v [] checks
checked_along v (one ∷ signatures) (next work ∷ checks) =
    record { own = true; call = own_check one work; cabinet = v } ∷ checked_along (verifier_after v (own_check one work)) signatures checks
checked_along v signatures (other call ∷ checks) =
    record { own = false; call = call; cabinet = v } ∷ checked_along (verifier_after v call) signatures checks

-- every member of a list is as P says
abbrev pub Every : {A : Type 0} → (P : A → Type 0) → List A → Type 0
Every P [] = Unit {0}
Every P (x ∷ xs) = P x × Every P xs

-- "with long enough work slices", where "A work slice is long enough when 5 doesn't refuse it"; every other check is one of the "Refused
-- checks in between"
pub record CheckPremise (shape : Shape) (c : Checked) : Type 0 where
  pub long_enough : c.own ≡ true → table_length shape ≤ length c.call.work
  pub refused : c.own ≡ false → verify_code c.cabinet c.call ≡ 0 → ⊥

-- of a check of one of the signatures: "all of them are accepted. Each of these checks reports l × (w − 1) − s chain steps"
pub record CheckHolds (shape : Shape) (c : Checked) : Type 0 where
  pub accepted : c.own ≡ true → verify_code c.cabinet c.call ≡ 0
  pub steps : c.own ≡ true → steps_made c.cabinet c.call ≡ shape.chains * (shape.width - 1) - shape.sum

-- of a whole run
abbrev pub AllAccepted : Shape → Verifier → List Issued → List Check → Type 0
AllAccepted shape v signatures checks =
    Every (CheckPremise shape) (checked_along v signatures checks) → Every (CheckHolds shape) (checked_along v signatures checks)

-- what demand 3 says of a list, for every list: "by a cabinet that starts fresh with that key's profile, public seed and root"; a profile
-- names its edition, so document 02, point 6, is
-- met too: "under either edition, the cabinet's being the key's"
abbrev pub OrdersHold : Type 0
OrdersHold =
    (p : Profile) (seed secret : List ℕ) (calls : List KeyCall)
    → NoLeafTwice (issued (fresh_key p seed secret) calls)
    × ((checks : List Check) → AllAccepted p.shape (fresh_verifier p seed (root_of (first_domain seed) p secret))
    (issued (fresh_key p seed secret) calls) checks)
