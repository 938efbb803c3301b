-- Document 02, point 4: every list of checks of one cabinet, and one key's orders in every order of arrival that the window allows.
use Rattle.std.specs.Prelude.{cond, ℕ, ◌+◌, ◌≤◌, ◌<◌, eqb, length, get_or}
use mathlib.Core.List.{List, [], ◌∷◌, map, Permᴰ}
use Rattle.lists.specs.Distinct.{Distinct}
use Rattle.profile.specs.declared.Profile.{Profile}
use Rattle.tweak.specs.Tweak.{first_domain}
use Rattle.tree.specs.Tree.{root_of}
use Rattle.signing_key.specs.Key.{fresh_key}
use Rattle.verifier.specs.Verifying.{fresh_verifier}
use Rattle.verifier.specs.Operations.{VerifyingCall, verify_code, verifier_after}
use Rattle.signature.specs.Signature.{leaf_in}
use Rattle.verifier.specs.declared.Verifier.{Verifier}
use Rattle.claims.specs.Orders.{KeyCall, Issued, given_along, issued, leaf_of, Check, AllAccepted}

-- the call itself, if its signature is accepted
unfoldable pub accepted_by : Verifier → VerifyingCall → List VerifyingCall
accepted_by v c = cond (eqb (verify_code v c) 0) (c ∷ []) []

-- those calls of a list that are accepted, the first at a cabinet and each other at the cabinet that the one before handed back
abbrev pub accepted : Verifier → List VerifyingCall → List VerifyingCall
accepted v calls = given_along verifier_after accepted_by v calls

-- the leaf that a call's signature carries
abbrev pub leaf_checked : VerifyingCall → ℕ
leaf_checked c = leaf_in c.signature

-- "For every list of checks from fresh, no leaf is accepted twice"
abbrev pub NoLeafAcceptedTwice : Type 0
NoLeafAcceptedTwice =
    (p : Profile) (seed root : List ℕ) (calls : List VerifyingCall)
    → Distinct 0 (map leaf_checked (accepted (fresh_verifier p seed root) calls))

-- "each comes before any leaf 32 or more above it": of the leaves at two places of an order of arrival
abbrev pub InTime : (leaves : List ℕ) → Type 0
InTime leaves = (i j : ℕ) → i < length leaves → j < length leaves → get_or leaves i 0 + 32 ≤ get_or leaves j 0 → i < j

-- "One fresh key's issued orders, each arriving once at its fresh cabinet, are all accepted in every arrival order in which each comes
-- before any leaf 32 or
-- more above it": an arrival order is a permutation of the issued list (`List.Permᴰ` of the logic's library); "Acceptance … is under demand
-- 3's premises on texts and work slices", with its steps
-- and its refused checks in between; in the key's edition, as demand 3
abbrev pub ArrivalsAccepted : Type 0
ArrivalsAccepted =
    (p : Profile) (seed secret : List ℕ) (calls : List KeyCall) (arrivals : List Issued)
    → Permᴰ arrivals (issued (fresh_key p seed secret) calls)
    → InTime (map leaf_of arrivals)
    → (checks : List Check) → AllAccepted p.shape (fresh_verifier p seed (root_of (first_domain seed) p secret)) arrivals checks
