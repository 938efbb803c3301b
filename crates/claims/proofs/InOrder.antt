-- Made signatures are accepted one after the other, refused checks in between or not, where each leaf is another and none is 32 or more below one before it.
use mathlib.Core.Path.{◌≡◌, refl, sym}
use mathlib.Core.Bool.{true≢false}
use mathlib.Core.List.{List, [], ◌∷◌}
use Prim.Native.Nat.{ℕ, ◌+◌, ◌<◌}
use borrow.Author.Tests.{ne_eqb}
use Rattle.lists.proofs.Pairs.{Each, each_with, Pairs, Apart}
use Rattle.profile.specs.declared.Profile.{Profile}
use Rattle.tweak.specs.Tweak.{first_domain}
use Rattle.tree.specs.Tree.{root_of}
use Rattle.verifier.specs.Verifying.{with_accepted}
use Rattle.verifier.specs.Operations.{VerifyingCall, verify_code, verifier_after}
use Rattle.verifier.specs.declared.Verifier.{Verifier}
use Rattle.claims.specs.Orders.{Issued, leaf_of, Check, checked_along, AllAccepted}
use Rattle.claims.specs.Orders.Check.{next, other}
use Rattle.claims.proofs.LeafLaws.{Free, CabinetOf, accepted-cabinet, free-after}
use Rattle.claims.proofs.Made.{MadeOwn}
use Rattle.claims.proofs.Accepted.{made-accepted}

-- a refused check leaves the cabinet as it was
stays : (v : Verifier) (call : VerifyingCall) → (verify_code v call ≡ 0 → ⊥) → verifier_after v call ≡ v
unfolding verifier_after
stays v call refused = rw (ne_eqb (verify_code v call) 0 refused)

-- one may follow another: it has another leaf, and that of the other is not 32 or more above its own
abbrev pub Follows : (earlier later : Issued) → Type 0
Follows earlier later = Apart leaf_of earlier later × (leaf_of earlier < leaf_of later + 32)

module _ (p : Profile) (seed secret : List ℕ) where
  abbrev root : List ℕ
  root = root_of (first_domain seed) p secret

  pub all-accepted : (checks : List Check) (v : Verifier) (all : List Issued) → CabinetOf p seed root v → Each (MadeOwn p seed secret) all
      → Each (λ one. Free v (leaf_of one)) all → Pairs Follows all → AllAccepted p.shape v all checks
  unfolding checked_along
  all-accepted [] v all of made free follow = λ premise. tt
  all-accepted (next work ∷ checks) v [] of made free follow = all-accepted checks v [] of made free follow
  all-accepted (next work ∷ checks) v (one ∷ all) of made free follow = λ premise.
      let leaf = leaf_of one in
      let ok = made-accepted p seed secret leaf one made.0 v of work free.0 (premise.0.long_enough refl) in
      let still =
      each_with (λ later. Free v (leaf_of later)) (Follows one) (λ later. Free (with_accepted v leaf) (leaf_of later))
      (λ later none follows. free-after v leaf (leaf_of later) free.0 none follows.0 follows.1) all free.1 follow.0 in
      let later = all-accepted checks (with_accepted v leaf) all (accepted-cabinet p seed root v leaf of) made.1 still follow.1 in
      (record { accepted = λ own. ok.accepted; steps = λ own. ok.steps }, rw ok.after (later (rw ok.after at premise.1)))
  all-accepted (other call ∷ checks) v all of made free follow = λ premise.
      let same = stays v call (premise.0.refused refl) in
      let later = all-accepted checks v all of made free follow in
      (record { accepted = λ own. absurd (true≢false (sym own)); steps = λ own. absurd (true≢false (sym own)) }, rw same (later (rw same at premise.1)))
