-- Of every list of checks: a leaf that is accepted was not passed, and is passed from then on. So none is accepted twice.
use mathlib.Core.Path.{◌≡◌, refl}
use mathlib.Core.Bool.{Bool, true, false, not}
use mathlib.Core.List.{List, [], ◌∷◌, ◌++◌}
use Prim.Native.Nat.{ℕ}
use borrow.Author.Tests.{eqb-true}
use lib.Dec.{eqb}
use lib.ListN.{length}
use Rattle.refusal.proofs.Causes.{none_here, none-of-append}
use Rattle.lists.proofs.Pairs.{Each, each_imply, Pairs, Apart, distinct_pairs}
use Rattle.profile.specs.Checks.{leaf_beyond}
use Rattle.counts.specs.Counts.{count}
use Rattle.counts.specs.Table.{table_causes}
use Rattle.counts.proofs.Room.{table-numbered}
use Rattle.message.specs.Message.{count_too_small}
use Rattle.signature.specs.Signature.{outside_text, signature_length, leaf_in}
use Rattle.window.specs.Window.{passed}
use Rattle.verifier.specs.Verifying.{fresh_verifier, with_accepted, root_in, same_bytes}
use Rattle.verifier.specs.Operations.{VerifyingCall, causes_before_root, verify_code, verifier_after}
use Rattle.verifier.specs.declared.Verifier.{Verifier}
use Rattle.claims.specs.Orders.{given_along}
use Rattle.claims.specs.Arrivals.{accepted_by, accepted, leaf_checked, NoLeafAcceptedTwice}
use Rattle.claims.proofs.Judged.{before-numbered}
use Rattle.claims.proofs.LeafLaws.{Free, free-before}

-- none of the causes before the root holds, 14 among them
pub accepted-free : (v : Verifier) (call : VerifyingCall) → verify_code v call ≡ 0 → Free v (leaf_in call.signature)
unfolding verify_code causes_before_root
accepted-free v call e =
    let message = call.message in
    let signature = call.signature in
    let work = call.work in
    let counted : List (Bool × ℕ) = (count_too_small (count v.profile.shape), 19) ∷ [] in
    let low : List (Bool × ℕ) = (passed v.window (leaf_in signature), 14) ∷ counted in
    let early : List (Bool × ℕ) = (outside_text (length message), 16) ∷ (
      not (eqb (length signature) (signature_length v.profile)),
      13,
    ) ∷ (leaf_beyond v.profile.height (leaf_in signature), 11) ∷ [] in
    let root : List (Bool × ℕ) = (not (same_bytes (root_in v message signature) v.root), 15) ∷ [] in
    let before = (none-of-append (causes_before_root v call) root (before-numbered v call) e).0 in
    let order = (none-of-append (table_causes v.profile (length work)) (early ++ low) (table-numbered v.profile (length work)) before).1 in
    (none_here (passed v.window (leaf_in signature)) 14 counted refl (none-of-append early low (refl, (refl, (refl, tt))) order).1).0

-- leaves that a cabinet does not call passed, no two of them the same
abbrev Once : Verifier → List VerifyingCall → Type 0
Once v calls = Each (λ c. Free v (leaf_checked c)) calls × Pairs (Apart leaf_checked) calls

-- one call, before those that are accepted later
module _ (v : Verifier) (c : VerifyingCall) (later : List VerifyingCall) (once : Once (verifier_after v c) later) where
  abbrev granted : Bool
  granted = eqb (verify_code v c) 0

  with_accepted_lem : Once v (accepted_by v c ++ later)
  unfolding accepted_by verifier_after
  with_accepted_lem = by granted refl
    where
      by : (g : Bool) → granted ≡ g → Once v (accepted_by v c ++ later)
      by true e =
          let leaf = leaf_checked c in
          let free = accepted-free v c (eqb-true _ 0 e) in
          let after : Once (with_accepted v leaf) later = rw e at once in
          let still = each_imply (λ x. Free (with_accepted v leaf) (leaf_checked x)) (λ x. Free v (leaf_checked x))
          (λ x none. (free-before v leaf (leaf_checked x) free none).0) later after.0 in
          let others = each_imply (λ x. Free (with_accepted v leaf) (leaf_checked x)) (Apart leaf_checked c)
          (λ x none. (free-before v leaf (leaf_checked x) free none).1) later after.0 in
          rw e ((free, still), (others, after.1))
      by false e = rw e (rw e at once)

all_once : (v : Verifier) (calls : List VerifyingCall) → Once v (accepted v calls)
unfolding given_along
all_once v [] = (tt, tt)
all_once v (c ∷ calls) = with_accepted_lem v c (accepted (verifier_after v c) calls) (all_once (verifier_after v c) calls)

pub no_leaf_accepted_twice : NoLeafAcceptedTwice
no_leaf_accepted_twice p seed root calls =
    let v = fresh_verifier p seed root in
    distinct_pairs leaf_checked (accepted v calls) (all_once v calls).1
