-- What demand 3 and document 02, point 4, say of signatures that a source of leaves that rise has issued, and so of a list of Reserve and Sign calls: no leaf
-- twice, and all
-- are accepted, in the list's order and, whichever of them arrive, in every order of arrival that the window allows.
use mathlib.Core.Path.{sym}
use mathlib.Core.List.{List, [], ◌++◌, append-nil, map, Permᴰ}
use Prim.Native.Nat.{ℕ, ◌^◌, ◌<◌, ◌≤◌}
use native.Mathlib.Omega.{arith}
use lib.ListN.{length}
use Rattle.lists.proofs.Pairs.{Each, each-front, each-always, each_permuted, Apart, distinct_pairs}
use Rattle.lists.proofs.Pairs.{Pairs, pairs_front, pairs_imply, pairs_with, pairs_permuted}
use Rattle.profile.specs.declared.Profile.{Profile}
use Rattle.tweak.specs.Tweak.{first_domain}
use Rattle.tree.specs.Tree.{root_of}
use Rattle.signing_key.specs.Key.{fresh_key}
use Rattle.signing_key.specs.declared.SigningKey.{SigningKey}
use Rattle.verifier.specs.Verifying.{fresh_verifier}
use Rattle.verifier.specs.declared.Verifier.{Verifier}
use Rattle.claims.specs.Arrivals.{InTime}
use Rattle.claims.specs.Orders.{Issued, KeyCall, key_handed_back, given_by, issued, leaf_of, NoLeafTwice, Check, AllAccepted}
use Rattle.claims.proofs.InTimePairs.{InTimeAfter, in_time_pairs}
use Rattle.claims.proofs.LeafLaws.{Free, fresh-cabinet, fresh-passes-none, KeyFrom, fresh-from}
use Rattle.claims.proofs.Source.{Rises, rises_pairs, rises_good, rises_apart, rises_few, issued_rises, always}
use Rattle.claims.proofs.Made.{MadeOwn, call_step}
use Rattle.claims.proofs.InOrder.{Follows, all-accepted}

module _ (p : Profile) (seed secret : List ℕ) where
  abbrev root : List ℕ
  root = root_of (first_domain seed) p secret

  abbrev cabinet : Verifier
  cabinet = fresh_verifier p seed root

  fresh_accepts : (all : List Issued) → Each (MadeOwn p seed secret) all → Pairs Follows all → (checks : List Check) → AllAccepted p.shape cabinet all checks
  fresh_accepts all made follow checks =
      all-accepted p seed secret checks cabinet all (fresh-cabinet p seed root) made
      (each-always (λ one. Free cabinet (leaf_of one)) (λ one. fresh-passes-none p seed root (leaf_of one)) all) follow

  -- signatures that a source of leaves that rise has issued
  module _ (all : List Issued) (m : ℕ) (rises : Rises leaf_of (MadeOwn p seed secret) 0 all m) where
    made : Each (MadeOwn p seed secret) all
    made = rises_good leaf_of (MadeOwn p seed secret) 0 m all rises

    apart : Pairs (Apart leaf_of) all
    apart = rises_apart leaf_of (MadeOwn p seed secret) 0 m all rises

    pub risen_once : NoLeafTwice all
    risen_once = distinct_pairs leaf_of all apart

    pub risen_accepted : (checks : List Check) → AllAccepted p.shape cabinet all checks
    risen_accepted =
        fresh_accepts all made
        (pairs_imply (λ x y. leaf_of x < leaf_of y) Follows (λ x y h. (λ same. omega arith, omega arith)) all
        (rises_pairs leaf_of (MadeOwn p seed secret) 0 m all rises))

    pub risen_few : length all ≤ 2 ^ p.height
    risen_few = omega (arith, rises_few leaf_of (MadeOwn p seed secret) (2 ^ p.height) (λ one made. made.in_tree) 0 m all (omega arith) rises)

    pub risen_arrived : (arrivals lost : List Issued) → Permᴰ (arrivals ++ lost) all → InTime (map leaf_of arrivals) → (checks : List Check)
        → AllAccepted p.shape cabinet arrivals checks
    risen_arrived arrivals lost order in-time =
        let others = pairs_front (Apart leaf_of) arrivals lost (pairs_permuted (Apart leaf_of) (λ x y other same. other (sym same)) order apart) in
        let follow = pairs_with (Apart leaf_of) InTimeAfter Follows (λ x y other near. (other, near)) arrivals others (in_time_pairs arrivals in-time) in
        fresh_accepts arrivals (each-front (MadeOwn p seed secret) arrivals lost (each_permuted (MadeOwn p seed secret) order made)) follow

    -- where none is lost
    pub risen_arrivals : (arrivals : List Issued) → Permᴰ arrivals all → InTime (map leaf_of arrivals) → (checks : List Check)
        → AllAccepted p.shape cabinet arrivals checks
    risen_arrivals arrivals order = risen_arrived arrivals [] (rw append-nil order)

  -- Reserve and Sign, from a fresh key on, are such a source
  module _ (calls : List KeyCall) where
    abbrev key : SigningKey
    key = fresh_key p seed secret

    rising : (m : ℕ) × Rises leaf_of (MadeOwn p seed secret) 0 (issued key calls) m
    rising =
        issued_rises leaf_of (MadeOwn p seed secret) key_handed_back given_by (λ key c. Unit {0}) (KeyFrom p seed secret)
        (λ key n from c free. call_step p seed secret key n from c) key 0 (fresh-from p seed secret) calls (always key_handed_back key calls)

    pub issued-once : NoLeafTwice (issued key calls)
    issued-once = risen_once (issued key calls) rising.0 rising.1

    pub issued-accepted : (checks : List Check) → AllAccepted p.shape cabinet (issued key calls) checks
    issued-accepted = risen_accepted (issued key calls) rising.0 rising.1

    pub issued-few : length (issued key calls) ≤ 2 ^ p.height
    issued-few = risen_few (issued key calls) rising.0 rising.1

    pub arrived_accepted : (arrivals lost : List Issued) → Permᴰ (arrivals ++ lost) (issued key calls) → InTime (map leaf_of arrivals)
        → (checks : List Check) → AllAccepted p.shape cabinet arrivals checks
    arrived_accepted = risen_arrived (issued key calls) rising.0 rising.1

    pub arrivals-accepted : (arrivals : List Issued) → Permᴰ arrivals (issued key calls) → InTime (map leaf_of arrivals)
        → (checks : List Check) → AllAccepted p.shape cabinet arrivals checks
    arrivals-accepted = risen_arrivals (issued key calls) rising.0 rising.1
