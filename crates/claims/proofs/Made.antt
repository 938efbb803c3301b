-- The signature that a key makes of a message with a leaf, and that a granted call of Sign issues such a one, with the marked leaf.
use mathlib.Core.Path.{◌≡◌, refl}
use mathlib.Core.Bool.{Bool, true, false, not}
use mathlib.Core.List.{List, [], ◌∷◌}
use Prim.Native.Nat.{ℕ, ◌^◌, ◌<◌}
use native.Mathlib.Nat.{le_refl}
use native.Mathlib.Omega.{arith}
use borrow.Author.Tests.{eqb-true, not-false}
use lib.Dec.{ltb, eqb}
use lib.ListN.{length, drop}
use lib.Seq.{take_at}
use Rattle.refusal.specs.Code.{first_cause}
use Rattle.refusal.proofs.Causes.{none_here, none-of-append}
use Rattle.profile.specs.Checks.{profile_causes}
use Rattle.profile.specs.declared.Profile.{Profile}
use Rattle.profile.proofs.Limits.{profile-numbered, profile-passed, next_fits}
use Rattle.signing_key.specs.Counter.{mark_counts}
use Rattle.signing_key.specs.declared.SigningKey.{SigningKey}
use Rattle.signing_key.proofs.CounterLaws.{mark-within}
use Rattle.counts.specs.Counts.{count}
use Rattle.counts.specs.Table.{table_length, table_causes}
use Rattle.counts.proofs.Room.{table-numbered}
use Rattle.codewords.specs.Operations.{row_of}
use Rattle.tweak.specs.Tweak.{first_domain}
use Rattle.tweak.specs.declared.Domain.{Domain}
use Rattle.chains.specs.Leaves.{chains_of, revealed}
use Rattle.tree.specs.Tree.{root_of, siblings_of}
use Rattle.message.specs.Message.{message_number, count_too_small}
use Rattle.signature.specs.Signature.{outside_text, signature_length}
use Rattle.message.proofs.NumberLaws.{number_fits}
use Rattle.signer.specs.Signing.{leaf_to_sign, key_number, signature_of, key_signature}
use Rattle.signer.specs.Operations.{sign_code, key_after, output_after}
use Rattle.signature.proofs.Parts.{Parts}
use Rattle.signer.proofs.SignatureLaws.{length-signature, signature_parts}
use Rattle.claims.specs.Orders.{OrderCall, Issued, signed_by, issued_by, KeyCall, key_handed_back, given_by, leaf_of}
use Rattle.claims.specs.Orders.KeyCall.{reserve, sign}
use Rattle.claims.proofs.LeafLaws.{KeyFrom, reserved-from, cleared-from}
use Rattle.claims.proofs.Source.{Rises}

module _ (p : Profile) (seed secret : List ℕ) where
  abbrev d : Domain
  d = first_domain seed

  -- the number of a message that a leaf signs under this profile and these seeds
  abbrev pub number_of : (leaf : ℕ) (r message : List ℕ) → ℕ
  number_of leaf r message = message_number p leaf r seed (root_of d p secret) message

  -- a signature with its message, made with a leaf
  pub record Made (leaf : ℕ) (one : Issued) : Type 0 where
    pub r : List ℕ
    pub sixteen : length r ≡ 16
    pub profile : first_cause (profile_causes p) ≡ 0
    pub text : outside_text (length one.message) ≡ false
    pub in_tree : leaf < 2 ^ p.height
    pub large : count_too_small (count p.shape) ≡ false
    pub bytes : one.signature ≡ signature_of d p secret leaf r (row_of p.shape (number_of leaf r one.message))

  module _ (leaf : ℕ) (one : Issued) (made : Made leaf one) where
    -- its number is below the count
    pub made-below : number_of leaf made.r one.message < count p.shape
    made-below = number_fits p leaf made.r seed (root_of d p secret) one.message made.large

    -- its parts, read back from its bytes: a leaf below 2 ^ h has four bytes
    pub made-read :
        let row = row_of p.shape (number_of leaf made.r one.message) in
        Parts p leaf made.r (revealed d (chains_of p.shape) secret leaf row)
        (siblings_of d (chains_of p.shape) secret p.height leaf) one.signature
    made-read =
        let four : leaf < 2 ^ 32 = omega (arith, next_fits leaf p.height (profile-passed p made.profile).low made.in_tree) in
        rw made.bytes (signature_parts d p secret leaf made.r (row_of p.shape (number_of leaf made.r one.message)) made.sixteen four)

  -- made with the leaf that it carries
  abbrev pub MadeOwn : Issued → Type 0
  MadeOwn one = Made (leaf_of one) one

  made-own : (leaf : ℕ) (one : Issued) → Made leaf one → MadeOwn one
  made-own leaf one made = rw (made-read leaf one made).own_leaf made

-- what is known where a call of Sign is granted
module _ (key : SigningKey) (c : OrderCall) where
  abbrev pub granted : Bool
  granted = eqb (sign_code key c.call) 0

  -- a leaf is marked, and the signature is made with it
  pub sign-made : granted ≡ true → (mark_counts (2 ^ key.profile.height) key.counter ≡ true)
      × Made key.profile key.seed key.secret (leaf_to_sign key) (signed_by key c.call)
  unfolding sign_code table_causes signed_by output_after key_signature key_number
  sign-made e =
      let p = key.profile in
      let n = key_number key c.call.r c.call.message in
      let unmarked : Bool = not (mark_counts (2 ^ p.height) key.counter) in
      let counted : List (Bool × ℕ) = (count_too_small (count p.shape), 19) ∷ [] in
      let leaf : List (Bool × ℕ) = (unmarked, 20) ∷ counted in
      let output : List (Bool × ℕ) = (ltb (length c.call.out) (signature_length p), 6) ∷ leaf in
      let table = none-of-append (table_causes p (length c.call.work)) ((outside_text (length c.call.message), 16) ∷ output)
      (table-numbered p (length c.call.work)) (eqb-true _ 0 e) in
      let text = none_here (outside_text (length c.call.message)) 16 output refl table.1 in
      let room = none_here (ltb (length c.call.out) (signature_length p)) 6 leaf refl text.1 in
      let found = none_here unmarked 20 counted refl room.1 in
      let mark = not-false (mark_counts (2 ^ p.height) key.counter) found.0 in
      let within = mark-within (2 ^ p.height) key.counter mark in (
        mark,
        record {
          r = c.call.r;
          sixteen = c.sixteen;
          profile = (none-of-append (profile_causes p) ((ltb (length c.call.work) (table_length p.shape), 5) ∷ []) (profile-numbered p) table.0).0;
          text = text.0;
          in_tree = omega arith;
          large = (none_here (count_too_small (count p.shape)) 19 [] refl found.1).0;
          bytes =
              rw e
              (take_at (key_signature key c.call.r c.call.message) (drop (signature_length p) c.call.out) (signature_length p)
              (length-signature (first_domain key.seed) p key.secret (leaf_to_sign key) c.call.r (row_of p.shape n) c.sixteen));
        },
      )

  -- a call of Sign, at a key that signs with no leaf below n
  module _ (p : Profile) (seed secret : List ℕ) (n : ℕ) (from : KeyFrom p seed secret key n) where
    -- granted, it issues the marked leaf, and no leaf below the next one comes behind it
    pub sign-granted : granted ≡ true → Rises leaf_of (MadeOwn p seed secret) n (signed_by key c.call ∷ []) key.counter.next
    sign-granted e =
        let one = signed_by key c.call in
        let of = from.of in
        let known = sign-made e in
        let mark : mark_counts (2 ^ p.height) key.counter ≡ true = rw (← of.same-profile) known.0 in
        let made : Made p seed secret (leaf_to_sign key) one = rw (← of.same-profile, ← of.same_seed, ← of.same_secret) known.1 in
        let own = (made-read p seed secret (leaf_to_sign key) one made).own_leaf in
        let above = from.unsigned mark in
        (omega arith, made-own p seed secret (leaf_to_sign key) one made, omega arith)

    -- as a source of leaves
    pub sign-step : (m : ℕ) × Rises leaf_of (MadeOwn p seed secret) n (issued_by key c.call) m × KeyFrom p seed secret (key_after key c.call) m
    unfolding issued_by key_after
    sign-step = by granted refl
      where
        by : (g : Bool) → granted ≡ g → (m : ℕ) × Rises leaf_of (MadeOwn p seed secret) n (issued_by key c.call) m
            × KeyFrom p seed secret (key_after key c.call) m
        by true e = rw e (key.counter.next, sign-granted e, cleared-from p seed secret key n from.of)
        by false e = rw e (n, le_refl n, from)

-- a call of either kind, as a source of leaves
pub call_step : (p : Profile) (seed secret : List ℕ) (key : SigningKey) (n : ℕ) → KeyFrom p seed secret key n → (c : KeyCall)
    → (m : ℕ) × Rises leaf_of (MadeOwn p seed secret) n (given_by key c) m × KeyFrom p seed secret (key_handed_back key c) m
unfolding given_by key_handed_back
call_step p seed secret key n from reserve = (n, le_refl n, reserved-from p seed secret key n from)
call_step p seed secret key n from (sign c) = sign-step key c p seed secret n from
