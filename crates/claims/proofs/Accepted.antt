-- A made signature of a leaf is accepted by every cabinet of that profile, public seed and root that does not call the leaf passed.
use mathlib.Core.Path.{◌≡◌, ◌∙◌}
use mathlib.Core.List.{List, [], ◌∷◌}
use Prim.Native.Nat.{ℕ, ◌-◌, ◌*◌, ◌≤◌, ◌<◌}
use borrow.Author.Tests.{le-ltb, eq-eqb}
use lib.Dec.{ltb}
use lib.ListN.{length}
use Rattle.refusal.specs.Code.{first_cause}
use Rattle.refusal.proofs.Causes.{cause_passed, none_then}
use Rattle.profile.specs.Checks.{profile_causes}
use Rattle.profile.specs.declared.Profile.{Profile}
use Rattle.profile.proofs.Limits.{profile-numbered}
use Rattle.counts.specs.Counts.{count}
use Rattle.counts.specs.Table.{table_length, table_causes}
use Rattle.counts.proofs.Room.{table-numbered}
use Rattle.codewords.specs.Operations.{row_of}
use Rattle.codewords.proofs.RowLaws.{row_valid}
use Rattle.tweak.specs.Tweak.{first_domain}
use Rattle.tweak.specs.declared.Domain.{Domain}
use Rattle.chains.specs.Leaves.{chains_of, revealed}
use Rattle.one_time.specs.Operations.{steps_of}
use Rattle.one_time.proofs.RecoverLaws.{steps-below}
use Rattle.tree.specs.Tree.{root_of, siblings_of}
use Rattle.tree.proofs.WayLaws.{recovers-root}
use Rattle.signature.specs.Signature.{signature_length}
use Rattle.signature.proofs.Parts.{Parts}
use Rattle.verifier.specs.Verifying.{with_accepted, number_in, root_along, root_in}
use Rattle.verifier.specs.Operations.{causes_before_root, verify_code, verifier_after, steps_made}
use Rattle.verifier.specs.declared.Verifier.{Verifier}
use Rattle.claims.specs.Orders.{Issued, own_check}
use Rattle.claims.proofs.Judged.{judged-by-root}
use Rattle.claims.proofs.LeafLaws.{leaf_inside, Free, CabinetOf}
use Rattle.claims.proofs.Made.{number_of, Made, made-below, made-read}

-- a profile that passes its checks, and a work slice that is long enough
pub table_none : (p : Profile) (words : ℕ) → first_cause (profile_causes p) ≡ 0 → table_length p.shape ≤ words → first_cause (table_causes p words) ≡ 0
unfolding table_causes
table_none p words none long =
    none_then (profile_causes p) ((ltb words (table_length p.shape), 5) ∷ []) none (profile-numbered p)
    ∙ cause_passed (ltb words (table_length p.shape)) 5 [] (le-ltb words (table_length p.shape) long)

module _ (p : Profile) (seed secret : List ℕ) (leaf : ℕ) (one : Issued) (made : Made p seed secret leaf one)
    (v : Verifier) (of : CabinetOf p seed (root_of (first_domain seed) p secret) v) where
  abbrev d : Domain
  d = first_domain seed

  abbrev n : ℕ
  n = number_of p seed secret leaf made.r one.message

  back : Parts p leaf made.r (revealed d (chains_of p.shape) secret leaf (row_of p.shape n))
      (siblings_of d (chains_of p.shape) secret p.height leaf) one.signature
  back = made-read p seed secret leaf one made

  below : n < count p.shape
  below = made-below p seed secret leaf one made

  made-number : number_in v one.message one.signature ≡ n
  unfolding number_in
  made-number = rw (back.own_leaf, back.own_random, of.same-profile, of.same_seed, of.same-root)

  made-root : root_in v one.message one.signature ≡ v.root
  unfolding root_along
  made-root =
      rw (back.own_leaf, made-number, of.same-profile, of.same_seed, of.same-root, back.own-values, back.own-siblings)
      (recovers-root d (chains_of p.shape) secret p.height leaf (row_of p.shape n) made.in_tree (row_valid p.shape n below).lengths.digits)

  module _ (work : List ℕ) (free : Free v leaf) (long : table_length p.shape ≤ length work) where
    before : first_cause (causes_before_root v (own_check one work)) ≡ 0
    unfolding causes_before_root
    before =
        rw (back.own_leaf, free, of.same-profile)
        (none_then (table_causes p (length work)) _ (table_none p (length work) made.profile long) (table-numbered p (length work))
        ∙ rw (
          made.text,
          eq-eqb (length one.signature) (signature_length p) back.size,
          leaf_inside p.height leaf made.in_tree,
          made.large,
        ))

    -- what a check of it answers
    pub record MadeAccepted : Type 0 where
      pub accepted : verify_code v (own_check one work) ≡ 0
      pub steps : steps_made v (own_check one work) ≡ p.shape.chains * (p.shape.width - 1) - p.shape.sum
      pub after : verifier_after v (own_check one work) ≡ with_accepted v leaf

    pub made-accepted : MadeAccepted
    unfolding verifier_after steps_made steps_of
    made-accepted =
        let accepted = (judged-by-root v (own_check one work) before).1 made-root in
        record {
          accepted = accepted;
          steps = rw (accepted, made-number, of.same-profile) (steps-below p.shape n below);
          after = rw (accepted, back.own_leaf);
        }
