-- How long a signature is, and its parts.
use mathlib.Core.Path.{◌≡◌}
use mathlib.Core.List.{List}
use Prim.Native.Nat.{ℕ, ◌*◌, ◌^◌, ◌<◌}
use lib.ListN.{length}
use Rattle.profile.specs.declared.Profile.{Profile}
use Rattle.signature.specs.Signature.{signature_length}
use Rattle.signature.proofs.Parts.{Parts, length-joined, joined_parts_lem}
use Rattle.tweak.specs.declared.Domain.{Domain}
use Rattle.chains.specs.Leaves.{chains_of, revealed}
use Rattle.chains.specs.declared.Chains.{Chains}
use Rattle.chains.proofs.LeafRecover.{length-revealed}
use Rattle.tree.specs.Tree.{siblings_of}
use Rattle.tree.proofs.WayLaws.{length-siblings}
use Rattle.signer.specs.Signing.{signature_of}

module _ (d : Domain) (p : Profile) (secret : List ℕ) (leaf : ℕ) (r row : List ℕ) (sixteen : length r ≡ 16) where
  abbrev chains : Chains
  chains = chains_of p.shape

  abbrev values : List ℕ
  values = revealed d chains secret leaf row

  abbrev siblings : List ℕ
  siblings = siblings_of d chains secret p.height leaf

  all-values : length values ≡ 16 * p.shape.chains
  all-values = length-revealed d chains secret leaf row

  all-siblings : length siblings ≡ 16 * p.height
  all-siblings = length-siblings d chains secret p.height leaf

  pub length-signature : length (signature_of d p secret leaf r row) ≡ signature_length p
  unfolding signature_of
  length-signature = length-joined p leaf r values siblings sixteen all-values all-siblings

  -- its parts are those that it was made of
  pub signature_parts : leaf < 2 ^ 32 → Parts p leaf r values siblings (signature_of d p secret leaf r row)
  unfolding signature_of
  signature_parts = joined_parts_lem p leaf r values siblings sixteen all-values all-siblings
