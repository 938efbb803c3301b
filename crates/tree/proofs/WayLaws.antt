-- The way up from a leaf: its siblings in front of other bytes, the root that the climb along them ends at, and the root recovered from what was revealed.
use mathlib.Core.Path.{◌≡◌, ◌∙◌}
use mathlib.Core.List.{List, ◌++◌}
use Prim.Native.Nat.{ℕ, ◌*◌, ◌^◌, ◌<◌}
use native.Mathlib.Omega.{arith}
use lib.ListN.{length, get_or, take}
use lib.Seq.{take_at}
use Rattle.tweak.specs.declared.Domain.{Domain}
use Rattle.chains.specs.Leaves.{revealed, leaf_key}
use Rattle.chains.specs.declared.Chains.{Chains}
use Rattle.chains.proofs.LeafLaws.{length_leaf_key}
use Rattle.chains.proofs.LeafRecover.{recovered-revealed}
use Rattle.merkle.specs.Nodes.{climbed}
use Rattle.merkle.proofs.ClimbLaws.{length-path, climbed-root, climbed-path}
use Rattle.tree.specs.Tree.{root_at, siblings_of, recovered_root}

module _ (d : Domain) (chains : Chains) (secret : List ℕ) (height leaf : ℕ) where
  abbrev leaves : ℕ → List ℕ
  leaves = leaf_key d chains secret

  each : (i : ℕ) → length (leaves i) ≡ 16
  each = length_leaf_key d chains secret

  abbrev siblings : List ℕ
  siblings = siblings_of d chains secret height leaf

  pub length-siblings : length siblings ≡ 16 * height
  length-siblings = length-path d leaves each height leaf

  module _ (more : List ℕ) {s : List ℕ} where
    pub way_siblings : s ≡ siblings ++ more → take (16 * height) s ≡ siblings
    way_siblings e = rw e (take_at siblings more (16 * height) length-siblings)

    pub way_root : {k root : List ℕ} → leaf < 2 ^ height → s ≡ siblings ++ more → k ≡ leaves leaf → root ≡ climbed d leaf k s height
        → root ≡ root_at d chains secret height
    unfolding root_at
    way_root low e o r = r ∙ rw (e, o) (climbed-root d leaves each height leaf more low)

  -- the climb along a leaf's own siblings ends at the root
  pub climbs : leaf < 2 ^ height → climbed d leaf (leaves leaf) siblings height ≡ root_at d chains secret height
  unfolding root_at
  climbs = climbed-path d leaves each height leaf

  -- the root recovered from the values that a row shows and the leaf's own siblings is the root
  pub recovers-root : (row : List ℕ) → leaf < 2 ^ height → ((c : ℕ) → c < chains.count → get_or row c 0 < chains.width)
      → recovered_root d chains height leaf row (revealed d chains secret leaf row) siblings ≡ root_at d chains secret height
  unfolding recovered_root
  recovers-root row low lengths = rw (recovered-revealed d chains secret leaf row (λ c h. omega (arith, lengths c h))) (climbs low)
