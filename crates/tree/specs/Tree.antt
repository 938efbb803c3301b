-- Document 01, Tree: the tree over the leaf keys, the way up from a leaf and back to the root.
use Rattle.std.specs.Prelude.{List, ℕ}
use Rattle.profile.specs.declared.Profile.{Profile}
use Rattle.tweak.specs.declared.Domain.{Domain}
use Rattle.chains.specs.Leaves.{chains_of, leaf_key, recovered}
use Rattle.chains.specs.declared.Chains.{Chains}
use Rattle.merkle.specs.Nodes.{node, path, climbed}

-- "Node height 0 is the leaf keys. … The root has height h; for h = 0 it is the leaf key"
unfoldable pub root_at : Domain → Chains → (secret : List ℕ) (height : ℕ) → List ℕ
root_at d chains secret height = node d (leaf_key d chains secret) height 0

-- the root under a profile
abbrev pub root_of : Domain → Profile → (secret : List ℕ) → List ℕ
root_of d p secret = root_at d (chains_of p.shape) secret p.height

-- "h siblings from the bottom": those of a leaf, over the leaf keys
abbrev pub siblings_of : Domain → Chains → (secret : List ℕ) (height leaf : ℕ) → List ℕ
siblings_of d chains secret height leaf = path d (leaf_key d chains secret) height leaf

-- "recovered root": the climb along siblings from the leaf key that values under a row give
unfoldable pub recovered_root : Domain → Chains → (height leaf : ℕ) (row values siblings : List ℕ) → List ℕ
recovered_root d chains height leaf row values siblings = climbed d leaf (recovered d chains leaf row values) siblings height
