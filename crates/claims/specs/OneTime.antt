-- What the definitions of the operations give together: Reveal and Recover, and a leaf's siblings and the root. Both hold in every domain,
-- which has a public
-- seed, a layer and a tree; document 01 has layer and tree zero.
use Rattle.std.specs.Prelude.{◌≡◌, List, ℕ, ◌-◌, ◌*◌, ◌^◌, ◌<◌}
use Rattle.profile.specs.declared.Profile.{Profile}
use Rattle.counts.specs.Counts.{count}
use Rattle.tweak.specs.declared.Domain.{Domain}
use Rattle.chains.specs.Leaves.{leaf_key_of}
use Rattle.one_time.specs.Operations.{revealed_by, recovered_by, steps_of}
use Rattle.merkle.specs.Nodes.{path, climbed}
use Rattle.tree.specs.Tree.{root_of}

-- "The checker steps on to w − 1, l × (w − 1) − s steps in all": what Recover finds of the values that Reveal shows, for the same number
-- and leaf
abbrev pub RecoversRevealed : Type 0
RecoversRevealed =
    (d : Domain) (p : Profile) (secret : List ℕ) (leaf n : ℕ) → n < count p.shape
    → (recovered_by d p leaf n (revealed_by d p secret leaf n) ≡ leaf_key_of d p secret leaf)
    × (steps_of p.shape n ≡ p.shape.chains * (p.shape.width - 1) - p.shape.sum)

-- "h siblings from the bottom": the climb along a leaf's own siblings ends at the root
abbrev pub ClimbsToRoot : Type 0
ClimbsToRoot =
    (d : Domain) (p : Profile) (secret : List ℕ) (leaf : ℕ) → leaf < 2 ^ p.height
    → climbed d leaf (leaf_key_of d p secret leaf) (path d (leaf_key_of d p secret) p.height leaf) p.height ≡ root_of d p secret
