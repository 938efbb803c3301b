-- Document 01, Tree, over any leaves of 16 bytes: nodes, the siblings of a leaf's way up, and the climb along siblings.
use Rattle.std.specs.Prelude.{Bool, cond, List, ◌++◌, ℕ, zero, suc, ◌+◌, ◌-◌, ◌*◌, ◌/◌, ◌%◌, ◌^◌, eqb, take, drop}
use Rattle.lists.specs.Joined.{join_to}
use Rattle.tweak.specs.Tweak.{node_address, tweaked_hash}
use Rattle.tweak.specs.declared.Domain.{Domain}

-- "A node is the type 2 hash of left then right child": the node of a height and index there
unfoldable pub parent_of : Domain → (height index : ℕ) (left right : List ℕ) → List ℕ
parent_of d height index left right = tweaked_hash d (node_address d height index) (left ++ right)

-- the tree over any leaves; "its index counts from 0 at its height"
unfoldable pub node : Domain → (leaves : ℕ → List ℕ) (height index : ℕ) → List ℕ
node d leaves zero index = leaves index
node d leaves (suc k) index = parent_of d (suc k) index (node d leaves k (2 * index)) (node d leaves k (2 * index + 1))

-- left children have even indices
unfoldable pub is_left : ℕ → Bool
is_left index = eqb (index % 2) 0

-- the other child of the same node
unfoldable pub sibling : ℕ → ℕ
sibling index = cond (is_left index) (index + 1) (index - 1)

-- "h siblings from the bottom": those of the nodes from a leaf up to below the root, joined
unfoldable pub path : Domain → (leaves : ℕ → List ℕ) (h leaf : ℕ) → List ℕ
path d leaves h leaf = join_to (λ k. node d leaves k (sibling (leaf / 2 ^ k))) h

-- the node of a height above the child of an index and its sibling, "left then right"
unfoldable pub climbed_once : Domain → (height index : ℕ) (own other : List ℕ) → List ℕ
climbed_once d height index own other =
    cond (is_left index) (parent_of d height (index / 2) own other) (parent_of d height (index / 2) other own)

-- the climb from a leaf's value along siblings: what stands at the height k
unfoldable pub climbed : Domain → (leaf : ℕ) (key siblings : List ℕ) (k : ℕ) → List ℕ
climbed d leaf key siblings zero = key
climbed d leaf key siblings (suc k) =
    climbed_once d (suc k) (leaf / 2 ^ k) (climbed d leaf key siblings k) (take 16 (drop (16 * k) siblings))
