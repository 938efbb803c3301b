-- Nodes over any leaves: their length, a node from its children, and a step of the climb to the node above.
use mathlib.Core.Path.{◌≡◌, ◌∙◌}
use mathlib.Core.List.{List, ◌++◌, append_assoc}
use Prim.Native.Nat.{ℕ, zero, suc, ◌+◌, ◌-◌, ◌*◌, ◌/◌, ◌%◌, ◌^◌, ◌≤◌}
use native.Mathlib.Numerals.{add-one}
use native.Mathlib.Omega.{arith}
use lib.ListN.{length, take, drop, length-append}
use Rattle.sha256.specs.Digest.{word_bytes}
use Rattle.sha256.specs.Running.{add_state, finished, hashed}
use Rattle.sha256.specs.declared.running.Hash.{Hash}
use Rattle.sha256.proofs.Joined.{more-taken}
use Rattle.tweak.specs.Tweak.{node_address, seed_block}
use Rattle.tweak.specs.declared.Domain.{Domain}
use Rattle.tweak.proofs.TweakLaws.{length-address, length_seed_block, length_tweaked, tweak_ended}
use Rattle.merkle.specs.Nodes.{parent_of, node, climbed_once, climbed}
use Rattle.merkle.proofs.Indices.{left_even, right_odd}

module _ (d : Domain) (leaves : ℕ → List ℕ) where
  pub length-node : ((i : ℕ) → length (leaves i) ≡ 16) → (height index : ℕ) → length (node d leaves height index) ≡ 16
  unfolding node parent_of
  length-node each zero index = each index
  length-node each (suc k) index = length_tweaked d _ _

  -- at the height 0 stand the leaves
  pub node_leaf : (height index : ℕ) {r : List ℕ} → height ≡ 0 → r ≡ leaves index → r ≡ node d leaves height index
  unfolding node
  node_leaf height index low e = e ∙ rw low

  -- above it, the hash of the two children
  pub node-above : (height index : ℕ) {left right r : List ℕ} → 1 ≤ height → left ≡ node d leaves (height - 1) (2 * index)
      → right ≡ node d leaves (height - 1) (2 * index + 1) → r ≡ parent_of d height index left right → r ≡ node d leaves height index
  unfolding node
  node-above zero index some p q e = absurd (omega arith)
  node-above (suc k) index some p q e = let below : suc k - 1 ≡ k = omega arith in e ∙ rw (p, q, below)

-- the running hash takes the two children one after the other
pub children_taken : (d : Domain) (height index : ℕ) (left right : List ℕ) {a : List ℕ} {s₀ s₁ s₂ : Hash} {r : List ℕ}
    → length d.seed ≡ 16 → length left ≡ 16 → length right ≡ 16 → a ≡ node_address d height index
    → s₀ ≡ hashed (seed_block d.seed ++ a) → s₁ ≡ add_state s₀ left → s₂ ≡ add_state s₁ right → r ≡ take 16 (word_bytes (finished s₂).words)
    → r ≡ parent_of d height index left right
unfolding parent_of
children_taken d height index left right long long-left long-right made e₀ e₁ e₂ ended =
    let address = node_address d height index in
    let front = seed_block d.seed ++ address in
    let size : length front ≡ 86 = length-append (seed_block d.seed) address ∙ rw (length_seed_block d.seed long, length-address d 2 0 height index) in
    let one = more-taken front left (omega arith) (rw made at e₀) e₁ in
    let two = more-taken (front ++ left) right (omega (arith, length-append front left)) one e₂ in
    tweak_ended d address (left ++ right) (two ∙ rw (append_assoc front left right)) ended

module _ (d : Domain) (height index : ℕ) (own other : List ℕ) where
  -- from a left child and its sibling, and from a right child and its sibling
  pub left-climbed : {r : List ℕ} → index % 2 ≡ 0 → r ≡ parent_of d height (index / 2) own other → r ≡ climbed_once d height index own other
  unfolding climbed_once
  left-climbed even e = e ∙ rw (left_even index even)

  pub right-climbed : {r : List ℕ} → (index % 2 ≡ 0 → ⊥) → r ≡ parent_of d height (index / 2) other own → r ≡ climbed_once d height index own other
  unfolding climbed_once
  right-climbed odd e = e ∙ rw (right_odd index odd)

-- one height further on the climb
pub climbed-next : (d : Domain) (leaf : ℕ) (key siblings : List ℕ) (k index : ℕ) {value other next : List ℕ} → index ≡ leaf / 2 ^ k
    → value ≡ climbed d leaf key siblings k → other ≡ take 16 (drop (16 * k) siblings)
    → next ≡ climbed_once d (k + 1) index value other → next ≡ climbed d leaf key siblings (k + 1)
unfolding climbed
climbed-next d leaf key siblings k index i p o q = q ∙ rw (i, p, o, add-one)
