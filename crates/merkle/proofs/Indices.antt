-- Indices of nodes: of the children of a node, of a sibling, and on the way up from a leaf.
use mathlib.Core.Path.{◌≡◌, refl}
use mathlib.Core.Bool.{Bool, true, false, cond}
use Prim.Native.Nat.{ℕ, suc, ◌+◌, ◌-◌, ◌*◌, ◌/◌, ◌%◌, ◌^◌, ◌≤◌, ◌<◌}
use native.Mathlib.Nat.{pow-succ', lt_of_lt_of_le}
use native.Mathlib.Omega.{arith}
use borrow.Author.Tests.{eqb-true, eq-eqb, ne_eqb}
use lib.Pow.{pow_mono, shr_lt, shr-shr}
use Rattle.merkle.specs.Nodes.{is_left, sibling}

-- a node's index is below 2 ^ 31 at every height
pub index_small : (height : ℕ) {index : ℕ} → index < 2 ^ (31 - height) → index < 2 ^ 31
index_small height h = lt_of_lt_of_le h (pow_mono {j = 31} (omega arith))

-- the right child's index is within the children's height
pub child_within : (height : ℕ) {index : ℕ} → 1 ≤ height → height ≤ 31 → index < 2 ^ (31 - height) → 2 * index + 1 < 2 ^ (31 - (height - 1))
child_within height some h within =
    let below : 31 - (height - 1) ≡ suc (31 - height) = omega arith in
    rw (below, pow-succ') (omega arith)

pub left_even : (index : ℕ) → index % 2 ≡ 0 → is_left index ≡ true
unfolding is_left
left_even index e = eq-eqb (index % 2) 0 e

pub right_odd : (index : ℕ) → (index % 2 ≡ 0 → ⊥) → is_left index ≡ false
unfolding is_left
right_odd index e = ne_eqb (index % 2) 0 e

-- two siblings are below the same even number
sibling-within : (m index : ℕ) → index < 2 * m → sibling index < 2 * m
unfolding sibling is_left
sibling-within m index h = by (is_left index) refl
  where
    by : (left : Bool) → is_left index ≡ left → cond left (index + 1) (index - 1) < 2 * m
    by true e = omega (arith, eqb-true (index % 2) 0 e)
    by false e = omega arith

-- one height up
pub half_place : (leaf k : ℕ) → leaf / 2 ^ k / 2 ≡ leaf / 2 ^ (k + 1)
half_place leaf k = shr-shr leaf k 1

module _ (leaf h k : ℕ) (low : h ≤ 31) (in_tree : leaf < 2 ^ h) (below : k < h) where
  -- the node above a leaf
  pub place-within : leaf / 2 ^ k < 2 ^ (31 - k)
  place-within =
      let all : 31 - k + k ≡ 31 = omega arith in
      shr_lt (31 - k) k (rw all (lt_of_lt_of_le in_tree (pow_mono {j = 31} (omega arith))))

  -- its sibling
  pub sibling-place-within : sibling (leaf / 2 ^ k) < 2 ^ (31 - k)
  sibling-place-within =
      let even : 2 ^ (31 - k) ≡ 2 * 2 ^ (30 - k) = let one : 31 - k ≡ suc (30 - k) = omega arith in rw (one, pow-succ') in
      rw even (sibling-within (2 ^ (30 - k)) (leaf / 2 ^ k) (rw even at place-within))
