-- The climb from a leaf along the leaf's own siblings passes the nodes above the leaf and ends at the root.
use mathlib.Core.Path.{◌≡◌, refl, sym, ap, ◌∙◌}
use mathlib.Core.Bool.{Bool, true, false, cond}
use mathlib.Core.Logic.{◌≢◌}
use mathlib.Core.List.{List, [], ◌++◌, append-nil}
use Prim.Native.Nat.{ℕ, zero, suc, ◌+◌, ◌-◌, ◌*◌, ◌/◌, ◌%◌, ◌^◌, ◌<◌, ◌≤◌}
use native.Mathlib.Nat.{div-one, div-eq_of_lt}
use native.Mathlib.Numerals.{add-one}
use native.Mathlib.Omega.{arith}
use borrow.Author.Tests.{eqb-true, eqb-false}
use lib.Dec.{eqb}
use lib.ListN.{length, take, drop}
use Rattle.lists.proofs.Joins.{length-join_to, part-join_to}
use Rattle.tweak.specs.declared.Domain.{Domain}
use Rattle.merkle.specs.Nodes.{parent_of, node, is_left, sibling, path, climbed_once, climbed}
use Rattle.merkle.proofs.Indices.{half_place}
use Rattle.merkle.proofs.NodeLaws.{length-node}

-- a node and its sibling are the two children of the node above
both_children : (d : Domain) (height : ℕ) (f : ℕ → List ℕ) (j : ℕ)
    → climbed_once d height j (f j) (f (sibling j)) ≡ parent_of d height (j / 2) (f (2 * (j / 2))) (f (2 * (j / 2) + 1))
unfolding climbed_once sibling is_left
both_children d height f j = by (eqb (j % 2) 0) refl
  where
    above : (left right : List ℕ) → List ℕ
    above = parent_of d height (j / 2)

    by : (left : Bool) → eqb (j % 2) 0 ≡ left
        → cond left (above (f j) (f (cond left (j + 1) (j - 1)))) (above (f (cond left (j + 1) (j - 1))) (f j))
        ≡ above (f (2 * (j / 2))) (f (2 * (j / 2) + 1))
    by true e = let even : 2 * (j / 2) ≡ j = omega (arith, eqb-true (j % 2) 0 e) in rw even
    by false e =
        let odd : j % 2 ≢ 0 = eqb-false (j % 2) 0 e in
        let own : 2 * (j / 2) + 1 ≡ j = omega arith in
        let other : j - 1 ≡ 2 * (j / 2) = omega arith in
        rw (own, other)

-- a tree over leaves of 16 bytes
module _ (d : Domain) (leaves : ℕ → List ℕ) (each : (i : ℕ) → length (leaves i) ≡ 16) where
  -- the sibling at a height on the way up from a leaf
  abbrev sibling_at : (leaf k : ℕ) → List ℕ
  sibling_at leaf k = node d leaves k (sibling (leaf / 2 ^ k))

  length-sibling_at : (leaf k : ℕ) → length (sibling_at leaf k) ≡ 16
  length-sibling_at leaf k = length-node d leaves each k (sibling (leaf / 2 ^ k))

  pub length-path : (h leaf : ℕ) → length (path d leaves h leaf) ≡ 16 * h
  unfolding path
  length-path h leaf = length-join_to (sibling_at leaf) 16 h (λ k _. length-sibling_at leaf k)

  -- where it stands
  path-part : (h leaf k : ℕ) (more : List ℕ) → k < h → take 16 (drop (16 * k) (path d leaves h leaf ++ more)) ≡ sibling_at leaf k
  unfolding path
  path-part h leaf k more low = part-join_to (sibling_at leaf) 16 h (λ k _. length-sibling_at leaf k) k more low

  module _ (h leaf : ℕ) (more : List ℕ) where
    abbrev climbed_to : ℕ → List ℕ
    climbed_to k = climbed d leaf (leaves leaf) (path d leaves h leaf ++ more) k

    climbed-node : (k : ℕ) → k ≤ h → climbed_to k ≡ node d leaves k (leaf / 2 ^ k)
    unfolding climbed node
    climbed-node zero low = ap leaves (sym (div-one leaf))
    climbed-node (suc k) low =
        rw (climbed-node k (omega arith), path-part h leaf k more (omega arith), ← add-one k, ← half_place leaf k, add-one k)
        (both_children d (suc k) (node d leaves k) (leaf / 2 ^ k))

    pub climbed-root : leaf < 2 ^ h → climbed_to h ≡ node d leaves h 0
    climbed-root low = climbed-node h (omega arith) ∙ ap (node d leaves h) (div-eq_of_lt low)

  -- along the siblings with nothing behind them
  pub climbed-path : (h leaf : ℕ) → leaf < 2 ^ h → climbed d leaf (leaves leaf) (path d leaves h leaf) h ≡ node d leaves h 0
  climbed-path h leaf low = rw append-nil at (climbed-root h leaf [] low)
