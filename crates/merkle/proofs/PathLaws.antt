-- The siblings on the way up, written one after another into a slice.
use mathlib.Core.Path.{◌≡◌, refl, ◌∙◌}
use mathlib.Core.List.{List, ◌++◌}
use Prim.Native.Nat.{ℕ, ◌+◌, ◌*◌, ◌/◌, ◌^◌, ◌≤◌, ◌<◌}
use native.Mathlib.Nat.{zero-add}
use native.Mathlib.Omega.{arith}
use lib.ListN.{length, take, drop}
use Rattle.lists.specs.Joined.{join_to}
use Rattle.lists.proofs.Joins.{write_next}
use Rattle.tweak.specs.declared.Domain.{Domain}
use Rattle.merkle.specs.Nodes.{node, sibling, path}
use Rattle.merkle.proofs.NodeLaws.{length-node}

module _ (d : Domain) (leaves : ℕ → List ℕ) (leaf : ℕ) (o : List ℕ) where
  -- before the first turn
  pub path-start : o ≡ path d leaves 0 leaf ++ drop (16 * 0) o
  unfolding path join_to
  path-start = refl

  -- a turn
  pub path-next : ((i : ℕ) → length (leaves i) ≡ 16) → (h k index : ℕ) {i : ℕ} {v out out' : List ℕ} → 16 * h ≤ length o → k < h
      → index ≡ leaf / 2 ^ k → i ≡ sibling index → v ≡ node d leaves k i → out ≡ path d leaves k leaf ++ drop (16 * k) o
      → out' ≡ take (16 * k) out ++ v ++ drop (16 * k + 16) out → out' ≡ path d leaves (k + 1) leaf ++ drop (16 * (k + 1)) o
  unfolding path
  path-next each h k index {v = v} {out = out} {out' = out'} fits low p q s e put =
      let f : ℕ → List ℕ = λ j. node d leaves j (sibling (leaf / 2 ^ j)) in
      let here : v ≡ f k = s ∙ rw (q, p) in
      let long : (j : ℕ) → j < h → length (f j) ≡ 16 = λ j _. length-node d leaves each j (sibling (leaf / 2 ^ j)) in
      rw zero-add at
      (write_next f 16 h long 0 o (omega arith) k {v = v} {out = out} {out' = out'} low here (rw zero-add e) (rw zero-add put))
