-- A signature that is made part after part: the leaf, R, the values, the siblings.
use mathlib.Core.Path.{◌≡◌, ◌∙◌}
use mathlib.Core.List.{List, ◌++◌}
use Prim.Native.Nat.{ℕ, ◌+◌, ◌*◌, ◌≤◌}
use native.Mathlib.Nat.{zero-add}
use lib.ListN.{length, take, drop, length-append}
use lib.Seq.{take_at, length-take-le, paste}
use Rattle.octets.specs.Bytes.{to_bytes}
use Rattle.octets.proofs.ByteLaws.{length-to_bytes}
use Rattle.lists.proofs.Joins.{written_behind}
use Rattle.profile.specs.declared.Profile.{Profile}
use Rattle.signature.specs.Signature.{joined_parts, signature_length}

-- the length of a front with a part more
longer : (front v : List ℕ) {m k : ℕ} → length front ≡ m → length v ≡ k → length (front ++ v) ≡ m + k
longer front v e f = length-append front v ∙ rw (e, f)

module _ (p : Profile) (leaf : ℕ) (r values siblings o : List ℕ) where
  abbrev l : ℕ
  l = p.shape.chains

  abbrev h : ℕ
  h = p.height

  pub signature-made : {o₁ o₂ o₃ o₄ : List ℕ} → length r ≡ 16 → length values ≡ 16 * l → 16 * h ≤ length siblings
      → o₁ ≡ take 0 o ++ to_bytes 4 leaf ++ drop (0 + 4) o → o₂ ≡ take 4 o₁ ++ r ++ drop (4 + 16) o₁ → o₃ ≡ take 20 o₂ ++ values ++ drop (20 + 16 * l) o₂
      → o₄ ≡ paste o₃ (20 + 16 * l) siblings (16 * h) → take (signature_length p) o₄ ≡ joined_parts leaf r values (take (16 * h) siblings)
  unfolding joined_parts signature_length
  signature-made sixteen long room e₁ e₂ e₃ e₄ =
      let first = to_bytes 4 leaf in
      let last = take (16 * h) siblings in
      let four = length-to_bytes 4 leaf in
      let twenty = longer first r four sixteen in
      let front = longer (first ++ r) values twenty long in
      let second = written_behind first r o 4 16 four (e₁ ∙ rw zero-add) e₂ in
      let third = written_behind (first ++ r) values o 20 (16 * l) twenty second e₃ in
      let whole = written_behind (first ++ r ++ values) last o (20 + 16 * l) (16 * h) front third e₄ in
      rw whole
      (take_at (first ++ r ++ values ++ last) _ (20 + 16 * l + 16 * h)
      (longer (first ++ r ++ values) last front (length-take-le (16 * h) siblings room)))
