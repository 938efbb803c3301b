-- The pending bytes with the padding are one block or two.
use mathlib.Core.Path.{◌≡◌, refl, ◌∙◌, ap, sym}
use mathlib.Core.List.{List, [], ◌∷◌, ◌++◌, append_assoc}
use Prim.Native.Nat.{ℕ, ◌+◌, ◌-◌, ◌*◌, ◌%◌, ◌<◌, ◌≤◌}
use native.Mathlib.Numerals.{add-one}
use native.Mathlib.Omega.{arith}
use lib.ListN.{length, take, set, replicate, length-append, length-replicate, replicate-append-replicate}
use lib.Seq.{length-take-le}
use Rattle.octets.specs.Bytes.{to_bytes}
use Rattle.octets.proofs.ByteLaws.{length-to_bytes}
use Rattle.lists.proofs.Fill.{take_fill, store-next}
use Rattle.sha256_block.specs.Compression.{compress}
use Rattle.sha256_block.specs.declared.compression.HashWords.{HashWords}
use Rattle.sha256.specs.Digest.{padding, compress_all}
use Rattle.sha256.proofs.Blocks.{all_append, all_one}

-- the pending bytes and the mark, in a block of zeros
abbrev pub marked : List ℕ → ℕ → List ℕ
marked pending k = pending ++ (128 ∷ []) ++ replicate (64 - (k + 1)) 0

-- the mark set behind the bytes of a block that are kept
pub mark_set : (block : List ℕ) (n : ℕ) {k : ℕ} {held : List ℕ} → length block ≡ 64 → k ≡ n % 64 → held ≡ take k block ++ replicate (64 - k) 0
    → set held k 128 ≡ marked (take (n % 64) block) (n % 64)
mark_set block n room e h =
    let long : length (take (n % 64) block) ≡ n % 64 = length-take-le (n % 64) block (omega arith) in
    rw (h, e, add-one) (store-next (take (n % 64) block) 0 128 (n % 64) 64 long (omega arith))

-- the last block: what is in front of the number of bits, and that number
abbrev pub closed : List ℕ → ℕ → List ℕ
closed front n = front ++ to_bytes 8 (8 * n)

length-closed : (front : List ℕ) (n : ℕ) → length front ≡ 56 → length (closed front n) ≡ 64
length-closed front n e = length-append front (to_bytes 8 (8 * n)) ∙ rw (length-to_bytes, e)

module _ (v : HashWords) (pending : List ℕ) (n : ℕ) (e : length pending ≡ n % 64) where
  with_mark : length (pending ++ (128 ∷ [])) ≡ n % 64 + 1
  with_mark = length-append pending (128 ∷ []) ∙ ap (λ k. k + 1) e

  -- fewer than 56 are pending: the mark and the number of bits stand in one block
  pub one_block : n % 64 < 56 → compress v (closed (take 56 (marked pending (n % 64))) n) ≡ compress_all v (pending ++ padding n)
  unfolding padding
  one_block h =
      let zeros : (119 - n % 64) % 64 ≡ 56 - (n % 64 + 1) = omega arith in
      let front : List ℕ = pending ++ (128 ∷ []) ++ replicate (56 - (n % 64 + 1)) 0 in
      let long : length front ≡ 56 = length-append (pending ++ (128 ∷ [])) (replicate (56 - (n % 64 + 1)) 0) ∙ rw (with_mark, length-replicate) (omega arith) in
      let whole : closed front n ≡ pending ++ padding n = rw zeros (simp append_assoc) in
      rw (take_fill (pending ++ (128 ∷ [])) 0 (n % 64 + 1) 56 64 with_mark (omega arith) (omega arith), ← whole)
      (sym (all_one v (closed front n) (length-closed front n long)))

  -- 56 or more are pending: the number of bits stands in a block of its own
  pub two_blocks : 56 ≤ n % 64 → compress (compress v (marked pending (n % 64))) (closed (replicate 56 0) n) ≡ compress_all v (pending ++ padding n)
  unfolding padding
  two_blocks h =
      let room : n % 64 < 64 = omega arith in
      let zeros : (119 - n % 64) % 64 ≡ 64 - (n % 64 + 1) + 56 = omega arith in
      let first : List ℕ = marked pending (n % 64) in
      let long : length first ≡ 64 = length-append (pending ++ (128 ∷ [])) (replicate (64 - (n % 64 + 1)) 0) ∙ rw (with_mark, length-replicate) (omega arith) in
      let last : List ℕ = closed (replicate 56 0) n in
      let whole : first ++ last ≡ pending ++ padding n = rw (zeros, ← replicate-append-replicate) (simp append_assoc) in
      rw (← whole) (sym (all_append v first last long ∙ all_one (compress v first) last (length-closed (replicate 56 0) n refl)))
