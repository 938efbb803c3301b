-- What an add makes of a state: refused, and granted by the two ways of the code.
use mathlib.Core.Path.{◌≡◌, ◌∙◌, ap, sym}
use mathlib.Core.List.{List, ◌++◌, append_assoc, append-nil}
use Prim.Native.Nat.{ℕ, ◌+◌, ◌-◌, ◌%◌, ◌<◌, ◌≤◌}
use native.Mathlib.Omega.{arith}
use lib.ListN.{length, take, drop, replicate, length-append, take-append-drop}
use lib.Seq.{length-take-le, take-length}
use Rattle.lists.proofs.Fill.{pasted}
use Rattle.sha256_block.specs.Compression.{compress}
use Rattle.sha256_block.specs.declared.compression.HashWords.{HashWords}
use Rattle.sha256.specs.Digest.{compress_all}
use Rattle.sha256.specs.Running.{pending, rest, extended}
use Rattle.sha256.specs.declared.running.Hash.{Hash}
use Rattle.sha256.proofs.Blocks.{all_short, all_append, rest-short, rest-append}

-- bytes copied behind the n in front of a block whose others are zero
pub copied : (l s : List ℕ) (n : ℕ) {d r : List ℕ} → length l ≡ n → n + length s ≤ 64 → d ≡ l ++ replicate (64 - n) 0
    → r ≡ take n d ++ s ++ drop (n + length s) d → r ≡ l ++ s ++ replicate (64 - (n + length s)) 0
copied l s n {d} e h p q =
    pasted l 0 s n 64 e h p (q ∙ ap (λ (m : List ℕ). take n d ++ m ++ drop (n + length s) d) (sym (take-length s)))

-- the n bytes pending
module _ (s : Hash) (bytes : List ℕ) (n : ℕ) (here : n ≡ s.total % 64) (room : length s.block ≡ 64) where
  front : pending s ≡ take n s.block
  unfolding pending
  front = ap (λ (k : ℕ). take k s.block) (sym here)

  front_long : length (pending s) ≡ n
  front_long = ap length front ∙ length-take-le n s.block (omega arith)

  -- the bytes leave the block short
  within_block : (block : List ℕ) → n + length bytes < 64 → block ≡ pending s ++ bytes ++ replicate (64 - (n + length bytes)) 0
      → record { words = s.words; block = block; total = s.total + length bytes } ≡ extended s bytes
  unfolding extended
  within_block block h q =
      let long : length (pending s ++ bytes) ≡ n + length bytes = length-append (pending s) bytes ∙ ap (λ k. k + length bytes) front_long in
      let words = all_short s.words (pending s ++ bytes) (omega arith) in
      let left = rest-short (pending s ++ bytes) (omega arith) in
      rw (words, left, q, long)

  -- the bytes fill the block, and go on behind it
  past_block : (first : List ℕ) → 64 ≤ n + length bytes → first ≡ pending s ++ take (64 - n) bytes
      → record {
        words = compress_all (compress s.words first) (drop (64 - n) bytes);
        block = rest (drop (64 - n) bytes);
        total =
            s.total + length bytes;
      } ≡ extended s bytes
  unfolding extended
  past_block first h q =
      let more = drop (64 - n) bytes in
      let whole : first ++ more ≡ pending s ++ bytes = rw (q, append_assoc, take-append-drop) in
      let long : length first ≡ 64 = rw q (length-append (pending s) (take (64 - n) bytes) ∙ rw (front_long, length-take-le (64 - n) bytes (omega arith)) (omega arith)) in
      rw (← whole, all_append s.words first more long, rest-append first more long)

  -- what is kept of the block is pending
  held_front : {held : List ℕ} → held ≡ take n s.block ++ replicate (64 - n) 0 → held ≡ pending s ++ replicate (64 - n) 0
  held_front k = k ∙ ap (λ (l : List ℕ). l ++ replicate (64 - n) 0) (sym front)

  -- the block that the code makes in the first case
  pub within-made : {held block : List ℕ} → length bytes < 64 - n → held ≡ take n s.block ++ replicate (64 - n) 0
      → block ≡ take n held ++ bytes ++ drop (n + length bytes) held
      → record { words = s.words; block = block; total = s.total + length bytes } ≡ extended s bytes
  within-made {held} {block} h k p = within_block block (omega arith) (copied (pending s) bytes n front_long (omega arith) (held_front k) p)

  -- and the state that it makes in the second
  pub past-made : {held first more block : List ℕ} {v w : HashWords} → 64 - n ≤ length bytes → held ≡ take n s.block ++ replicate (64 - n) 0
      → first ≡ take n held ++ take (64 - n) bytes ++ drop (n + length (take (64 - n) bytes)) held
      → v ≡ compress s.words first → more ≡ drop (64 - n) bytes → w ≡ compress_all v more → block ≡ rest more
      → record { words = w; block = block; total = s.total + length bytes } ≡ extended s bytes
  past-made {held} {first} h k p ev em ew eb =
      let filler = take (64 - n) bytes in
      let long = length-take-le (64 - n) bytes h in
      let none : 64 - (n + length filler) ≡ 0 = omega (arith, long) in
      let whole : first ≡ pending s ++ filler =
      copied (pending s) filler n front_long (omega (arith, long)) (held_front k) p ∙ rw none (append-nil (pending s ++ filler)) in
      rw (ew, ev, eb, em) (past_block first (omega arith) whole)
