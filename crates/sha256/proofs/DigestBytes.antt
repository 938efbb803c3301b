-- A digest is 32 bytes, and how its words are put into them.
use mathlib.Core.Path.{◌≡◌, refl, ap, ◌∙◌}
use mathlib.Core.List.{List, [], ◌∷◌, ◌++◌}
use Prim.Native.Nat.{ℕ, ◌+◌, ◌*◌, ◌<◌}
use native.Mathlib.Nat.{zero-add}
use native.Mathlib.Omega.{arith}
use lib.ListN.{length, get_or, take, drop, replicate, length-append}
use Rattle.octets.specs.Bytes.{to_bytes}
use Rattle.octets.proofs.ByteLaws.{length-to_bytes, to_bytes_lt}
use Rattle.lists.specs.Joined.{join_to}
use Rattle.lists.proofs.Joins.{write_next}
use Rattle.lists.proofs.Lists.{Below, below-append}
use Rattle.sha256_block.specs.declared.compression.HashWords.{HashWords}
use Rattle.sha256.specs.Digest.{final_words, word_bytes, digest}

pub length-digest : (bytes : List ℕ) → length (digest bytes) ≡ 32
unfolding digest word_bytes
length-digest bytes = simp (length-append, length-to_bytes)

pub digest-below : (bytes : List ℕ) → Below 256 (digest bytes)
unfolding digest word_bytes
digest-below bytes =
    let v : HashWords = final_words bytes in
    more v.a _ (more v.b _ (more v.c _ (more v.d _ (more v.e _ (more v.f _ (more v.g _ (to_bytes_lt 4 v.h)))))))
  where
    more : (x : ℕ) (l : List ℕ) → Below 256 l → Below 256 (to_bytes 4 x ++ l)
    more x l below = below-append 256 (to_bytes 4 x) l (to_bytes_lt 4 x) below

-- the words of a hash value put one behind the other into 32 bytes: the bytes of a word, a word more, and all of them
abbrev pub word_in : HashWords → ℕ → List ℕ
word_in v j = to_bytes 4 (get_or (v.a ∷ v.b ∷ v.c ∷ v.d ∷ v.e ∷ v.f ∷ v.g ∷ v.h ∷ []) j 0)

pub word_put : (v : HashWords) (k : ℕ) {word out out' : List ℕ} → k < 8 → word ≡ word_in v k
    → out ≡ join_to (word_in v) k ++ drop (4 * k) (replicate 32 0)
    → out' ≡ take (4 * k) out ++ word ++ drop (4 * k + length word) out → out' ≡ join_to (word_in v) (k + 1) ++ drop (4 * (k + 1)) (replicate 32 0)
word_put v k {word} {out} {out'} low e before put =
    let long : length word ≡ 4 = ap length e ∙ length-to_bytes 4 _ in
    let each : (j : ℕ) → j < 8 → length (word_in v j) ≡ 4 = λ j _. length-to_bytes 4 _ in
    rw zero-add at
    (write_next (word_in v) 4 8 each 0 (replicate 32 0) (omega arith) k {v = word} {out = out} {out' = out'} low e (rw zero-add before)
    (rw zero-add (rw long at put)))

pub words_put : (v : HashWords) → join_to (word_in v) 8 ++ drop (4 * 8) (replicate 32 0) ≡ word_bytes v
unfolding join_to to_bytes word_bytes
words_put v = refl
