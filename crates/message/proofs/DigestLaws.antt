-- The running hash on the way to a message's digest, and the number that four words of a digest are.
use mathlib.Core.Path.{◌≡◌, refl, ◌∙◌, ap}
use mathlib.Core.Bool.{Bool, true, false, cond}
use mathlib.Core.List.{List, [], ◌∷◌, ◌++◌}
use Prim.Native.Nat.{ℕ, ◌+◌, ◌*◌, ◌^◌, ◌≤◌}
use native.Mathlib.Omega.{arith}
use lib.Dec.{eqb}
use lib.ListN.{length, take, drop, length-append, length-drop}
use lib.Seq.{length-take-le, take-add, take_all}
use Rattle.octets.specs.Bytes.{from_bytes, to_bytes}
use Rattle.numbers.specs.Number.{value}
use Rattle.octets.proofs.ByteLaws.{from-append, length-to_bytes}
use Rattle.sha256.specs.Digest.{word_bytes, digest}
use Rattle.sha256.specs.Running.{started, add_state, finished, hashed}
use Rattle.sha256.specs.declared.running.Hash.{Hash}
use Rattle.sha256.proofs.Joined.{started-hashed, finished-hashed, more-taken}
use Rattle.message.specs.Message.{leaf_part}

-- start, and five adds
pub all-taken : (r seed root leaf message : List ℕ) {s₀ s₁ s₂ s₃ s₄ s₅ : Hash}
    → length r ≤ 200 → length seed ≤ 200 → length root ≤ 200 → length leaf ≤ 200 → length message ≤ 200
    → s₀ ≡ started → s₁ ≡ add_state s₀ r → s₂ ≡ add_state s₁ seed → s₃ ≡ add_state s₂ root → s₄ ≡ add_state s₃ leaf → s₅ ≡ add_state s₄ message
    → s₅ ≡ hashed (r ++ seed ++ root ++ leaf ++ message)
all-taken r seed root leaf message short-r short-seed short-root short-leaf short e₀ e₁ e₂ e₃ e₄ e₅ =
    let two = length-append r seed in
    let three = length-append (r ++ seed) root in
    let first = more-taken [] r (omega arith) (e₀ ∙ started-hashed) e₁ in
    let second = more-taken r seed (omega arith) first e₂ in
    let third = more-taken (r ++ seed) root (omega arith) second e₃ in
    let fourth = more-taken (r ++ seed ++ root) leaf (omega arith) third e₄ in
    more-taken (r ++ seed ++ root ++ leaf) message (omega (arith, length-append (r ++ seed ++ root) leaf)) fourth e₅

-- the digest, once the hash is finished
pub digest-made : (bytes : List ℕ) {s : Hash} {d : List ℕ} → s ≡ hashed bytes → d ≡ word_bytes (finished s).words → d ≡ digest bytes
unfolding digest
digest-made bytes e f = f ∙ rw e (ap word_bytes (finished-hashed bytes))

-- what an edition takes of the leaf's bytes
pub part-taken : (edition leaf : ℕ) → take (cond (eqb edition 2) 4 0) (to_bytes 4 leaf) ≡ leaf_part edition leaf
unfolding leaf_part
part-taken edition leaf = by (eqb edition 2)
  where
    by : (second : Bool) → take (cond second 4 0) (to_bytes 4 leaf) ≡ cond second (to_bytes 4 leaf) []
    by true = take_all 4 (to_bytes 4 leaf) (omega (arith, length-to_bytes 4 leaf))
    by false = refl

-- four bytes more
from-word : (l : List ℕ) (n : ℕ) → n + 4 ≤ length l → from_bytes (take (n + 4) l) ≡ from_bytes (take n l) * 2 ^ 32 + from_bytes (take 4 (drop n l))
from-word l n h =
    let long : length (take 4 (drop n l)) ≡ 4 = length-take-le 4 (drop n l) (omega (arith, length-drop n l)) in
    ap from_bytes (take-add n 4 l) ∙ from-append (take n l) (take 4 (drop n l)) ∙ rw long

-- the first 16 bytes, as words
pub number-of-words : (l : List ℕ) → 16 ≤ length l
    → value (from_bytes (take 4 (drop 12 l)) ∷ from_bytes (take 4 (drop 8 l)) ∷ from_bytes (take 4 (drop 4 l)) ∷ from_bytes (take 4 (drop 0 l)) ∷ 0 ∷ [])
    ≡ from_bytes (take 16 l)
unfolding value
number-of-words l h = omega (arith, from-word l 12 (omega arith), from-word l 8 (omega arith), from-word l 4 (omega arith))
