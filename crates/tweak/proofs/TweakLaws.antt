-- The running hash on the way to a tweaked hash, and the lengths of what the definitions give.
use mathlib.Core.Path.{◌≡◌, refl, sym, ap, ◌∙◌}
use mathlib.Core.List.{List, [], ◌++◌, append_assoc, append-nil}
use Prim.Native.Nat.{ℕ, ◌+◌}
use native.Mathlib.Omega.{arith}
use lib.ListN.{length, take, drop, set, replicate, length-append}
use lib.Seq.{length-take-le, take_at, drop-append-add}
use Rattle.octets.specs.Bytes.{to_bytes}
use Rattle.octets.proofs.ByteLaws.{length-to_bytes}
use Rattle.sha256_block.specs.Compression.{initial, compress}
use Rattle.sha256_block.specs.declared.compression.HashWords.{HashWords}
use Rattle.sha256.specs.Digest.{padding, compress_all, final_words, word_bytes, digest}
use Rattle.sha256.specs.Running.{rest, finished, hashed}
use Rattle.sha256.specs.declared.running.Hash.{Hash}
use Rattle.sha256.proofs.Blocks.{all_append, all_one, rest-append}
use Rattle.sha256.proofs.DigestBytes.{length-digest}
use Rattle.sha256.proofs.Joined.{finished-hashed}
use Rattle.tweak.specs.Tweak.{address, seed_block, tweaked_hash}
use Rattle.tweak.specs.declared.Domain.{Domain}

pub length-address : (d : Domain) (kind first second third : ℕ) → length (address d kind first second third) ≡ 22
unfolding address
length-address d kind first second third = simp (length-append, length-to_bytes)

pub length_seed_block : (seed : List ℕ) → length seed ≡ 16 → length (seed_block seed) ≡ 64
unfolding seed_block
length_seed_block seed e = length-append seed (replicate 48 0) ∙ rw e

pub length_tweaked : (d : Domain) (a bytes : List ℕ) → length (tweaked_hash d a bytes) ≡ 16
unfolding tweaked_hash
length_tweaked d a bytes =
    let joined = seed_block d.seed ++ a ++ bytes in
    length-take-le 16 (digest joined) (omega (arith, length-digest joined))

-- the running hash that has taken the seed's block
pub seed_taken : (seed : List ℕ) {words : HashWords} → length seed ≡ 16 → words ≡ compress initial (seed_block seed)
    → ◌≡◌ {A = Hash} (record { words = words; block = replicate 64 0; total = 64 }) (hashed (seed_block seed))
unfolding hashed rest
seed_taken seed {words} long e =
    let front = seed_block seed in
    let full = length_seed_block seed long in
    let whole : words ≡ compress_all initial front = e ∙ sym (all_one initial front full) in
    let left : rest front ≡ replicate 64 0 = rw append-nil at (rest-append front [] full) in
    rw (whole, left, full)

-- a running hash that has taken the seed's block, an address and the data ends as the tweaked hash
pub tweak_ended : (d : Domain) (a bytes : List ℕ) {s : Hash} {r : List ℕ} → s ≡ hashed (seed_block d.seed ++ a ++ bytes)
    → r ≡ take 16 (word_bytes (finished s).words) → r ≡ tweaked_hash d a bytes
unfolding digest tweaked_hash
tweak_ended d a bytes e f = f ∙ rw e (ap (λ v. take 16 (word_bytes v)) (finished-hashed (seed_block d.seed ++ a ++ bytes)))

-- 64 bytes, of which the last 26 are the padding of 102 bytes
abbrev padding_only : List ℕ
padding_only = set (set (set (replicate 64 0) 38 128) 62 3) 63 48

-- the address and a value copied in front of that padding
pub block_made : (a v : List ℕ) {held block : List ℕ} → length a ≡ 22 → length v ≡ 16
    → held ≡ take 0 padding_only ++ a ++ drop (0 + length a) padding_only → block ≡ take 22 held ++ v ++ drop (22 + length v) held
    → block ≡ a ++ v ++ padding 102
unfolding padding to_bytes
block_made a v {held} la lv e f =
    let front : held ≡ a ++ drop 22 padding_only = e ∙ rw la in
    let behind : drop 38 (a ++ drop 22 padding_only) ≡ drop 38 padding_only = ap (λ (k : ℕ). drop (k + 16) (a ++ drop 22 padding_only)) (sym la) ∙ drop-append-add a (drop 22 padding_only) 16 in
    f ∙ rw (front, lv, take_at a (drop 22 padding_only) 22 la, behind)

length-padding : length (padding 102) ≡ 26
unfolding padding to_bytes
length-padding = refl

-- the last block, compressed behind the seed's, ends the digest of the seed block, the address and the value
pub block_compressed : (d : Domain) (a v : List ℕ) {words last : HashWords} {r : List ℕ} → length d.seed ≡ 16 → length a ≡ 22 → length v ≡ 16
    → words ≡ compress initial (seed_block d.seed) → last ≡ compress words (a ++ v ++ padding 102) → r ≡ take 16 (word_bytes last) → r ≡ tweaked_hash d a v
unfolding tweaked_hash digest final_words
block_compressed d a v {words} {last} short la lv e q f =
    let front = seed_block d.seed in
    let block = a ++ v ++ padding 102 in
    let long = length_seed_block d.seed short in
    let all : length (front ++ a ++ v) ≡ 102 = rw (length-append, length-append, long, la, lv) in
    let filled : length block ≡ 64 = rw (length-append, length-append, la, lv, length-padding) in
    let grouped : front ++ a ++ v ++ padding 102 ≡ front ++ block = simp append_assoc in
    let final : compress_all initial (front ++ a ++ v ++ padding 102) ≡ last =
    rw (grouped, all_append initial front block long, all_one (compress initial front) block filled, q, e) in
    f ∙ ap (λ (w : HashWords). take 16 (word_bytes w)) (sym final) ∙ rw all
