-- Document 01, Hashing and "Hash, as start, add and finish": the running hash and its operations, for any state.
use Rattle.std.specs.Prelude.{◌≡◌, cond, List, [], ◌∷◌, ◌++◌, ℕ, ◌+◌, ◌-◌, ◌*◌, ◌/◌, ◌%◌, ltb, length, take, drop, replicate}
use Rattle.refusal.specs.Code.{outcome_code}
use Rattle.sha256_block.specs.Compression.{initial}
use Rattle.sha256_block.specs.declared.compression.HashWords.{HashWords}
use Rattle.sha256.specs.Digest.{padding, compress_all, word_bytes, digest}
use Rattle.sha256.specs.declared.running.Hash.{Hash}
use Rattle.sha256.specs.declared.running.Added.{Added}

-- "total modulo 64 bytes of it pending"
unfoldable pub pending : Hash → List ℕ
pending s = take (s.total % 64) s.block

-- what is left of the bytes behind their last whole block, in a block: "the others … are zero"
unfoldable pub rest : List ℕ → List ℕ
rest bytes = drop (length bytes / 64 * 64) bytes ++ replicate (64 - length bytes % 64) 0

-- no bytes taken: the block zero, the total 0
abbrev pub fresh : HashWords → Hash
fresh v = record { words = v; block = replicate 64 0; total = 0 }

-- start
unfoldable pub started : Hash
started = fresh initial

-- the state after the bytes, if they are granted
unfoldable pub extended : Hash → List ℕ → Hash
extended s bytes =
    let all = pending s ++ bytes in
    record { words = compress_all s.words all; block = rest all; total = s.total + length bytes }

-- "only add refuses, by 18, if the total with the new bytes is over 65,535"
unfoldable pub add_code : Hash → List ℕ → ℕ
add_code s bytes = cond (ltb 65535 (s.total + length bytes)) 18 0

-- "the state is returned the same"
unfoldable pub add_state : Hash → List ℕ → Hash
add_state s bytes = cond (ltb 65535 (s.total + length bytes)) s (extended s bytes)

-- what add answers
pub record Adds (s : Hash) (bytes : List ℕ) (r : Added) : Type 0 where
  pub code : outcome_code r.outcome ≡ add_code s bytes
  pub state : r.hash ≡ add_state s bytes

-- finish: the words of the digest, in a state that has taken no bytes
unfoldable pub finished : Hash → Hash
finished s = fresh (compress_all s.words (pending s ++ padding s.total))

-- a running hash that was started and has taken the bytes
unfoldable pub hashed : List ℕ → Hash
hashed bytes = record { words = compress_all initial bytes; block = rest bytes; total = length bytes }

-- a list of adds, each on the state that the one before handed back: the last state
unfoldable pub add_all : Hash → List (List ℕ) → Hash
add_all s [] = s
add_all s (bytes ∷ more) = add_all (add_state s bytes) more

-- each add of the list is granted
abbrev pub AllGranted : Hash → List (List ℕ) → Type 0
AllGranted s [] = Unit {0}
AllGranted s (bytes ∷ more) = (add_code s bytes ≡ 0) × AllGranted (add_state s bytes) more

-- the bytes of the adds, joined
unfoldable pub joined : List (List ℕ) → List ℕ
joined [] = []
joined (bytes ∷ more) = bytes ++ joined more

-- start, any list of granted adds and finish give the digest of the bytes joined
abbrev pub RunningHash : Type 0
RunningHash = (parts : List (List ℕ)) → AllGranted started parts
    → word_bytes (finished (add_all started parts)).words ≡ digest (joined parts)
