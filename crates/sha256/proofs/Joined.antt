-- The law of the running hash: start, any list of granted adds and finish give the digest of the bytes joined.
use mathlib.Core.Path.{◌≡◌, refl, ◌∙◌, ap, sym}
use mathlib.Core.Bool.{Bool, true, false, cond}
use mathlib.Core.List.{List, [], ◌∷◌, ◌++◌, append_assoc, append-nil}
use Prim.Native.Nat.{ℕ, zero, suc, ◌+◌, ◌-◌, ◌*◌, ◌/◌, ◌%◌, ◌≤◌}
use native.Mathlib.Omega.{arith}
use borrow.Author.Tests.{le-ltb, ltb-false}
use lib.Dec.{ltb}
use lib.ListN.{length, take, drop, replicate, length-append, length-drop, take-append-drop}
use lib.Seq.{length-take-le, take_at}
use Rattle.sha256_block.specs.Compression.{compress, initial}
use Rattle.sha256_block.specs.declared.compression.HashWords.{HashWords}
use Rattle.sha256.specs.Digest.{compress_all, padding, final_words, digest}
use Rattle.sha256.specs.Running.{pending, rest, started, extended, add_code, add_state, finished, hashed, add_all, AllGranted, joined, RunningHash}
use Rattle.sha256.specs.declared.running.Hash.{Hash}
use Rattle.sha256.proofs.Blocks.{all_short, all_append, rest-append}

-- whole blocks in front, n of them
all_whole : (n : ℕ) (v : HashWords) (front more : List ℕ) → length front ≡ n * 64 → compress_all v (front ++ more) ≡ compress_all (compress_all v front) more
all_whole zero v [] more e = rw (all_short v [] (omega arith))
all_whole zero v (b ∷ front) more e = absurd (omega arith)
all_whole (suc n) v front more e =
    let block = take 64 front in
    let long : length block ≡ 64 = length-take-le 64 front (omega arith) in
    let next = drop 64 front in
    let next-long : length next ≡ n * 64 = omega (arith, length-drop 64 front) in
    let split : block ++ next ≡ front = take-append-drop 64 front in
    rw (← split, append_assoc, all_append v block (next ++ more) long, all_append v block next long) (all_whole n (compress v block) next more next-long)

rest-whole : (n : ℕ) (front more : List ℕ) → length front ≡ n * 64 → rest (front ++ more) ≡ rest more
rest-whole zero [] more e = refl
rest-whole zero (b ∷ front) more e = absurd (omega arith)
rest-whole (suc n) front more e =
    let block = take 64 front in
    let long : length block ≡ 64 = length-take-le 64 front (omega arith) in
    let next = drop 64 front in
    let split : block ++ next ≡ front = take-append-drop 64 front in
    rw (← split, append_assoc) (rest-append block (next ++ more) long ∙ rest-whole n next more (omega (arith, length-drop 64 front)))

-- the bytes' whole blocks, and what is behind them
module _ (bytes : List ℕ) where
  whole : List ℕ
  whole = take (length bytes / 64 * 64) bytes

  tail : List ℕ
  tail = drop (length bytes / 64 * 64) bytes

  whole-tail : whole ++ tail ≡ bytes
  unfolding whole tail
  whole-tail = take-append-drop (length bytes / 64 * 64) bytes

  length_whole : length whole ≡ length bytes / 64 * 64
  unfolding whole
  length_whole = length-take-le (length bytes / 64 * 64) bytes (omega arith)

  length-tail : length tail ≡ length bytes % 64
  unfolding tail
  length-tail = length-drop (length bytes / 64 * 64) bytes ∙ omega arith

  -- the pending bytes of a state that has taken them
  pending-tail : pending (hashed bytes) ≡ tail
  unfolding pending hashed rest tail
  pending-tail = take_at tail (replicate (64 - length bytes % 64) 0) (length bytes % 64) length-tail

  all_resumed : (v : HashWords) (more : List ℕ) → compress_all (compress_all v bytes) (tail ++ more) ≡ compress_all v (bytes ++ more)
  all_resumed v more =
      let n = length bytes / 64 in
      let front : compress_all v bytes ≡ compress_all v whole =
      ap (compress_all v) (sym whole-tail) ∙ all_whole n v whole tail length_whole ∙ all_short (compress_all v whole) tail (omega (arith, length-tail)) in
      let behind : whole ++ (tail ++ more) ≡ bytes ++ more = sym (append_assoc whole tail more) ∙ ap (λ l. l ++ more) whole-tail in
      rw (front, ← behind) (sym (all_whole n v whole (tail ++ more) length_whole))

  rest_resumed : (more : List ℕ) → rest (tail ++ more) ≡ rest (bytes ++ more)
  rest_resumed more =
      let behind : whole ++ (tail ++ more) ≡ bytes ++ more = sym (append_assoc whole tail more) ∙ ap (λ l. l ++ more) whole-tail in
      rw (← behind) (sym (rest-whole (length bytes / 64) whole (tail ++ more) length_whole))

  extended-hashed : (more : List ℕ) → extended (hashed bytes) more ≡ hashed (bytes ++ more)
  unfolding extended hashed
  extended-hashed more =
      let state : Hash = hashed bytes in
      rw (pending-tail, all_resumed initial more, rest_resumed more, length-append)

  -- add, on a state that has taken the bytes
  add_hashed : (more : List ℕ) → length bytes + length more ≤ 65535
      → (add_code (hashed bytes) more ≡ 0) × (add_state (hashed bytes) more ≡ hashed (bytes ++ more))
  unfolding add_code add_state hashed
  add_hashed more h =
      let fits = le-ltb 65535 (length bytes + length more) h in
      (rw fits, rw (fits, extended-hashed more))

  -- finish, on a state that has taken the bytes
  pub finished-hashed : (finished (hashed bytes)).words ≡ final_words bytes
  unfolding finished hashed final_words
  finished-hashed = rw pending-tail (all_resumed initial (padding (length bytes)))

-- bytes that fit, added to a state that has taken others
pub more-taken : (bytes more : List ℕ) {s h : Hash} → length bytes + length more ≤ 65535 → s ≡ hashed bytes → h ≡ add_state s more → h ≡ hashed (bytes ++ more)
more-taken bytes more fits e q = q ∙ rw e (add_hashed bytes more fits).1

pub started-hashed : started ≡ hashed []
unfolding started hashed rest
started-hashed = rw (all_short initial [] (omega arith))

-- what is granted fits
granted-fits : (s : Hash) (bytes : List ℕ) → add_code s bytes ≡ 0 → s.total + length bytes ≤ 65535
unfolding add_code
granted-fits s bytes g = by_test (ltb 65535 (s.total + length bytes)) refl g
  where
    by_test : (over : Bool) → ltb 65535 (s.total + length bytes) ≡ over → cond {A = ℕ} over 18 0 ≡ 0 → s.total + length bytes ≤ 65535
    by_test true q h = absurd (omega arith)
    by_test false q h = ltb-false 65535 (s.total + length bytes) q

-- granted adds on a state that has taken the bytes
all-added : (bytes : List ℕ) (parts : List (List ℕ)) → AllGranted (hashed bytes) parts → add_all (hashed bytes) parts ≡ hashed (bytes ++ joined parts)
unfolding add_all joined
all-added bytes [] g = ap hashed (sym (append-nil bytes))
all-added bytes (part ∷ parts) g =
    let fits : length bytes + length part ≤ 65535 = unfold hashed in granted-fits (hashed bytes) part g.0 in
    let next : add_state (hashed bytes) part ≡ hashed (bytes ++ part) = (add_hashed bytes part fits).1 in
    rw next (all-added (bytes ++ part) parts (rw next at g.1) ∙ ap hashed (append_assoc bytes part (joined parts)))

-- start, any list of granted adds, finish
pub running_hash : RunningHash
unfolding digest
running_hash parts g =
    rw (started-hashed, all-added [] parts (rw started-hashed at g), finished-hashed (joined parts))
