-- Whole blocks and what is left behind them.
use mathlib.Core.Path.{◌≡◌, ◌∙◌}
use mathlib.Core.List.{List, ◌++◌}
use Prim.Native.Nat.{ℕ, suc, ◌+◌, ◌-◌, ◌*◌, ◌/◌, ◌%◌, ◌<◌, ◌≤◌}
use native.Mathlib.Omega.{arith}
use lib.ListN.{length, take, drop, replicate, length-append, length-drop}
use lib.Seq.{take_at, drop_at, drop-append-add, take-length}
use Rattle.sha256_block.specs.Compression.{compress}
use Rattle.sha256_block.specs.declared.compression.HashWords.{HashWords}
use Rattle.sha256.specs.Digest.{compress_blocks, compress_all}
use Rattle.sha256.specs.Running.{rest}

-- bytes short of a block change nothing
pub all_short : (v : HashWords) (bytes : List ℕ) → length bytes < 64 → compress_all v bytes ≡ v
unfolding compress_all compress_blocks
all_short v bytes h = let none : length bytes / 64 ≡ 0 = omega arith in rw none

-- a block in front
pub all-step : (v : HashWords) (bytes : List ℕ) → 64 ≤ length bytes → compress_all v bytes ≡ compress_all (compress v (take 64 bytes)) (drop 64 bytes)
unfolding compress_all compress_blocks
all-step v bytes h =
    let one : length bytes / 64 ≡ suc (length (drop 64 bytes) / 64) = omega (arith, length-drop 64 bytes) in
    rw one

pub all_append : (v : HashWords) (block bytes : List ℕ) → length block ≡ 64 → compress_all v (block ++ bytes) ≡ compress_all (compress v block) bytes
all_append v block bytes e =
    let long : 64 ≤ length (block ++ bytes) = omega (arith, length-append block bytes) in
    all-step v (block ++ bytes) long ∙ rw (take_at block bytes 64 e, drop_at block bytes 64 e)

pub all_one : (v : HashWords) (block : List ℕ) → length block ≡ 64 → compress_all v block ≡ compress v block
all_one v block e =
    all-step v block (omega arith) ∙ rw (← e, take-length)
    (all_short (compress v block) (drop (length block) block) (omega (arith, length-drop (length block) block)))

pub rest-short : (bytes : List ℕ) → length bytes < 64 → rest bytes ≡ bytes ++ replicate (64 - length bytes) 0
unfolding rest
rest-short bytes h =
    let none : length bytes / 64 * 64 ≡ 0 = omega arith in
    let all : length bytes % 64 ≡ length bytes = omega arith in
    rw (none, all)

pub rest-append : (block bytes : List ℕ) → length block ≡ 64 → rest (block ++ bytes) ≡ rest bytes
unfolding rest
rest-append block bytes e =
    let at : length (block ++ bytes) / 64 * 64 ≡ length block + length bytes / 64 * 64 = omega (arith, length-append block bytes) in
    let left : length (block ++ bytes) % 64 ≡ length bytes % 64 = omega (arith, length-append block bytes) in
    rw (at, left, drop-append-add)
