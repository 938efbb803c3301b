-- `schedule` meets its contract: each turn of a loop stores one word more.
use Rattle.std.proofs.Common.{◌≡◌, ℕ, suc, ◌+◌, ◌-◌, ◌*◌, ◌<◌, List, ◌++◌, length, take, drop, set, replicate, refl, ◌∙◌, add-one, append-nil, arith}
use Rattle.octets.specs.Bytes.{from_bytes}
use Rattle.lists.proofs.Fill.{store-next}
use Rattle.sha256_block.specs.Compression.{words_of, next_word, extend, schedule}
use Rattle.sha256_block.proofs.Schedule.{length-words, length-extend, words-next, next-of-append}
use Rattle.sha256_block.proofs.compression.schedule.Goals as goal

-- a turn's store of a word of the block
word_stored : (bytes : List ℕ) (t : ℕ) (ws : List ℕ) (w : ℕ) → t < 64 → ws ≡ words_of t bytes ++ replicate (64 - t) 0
    → w ≡ from_bytes (take 4 (drop (4 * t) bytes)) → set ws t w ≡ words_of (suc t) bytes ++ replicate (64 - suc t) 0
word_stored bytes t ws w h e f =
    rw (e, f, words-next) (store-next (words_of t bytes) 0 (from_bytes (take 4 (drop (4 * t) bytes))) t 64 (length-words t bytes) (omega arith))

-- a turn's store of a word that follows from those before it
next_stored : (words : List ℕ) (n t : ℕ) (ws : List ℕ) (w : ℕ) → length words ≡ 16 → 16 + n ≡ t → t < 64
    → ws ≡ extend n words ++ replicate (64 - t) 0 → w ≡ next_word t ws → set ws t w ≡ extend (suc n) words ++ replicate (64 - suc t) 0
unfolding extend
next_stored words n t ws w sixteen q h e f =
    let before = extend n words in
    let count : length before ≡ t = omega (arith, length-extend n words) in
    let same : next_word t (before ++ replicate (64 - t) 0) ≡ next_word t before = next-of-append t before (replicate (64 - t) 0) (omega arith) (omega arith) in
    rw (f, e, same, count) (store-next before 0 (next_word t before) t 64 count (omega arith))

pub loop-t-init : goal.loop-t-init
unfolding words_of
loop-t-init c = refl

pub loop-t-preserved : goal.loop-t-preserved
loop-t-preserved c =
    let h : c.loop-t.t < 64 = omega arith in
    rw add-one (word_stored _ _ _ _ h c.loop-t.invariant c.word_at.ensures)

pub loop-t-2-init : goal.loop-t-2-init
unfolding extend
loop-t-2-init c =
    let all : c.loop-t.t ≡ 16 = omega arith in
    rw all at c.loop-t.invariant

pub loop-t-2-preserved : goal.loop-t-2-preserved
loop-t-2-preserved c =
    let t = c.loop-t-2.t in
    let place : 16 + (t - 16) ≡ t = omega arith in
    let next : suc (t - 16) ≡ t + 1 - 16 = omega arith in
    rw (← next, add-one) (next_stored (words_of 16 c.args.block.now) (t - 16) t _ _ (length-words 16 _) place c.loop-t-2-test.true c.loop-t-2.invariant c.next_word.ensures)

pub returns : goal.returns
unfolding schedule
returns c =
    let all : c.loop-t-2.t ≡ 64 = omega arith in
    rw all at c.loop-t-2.invariant ∙ append-nil _
