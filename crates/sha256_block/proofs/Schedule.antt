-- The message schedule, word by word.
use Rattle.std.proofs.Common.{◌≡◌, ℕ, zero, suc, ◌+◌, ◌-◌, ◌*◌, ◌≤◌, List, [], ◌∷◌, ◌++◌, length, take, drop, sym, refl, ap, ◌∙◌, add-zero, arith, length-append, drop-drop}
use lib.ListN.{get_or-append}
use Rattle.octets.specs.Bytes.{from_bytes}
use Rattle.sha256_block.specs.Compression.{words_of, next_word, extend}

pub length-words : (n : ℕ) (bytes : List ℕ) → length (words_of n bytes) ≡ n
unfolding words_of
length-words zero bytes = refl
length-words (suc n) bytes = ap suc (length-words n (drop 4 bytes))

-- one word more, from the bytes behind those of the first n
pub words-next : (n : ℕ) (bytes : List ℕ) → words_of (suc n) bytes ≡ words_of n bytes ++ (from_bytes (take 4 (drop (4 * n) bytes)) ∷ [])
unfolding words_of
words-next zero bytes = refl
words-next (suc n) bytes =
    let e : 4 + 4 * n ≡ 4 * suc n = omega arith in
    ap (λ ws. from_bytes (take 4 bytes) ∷ ws) (words-next n (drop 4 bytes)
    ∙ ap (λ rest. words_of n (drop 4 bytes) ++ (from_bytes (take 4 rest) ∷ [])) (drop-drop (4 * n) 4 bytes ∙ ap (λ k. drop k bytes) e))

pub length-extend : (n : ℕ) (ws : List ℕ) → length (extend n ws) ≡ length ws + n
unfolding extend
length-extend zero ws = sym (add-zero (length ws))
length-extend (suc n) ws =
    let before = extend n ws in
    length-append before (next_word (length before) before ∷ []) ∙ omega (arith, length-extend n ws)

-- W_t does not depend on what stands behind W_0, …, W_(t − 1)
pub next-of-append : (t : ℕ) (ws more : List ℕ) → 16 ≤ t → t ≤ length ws → next_word t (ws ++ more) ≡ next_word t ws
unfolding next_word
next-of-append t ws more low long =
    let e₂ = get_or-append ws more 0 (t - 2) (omega arith) in
    let e₇ = get_or-append ws more 0 (t - 7) (omega arith) in
    let e₁₅ = get_or-append ws more 0 (t - 15) (omega arith) in
    let e₁₆ = get_or-append ws more 0 (t - 16) (omega arith) in
    cc
