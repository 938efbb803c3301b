-- Numbers in 32-bit words, least first: `value` undoes `to_words`.
use Rattle.std.proofs.Common.{◌≡◌, ℕ, zero, suc, ◌+◌, ◌*◌, ◌/◌, ◌%◌, ◌^◌, ◌<◌, List, [], ◌∷◌, length, sym, refl, ap, ◌∙◌, mod-eq_of_lt, pow-suc, arith, lit<}
use native.Mathlib.Nat.{one-le-pow, mod-one}
use lib.Arith.{mod-mul}
use Rattle.numbers.specs.Number.{value, to_words}
use Rattle.lists.proofs.Lists.{Below}

pub length-to_words : (k n : ℕ) → length (to_words k n) ≡ k
unfolding to_words
length-to_words zero n = refl
length-to_words (suc k) n = ap suc (length-to_words k (n / 2 ^ 32))

value-to_words : (k n : ℕ) → value (to_words k n) ≡ n % (2 ^ 32) ^ k
unfolding value to_words
value-to_words zero n = sym (mod-one n)
value-to_words (suc k) n =
    rw
    (to_words, value, value-to_words k (n / 2 ^ 32), pow-suc (2 ^ 32) k, mod-mul n {m = (2 ^ 32) ^ k} {c = 2 ^ 32} (one-le-pow k (2 ^ 32) (lit< tt)) (lit< tt))
    (omega arith)

value_to_words_lt : (k n : ℕ) → n < (2 ^ 32) ^ k → value (to_words k n) ≡ n
value_to_words_lt k n h = value-to_words k n ∙ mod-eq_of_lt h

pub value_to_words_5 : (n : ℕ) → n < 2 ^ 160 → value (to_words 5 n) ≡ n
value_to_words_5 n h = value_to_words_lt 5 n h

-- five words hold numbers below 2^160
value-below : (n : List ℕ) → Below (2 ^ 32) n → value n < (2 ^ 32) ^ length n
unfolding value
value-below [] words = lit< tt
value-below (x ∷ xs) words = rw (pow-suc (2 ^ 32) (length xs)) (omega (arith, words 0, value-below xs (λ j. words (suc j))))

-- a number's words are the lowest of them, and those of what is left
pub to_words-split : (k t n : ℕ) → to_words (suc k) (t + 2 ^ 32 * n) ≡ t % 2 ^ 32 ∷ to_words k (t / 2 ^ 32 + n)
unfolding to_words
to_words-split k t n =
    let low : (t + 2 ^ 32 * n) % 2 ^ 32 ≡ t % 2 ^ 32 = omega arith in
    let high : (t + 2 ^ 32 * n) / 2 ^ 32 ≡ t / 2 ^ 32 + n = omega arith in
    rw (low, high)
