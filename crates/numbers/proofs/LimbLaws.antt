-- Numbers in three limbs, and their five words.
use Rattle.std.proofs.Common.{◌≡◌, ℕ, suc, ◌+◌, ◌*◌, ◌/◌, ◌%◌, ◌^◌, ◌<◌, List, [], ◌∷◌, length, get_or, sym, ap, ◌∙◌, arith}
use Rattle.numbers.specs.Number.{value, to_words}
use Rattle.lists.proofs.Lists.{five}
use Rattle.numbers.proofs.NumberLaws.{to_words-split}
use Rattle.numbers.specs.inner.Limbs.{upper, number}
use Rattle.numbers.specs.declared.limbs.Limbs.{Limbs}

-- a limb is two words
value_limb : (x y : ℕ) (ws : List ℕ) → value (x ∷ y ∷ ws) ≡ x + 2 ^ 32 * y + 2 ^ 64 * value ws
unfolding value
value_limb x y ws = omega arith

value-last : (x : ℕ) → value (x ∷ []) ≡ x
unfolding value
value-last x = omega arith

to_words_limb : (k x n : ℕ) → x < 2 ^ 64 → to_words (suc (suc k)) (x + 2 ^ 64 * n) ≡ x % 2 ^ 32 ∷ x / 2 ^ 32 ∷ to_words k n
to_words_limb k x n h =
    let words : x + 2 ^ 64 * n ≡ x + 2 ^ 32 * (2 ^ 32 * n) = omega arith in
    let high : x / 2 ^ 32 % 2 ^ 32 ≡ x / 2 ^ 32 = omega arith in
    let rest : x / 2 ^ 32 / 2 ^ 32 + n ≡ n = omega arith in
    rw words (to_words-split (suc k) x (2 ^ 32 * n) ∙ ap (λ ws. x % 2 ^ 32 ∷ ws) (to_words-split k (x / 2 ^ 32) n ∙ rw (high, rest)))

to_words-last : (x : ℕ) → x < 2 ^ 32 → to_words 1 x ≡ x ∷ []
unfolding to_words
to_words-last x h = let all : x % 2 ^ 32 ≡ x = omega arith in rw all

-- the number of five words
value-five : (a b c d e : ℕ) → value (a ∷ b ∷ c ∷ d ∷ e ∷ []) ≡ number (record { low = a + 2 ^ 32 * b; middle = c + 2 ^ 32 * d; high = e })
unfolding number upper
value-five a b c d e =
    value_limb a b (c ∷ d ∷ e ∷ [])
    ∙ ap (λ v. a + 2 ^ 32 * b + 2 ^ 64 * v) (value_limb c d (e ∷ []) ∙ ap (λ v. c + 2 ^ 32 * d + 2 ^ 64 * v) (value-last e))

pub number-words : (n : List ℕ) → length n ≡ 5
    → number (record { low = get_or n 0 0 + 2 ^ 32 * get_or n 1 0; middle = get_or n 2 0 + 2 ^ 32 * get_or n 3 0; high = get_or n 4 0 }) ≡ value n
number-words n long =
    sym (ap value (five 0 n long) ∙ value-five (get_or n 0 0) (get_or n 1 0) (get_or n 2 0) (get_or n 3 0) (get_or n 4 0))

-- the five words of a number
pub words-number : (n : Limbs) → n.low < 2 ^ 64 → n.middle < 2 ^ 64 → n.high < 2 ^ 32
    → n.low % 2 ^ 32 ∷ n.low / 2 ^ 32 ∷ n.middle % 2 ^ 32 ∷ n.middle / 2 ^ 32 ∷ n.high ∷ [] ≡ to_words 5 (number n)
unfolding number upper
words-number n hl hm hh =
    sym
    (to_words_limb 3 n.low (n.middle + 2 ^ 64 * n.high) hl
    ∙ ap (λ ws. n.low % 2 ^ 32 ∷ n.low / 2 ^ 32 ∷ ws)
    (to_words_limb 1 n.middle n.high hm ∙ ap (λ ws. n.middle % 2 ^ 32 ∷ n.middle / 2 ^ 32 ∷ ws) (to_words-last n.high hh)))
