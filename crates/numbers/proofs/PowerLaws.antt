-- Powers of two: the highest in a number, found by shifts, and a shift word by word.
use Rattle.std.proofs.Common.{◌≡◌, ℕ, zero, suc, ◌+◌, ◌-◌, ◌*◌, ◌/◌, ◌%◌, ◌^◌, ◌<◌, ◌≤◌, max, ◌⊎◌, List, [], ◌∷◌, ◌++◌, length, get_or, take, sym, refl, ap, ◌∙◌, inl, inr, le_of_lt, add_comm, mul-le-mul_left, arith, lit<, mul-suc, pow_pos, pow_mono, pow-add, shr-shr}
use native.Mathlib.Nat.{zero-div}
use lib.Pow.{pow-lt, field, mod-mod-pow}
use Rattle.numbers.specs.Number.{value}
use Rattle.numbers.specs.Powers.{Log2}
use Rattle.lists.proofs.Lists.{Below, five}
use Rattle.lists.proofs.Numbers.{lt_or_le}

-- where a word stands above j bits, its highest power of two, times 2^j, is that of the number
log_above : (j k : ℕ) {low x : ℕ} → low < 2 ^ j → 2 ^ k ≤ x → x < 2 * 2 ^ k → Log2 (low + 2 ^ j * x) (j + k)
log_above j k {low} {x} small held less =
    let double : j + k + 1 ≡ 1 + k + j = omega arith in
    record {
      least = rw (pow-add 2 j k) (omega (arith, mul-le-mul_left (2 ^ j) held));
      below = rw (pow-add 2 (j + k) 1, pow-add 2 j k) (omega (arith, mul-le-mul_left (2 ^ j) less));
    }

-- one word more of a number
value_taken : (n : List ℕ) (i : ℕ) → value (take (suc i) n) ≡ value (take i n) + 2 ^ (32 * i) * get_or n i 0
unfolding value
value_taken [] zero = refl
value_taken [] (suc i) = omega arith
value_taken (x ∷ xs) zero = omega arith
value_taken (x ∷ xs) (suc i) = rw (value_taken xs i, mul-suc 32 i, pow-add 2 (32 * i) 32) (omega arith)

taken_below : (n : List ℕ) (i : ℕ) → Below (2 ^ 32) n → value (take i n) < 2 ^ (32 * i)
unfolding value
taken_below n zero words = lit< tt
taken_below [] (suc i) words = pow_pos (32 * suc i)
taken_below (x ∷ xs) (suc i) words = rw (mul-suc 32 i, pow-add 2 (32 * i) 32) (omega (arith, words 0, taken_below xs i (λ j. words (suc j))))

-- of a number whose words above place i are 0, that word decides, if it is not 0; else the words above the place below are 0
pub log_at : (n : List ℕ) (i k : ℕ) → Below (2 ^ 32) n → value n ≡ value (take (suc i) n) → 2 ^ k ≤ get_or n i 0 → get_or n i 0 < 2 * 2 ^ k
    → Log2 (value n) (32 * i + k)
log_at n i k words above held less = rw (above, value_taken n i) (log_above (32 * i) k (taken_below n i words) held less)

pub taken_less : (n : List ℕ) (i : ℕ) → value n ≡ value (take (suc i) n) → get_or n i 0 ≡ 0 → value n ≡ value (take i n)
taken_less n i above none = above ∙ value_taken n i ∙ rw none (omega arith)

-- an exponent in a number is below the number's bits
pub held_fits : {x j w : ℕ} → 2 ^ j ≤ max x 1 → x < 2 ^ w → 0 < w → j < w
held_fits {x} {j} {w} held small some = by (lt_or_le j w)
  where
    by : (j < w) ⊎ (w ≤ j) → j < w
    by (inl less) = less
    by (inr more) = absurd (omega (arith, held, small, pow_mono more, pow-lt some))

-- a number without its lowest word
value-upper : (x : ℕ) (xs : List ℕ) → x < 2 ^ 32 → value (x ∷ xs) / 2 ^ 32 ≡ value xs
unfolding value
value-upper x xs small = omega arith

value_zero : (xs : List ℕ) → value (xs ++ (0 ∷ [])) ≡ value xs
unfolding value
value_zero [] = refl
value_zero (x ∷ xs) = rw (value_zero xs)

pub value_dropped : (x : ℕ) (xs : List ℕ) → x < 2 ^ 32 → value (xs ++ (0 ∷ [])) ≡ value (x ∷ xs) / 2 ^ 32
value_dropped x xs small = value_zero xs ∙ sym (value-upper x xs small)

-- of a shift by t, at most a word, the lowest word depends on the two lowest words alone
window : (n m t : ℕ) → t ≤ 32 → n % 2 ^ 64 ≡ m % 2 ^ 64 → n / 2 ^ t % 2 ^ 32 ≡ m / 2 ^ t % 2 ^ 32
window n m t few same = sym (field n 32 t) ∙ ap (λ k. k / 2 ^ t) (part n ∙ ap (λ k. k % 2 ^ (32 + t)) same ∙ sym (part m)) ∙ field m 32 t
  where
    part : (k : ℕ) → k % 2 ^ (32 + t) ≡ k % 2 ^ 64 % 2 ^ (32 + t)
    part k =
        let all : 32 - t + (32 + t) ≡ 64 = omega arith in
        rw all at (sym (mod-mod-pow k (32 - t) (32 + t)))

-- a word shifted right by t, with the bits that come in from the word above it
abbrev shifted_word : (t low high : ℕ) → ℕ
shifted_word t low high = (low + 2 ^ 32 * high) / 2 ^ t % 2 ^ 32

-- words shifted right, each with the one above it
abbrev shifted_words : (t : ℕ) → List ℕ → List ℕ
shifted_words t [] = []
shifted_words t (x ∷ xs) = shifted_word t x (get_or xs 0 0) ∷ shifted_words t xs

-- the lowest two words, as far as they are there
two_lowest : (x : ℕ) (xs : List ℕ) → (x + 2 ^ 32 * value xs) % 2 ^ 64 ≡ (x + 2 ^ 32 * get_or xs 0 0) % 2 ^ 64
unfolding value
two_lowest x [] = refl
two_lowest x (y ∷ ys) = omega arith

value_shifted : (t : ℕ) (n : List ℕ) → t ≤ 32 → Below (2 ^ 32) n → value (shifted_words t n) ≡ value n / 2 ^ t
unfolding value
value_shifted t [] few words = sym (zero-div (2 ^ t))
value_shifted t (x ∷ xs) few words =
    let all = x + 2 ^ 32 * value xs in
    let upper : all / 2 ^ 32 ≡ value xs = value-upper x xs (words 0) in
    let swapped : all / 2 ^ t / 2 ^ 32 ≡ value xs / 2 ^ t = shr-shr all t 32 ∙ ap (λ k. all / 2 ^ k) (add_comm t 32) ∙ sym (shr-shr all 32 t)
    ∙ ap (λ k. k / 2 ^ t) upper in
    rw (value_shifted t xs few (λ j. words (suc j)), ← window all (x + 2 ^ 32 * get_or xs 0 0) t few (two_lowest x xs), ← swapped) (omega arith)

pub value_shifted_5 : (t : ℕ) (n : List ℕ) {a b c d e : ℕ} → length n ≡ 5 → t < 32 → Below (2 ^ 32) n
    → a ≡ shifted_word t (get_or n 0 0) (get_or n 1 0) → b ≡ shifted_word t (get_or n 1 0) (get_or n 2 0) → c ≡ shifted_word t (get_or n 2 0) (get_or n 3 0)
    → d ≡ shifted_word t (get_or n 3 0) (get_or n 4 0) → e ≡ shifted_word t (get_or n 4 0) 0
    → value (a ∷ b ∷ c ∷ d ∷ e ∷ []) ≡ value n / 2 ^ t
value_shifted_5 t n long few words ea eb ec ed ee =
    rw (ea, eb, ec, ed, ee) (ap (λ l. value (shifted_words t l)) (sym (five 0 n long)) ∙ value_shifted t n (le_of_lt few) words)
