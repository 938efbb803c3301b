-- FIPS 180-4, sections 4.2.2 and 5.3.3: the round words and the initial hash value, from the roots of the first primes.
use Rattle.std.specs.Prelude.{◌≡◌, ℕ, zero, suc, ◌+◌, ◌-◌, ◌*◌, ◌%◌, ◌^◌, ◌<◌, ◌≤◌, Bool, false, cond, not, ◌&&◌, ◌||◌, List, [], ◌∷◌, map, length, take, ◌==◌, ◌≢◌, nat_le, slice_index}

-- a number from 2 to d divides n
unfoldable pub has_divisor : ℕ → ℕ → Bool
has_divisor n zero = false
has_divisor n (suc zero) = false
has_divisor n (suc (suc d)) = n % suc (suc d) == 0 || has_divisor n (suc d)

-- whether a number is prime: no number from 2 up to below it divides it
unfoldable pub is_prime : ℕ → Bool
is_prime n = nat_le 2 n && not (has_divisor n (n - 1))

-- the primes among the k numbers from n on, rising
unfoldable pub primes_from : ℕ → ℕ → List ℕ
primes_from n zero = []
primes_from n (suc k) = cond (is_prime n) (n ∷ primes_from (suc n) k) (primes_from (suc n) k)

-- those up to 311
unfoldable pub primes : List ℕ
unfolding primes_from is_prime has_divisor
primes = primes_from 0 312

-- r is the whole part of the e-th root of n
pub record IsWholeRoot (e n r : ℕ) : Type 0 where
  pub least : r ^ e ≤ n
  pub most : n < (r + 1) ^ e

-- x is the first 32 bits of the fractional part of the e-th root of p: of the whole part of 2^32 times that root, the lowest 32 bits
pub record IsRootWord (e p x : ℕ) : Type 0 where
  pub root : ℕ
  pub whole : IsWholeRoot e (p * 2 ^ (32 * e)) root
  pub word : x ≡ root % 2 ^ 32

-- r, or r plus some of 2^0, …, 2^(b − 1): the largest of these whose e-th power is at most n
unfoldable pub root_from : (e n b r : ℕ) → ℕ
root_from e n zero r = r
root_from e n (suc b) r = root_from e n b (cond (nat_le ((r + 2 ^ b) ^ e) n) (r + 2 ^ b) r)

-- the one r below 2^35 with IsWholeRoot e n r, where there is one
unfoldable pub whole_root : ℕ → ℕ → ℕ
whole_root e n = root_from e n 35 0

-- the one x with IsRootWord e p x, for p below 8^e
unfoldable pub root_word : ℕ → ℕ → ℕ
root_word e p = whole_root e (p * 2 ^ (32 * e)) % 2 ^ 32

-- 4.2.2: K_0, …, K_63, from the cube roots of the first sixty-four primes
unfoldable pub round_words : List ℕ
round_words = map (root_word 3) primes

-- 5.3.3: the eight words of H(0), from the square roots of the first eight primes
unfoldable pub initial_words : List ℕ
initial_words = map (root_word 2) (take 8 primes)

-- n is prime
pub record IsPrime (n : ℕ) : Type 0 where
  pub above_one : 2 ≤ n
  pub undivided : (d : ℕ) → 2 ≤ d → d < n → n % d ≢ 0

-- the first k primes, in rising order: all primes up to the last of them, and nothing else
pub record FirstPrimes (k : ℕ) (ps : List ℕ) : Type 0 where
  pub many : length ps ≡ k
  pub each : (i : ℕ) → i < k → IsPrime (slice_index ps i)
  pub rising : (i j : ℕ) → i < j → j < k → slice_index ps i < slice_index ps j
  pub none_missed : (q : ℕ) → IsPrime q → q ≤ slice_index ps (k - 1) → (i : ℕ) × (i < k) × (slice_index ps i ≡ q)

-- 4.2.2: "the first thirty-two bits of the fractional parts of the cube roots of the first sixty-four prime numbers"; 5.3.3: "the first
-- thirty-two bits of the
-- fractional parts of the square roots of the first eight prime numbers"
pub record RootWords : Type 0 where
  pub first_primes : FirstPrimes 64 primes
  pub many_rounds : length round_words ≡ 64
  pub round_word : (i : ℕ) → i < 64 → IsRootWord 3 (slice_index primes i) (slice_index round_words i)
  pub many_initial : length initial_words ≡ 8
  pub initial_word : (i : ℕ) → i < 8 → IsRootWord 2 (slice_index primes i) (slice_index initial_words i)
