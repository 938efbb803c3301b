-- The constants keep the rule of FIPS 180-4: the primes are the first sixty-four, and each word is from the whole part of a root of its prime.
use Rattle.std.proofs.Common.{◌≡◌, ℕ, zero, suc, ◌+◌, ◌*◌, ◌^◌, ◌<◌, ◌≤◌, Bool, true, false, cond, leb, List, [], ◌∷◌, length, get_or, take, refl, ap, ◌∙◌, pow-suc, arith, length-take-le, get_or-take, leb-false, leb-true}
use lib.ListN.{length-map, get_or-map}
use Rattle.lists.proofs.Lists.{Below, below-by_test}
use Rattle.sha256_block.specs.Constants.{has_divisor, is_prime, primes_from, primes, IsPrime, IsWholeRoot, IsRootWord, root_from, whole_root, root_word}
use Rattle.sha256_block.specs.Constants.{round_words, initial_words, FirstPrimes, RootWords}
use Rattle.sha256_block.proofs.Primes.{PrimesFrom, primes-rise, each_prime, rising-primes, none_missed_before}

-- the search keeps r^e ≤ n < (r + 2^b)^e while b falls
root-from : (e n b r : ℕ) → r ^ e ≤ n → n < (r + 2 ^ b) ^ e → IsWholeRoot e n (root_from e n b r)
unfolding root_from
root-from e n zero r low high = record { least = low; most = high }
root-from e n (suc b) r low high =
    step (leb ((r + 2 ^ b) ^ e) n) refl
    (λ below. root-from e n b (r + 2 ^ b) below (rw double high))
    (λ above. root-from e n b r low above)
  where
    double : r + 2 ^ b + 2 ^ b ≡ r + 2 ^ suc b
    double = rw pow-suc (omega arith)

    step : (t : Bool) → leb ((r + 2 ^ b) ^ e) n ≡ t
        → ((r + 2 ^ b) ^ e ≤ n → IsWholeRoot e n (root_from e n b (r + 2 ^ b)))
        → (n < (r + 2 ^ b) ^ e → IsWholeRoot e n (root_from e n b r))
        → IsWholeRoot e n (root_from e n b (cond t (r + 2 ^ b) r))
    step true q up stay = up (leb-true ((r + 2 ^ b) ^ e) n q)
    step false q up stay = stay (leb-false ((r + 2 ^ b) ^ e) n q)

-- the definition finds the word
root-word : (e p : ℕ) → 0 ^ e ≤ p * 2 ^ (32 * e) → p * 2 ^ (32 * e) < (2 ^ 35) ^ e → IsRootWord e p (root_word e p)
unfolding root_word whole_root
root-word e p low high = record { root = whole_root e (p * 2 ^ (32 * e)); whole = root-from e (p * 2 ^ (32 * e)) 35 0 low high; word = refl }

-- the primes, computed once
unfoldable pub listed : List ℕ
listed =
    2 ∷ 3 ∷ 5 ∷ 7 ∷ 11 ∷ 13 ∷ 17 ∷ 19 ∷ 23 ∷ 29 ∷ 31 ∷ 37 ∷ 41 ∷ 43 ∷ 47 ∷ 53 ∷ 59 ∷ 61 ∷ 67 ∷ 71 ∷ 73 ∷ 79 ∷ 83 ∷ 89 ∷ 97 ∷ 101 ∷ 103 ∷ 107 ∷ 109 ∷
    113 ∷ 127 ∷ 131 ∷ 137 ∷ 139 ∷ 149 ∷ 151 ∷ 157 ∷ 163 ∷ 167 ∷ 173 ∷ 179 ∷ 181 ∷ 191 ∷ 193 ∷ 197 ∷ 199 ∷ 211 ∷ 223 ∷ 227 ∷ 229 ∷ 233 ∷ 239 ∷ 241 ∷
    251 ∷ 257 ∷ 263 ∷ 269 ∷ 271 ∷ 277 ∷ 281 ∷ 283 ∷ 293 ∷ 307 ∷ 311 ∷ []

pub primes-listed : primes ≡ listed
unfolding listed primes primes_from is_prime has_divisor
primes-listed = refl

small : Below 512 primes
unfolding listed
small = rw primes-listed (below-by_test 512 listed tt)

small_eight : Below 64 (take 8 primes)
unfolding listed
small_eight = rw primes-listed (below-by_test 64 (take 8 listed) tt)

-- each round word is from the cube root of its prime
round_word_rule : (k : ℕ) → IsRootWord 3 (get_or primes k 0) (get_or round_words k 0)
unfolding round_words root_word whole_root root_from
round_word_rule k = rw (get_or-map (root_word 3) primes k 0) (root-word 3 (get_or primes k 0) (omega arith) (omega (arith, small k)))

-- each of the eight initial words is from the square root of its prime
initial_word_rule : (k : ℕ) → k < 8 → IsRootWord 2 (get_or primes k 0) (get_or initial_words k 0)
unfolding initial_words root_word whole_root root_from
initial_word_rule k h =
    let same = get_or-take 8 primes k 0 h in
    rw (get_or-map (root_word 2) (take 8 primes) k 0, same) (root-word 2 (get_or primes k 0) (omega arith) (omega (arith, rw same at (small_eight k))))

sixty_four : length primes ≡ 64
unfolding listed
sixty_four = ap length primes-listed

rise : PrimesFrom 0 primes
unfolding primes
rise = search primes-rise

-- the end of the range is found by the search, so that the definition alone names it
none_missed : (q : ℕ) → IsPrime q → q ≤ get_or primes 63 0 → (i : ℕ) × (i < length primes) × (get_or primes i 0 ≡ q)
unfolding primes
none_missed q prime most =
    let enough : 63 < length primes = omega (arith, sixty_four) in
    let low : 0 ≤ q = omega arith in
    search (none_missed_before 63)

first_primes : FirstPrimes 64 primes
first_primes =
    record {
      many = sixty_four;
      each = λ i h. (each_prime 0 primes rise i (rw sixty_four h)).1;
      rising = λ i j less h. rising-primes 0 primes rise i j less (rw sixty_four h);
      none_missed = λ q prime most.
          let found = none_missed q prime most in
          (found.0, rw sixty_four at found.1, found.2);
    }

pub root-words : RootWords
unfolding round_words initial_words
root-words =
    record {
      first_primes = first_primes;
      many_rounds = length-map primes (root_word 3) ∙ sixty_four;
      round_word = λ i h. round_word_rule i;
      many_initial = length-map (take 8 primes) (root_word 2) ∙ length-take-le 8 primes (omega (arith, sixty_four));
      initial_word = initial_word_rule;
    }
