-- The test for primes is right, and the primes of a range are listed in rising order, each of them once.
use Rattle.std.proofs.Common.{◌≡◌, ℕ, zero, suc, ◌+◌, ◌-◌, ◌%◌, ◌<◌, ◌≤◌, Bool, true, false, cond, not, eqb, leb, List, [], ◌∷◌, length, get_or, sym, refl, ap, ◌∙◌, ⊎_elim, le_of_suc-le-suc, eq-or-lt_of_le, arith, ne_eqb, le-leb, leb-true}
use borrow.Author.Tests.{not-true, eqb-false}
use Rattle.lists.proofs.Tests.{both, neither}
use Rattle.sha256_block.specs.Constants.{has_divisor, is_prime, primes_from, IsPrime}

-- the test finds every divisor from 2 to d
divisor_found : (n d : ℕ) → has_divisor n d ≡ false → (c : ℕ) → 2 ≤ c → c ≤ d → n % c ≡ 0 → ⊥
unfolding has_divisor
divisor_found n zero e c low high divides = omega arith
divisor_found n (suc zero) e c low high divides = omega arith
divisor_found n (suc (suc d)) e c low high divides =
    let none = neither (eqb (n % suc (suc d)) 0) (has_divisor n (suc d)) e in
    ⊎_elim
    (λ same. eqb-false (n % suc (suc d)) 0 none.0 (ap (λ k. n % k) (sym same) ∙ divides))
    (λ less. divisor_found n (suc d) none.1 c low (le_of_suc-le-suc less) divides)
    (eq-or-lt_of_le high)

-- and no other number
divisor_real : (n d : ℕ) → ((c : ℕ) → 2 ≤ c → c ≤ d → n % c ≡ 0 → ⊥) → has_divisor n d ≡ false
unfolding has_divisor
divisor_real n zero none = refl
divisor_real n (suc zero) none = refl
divisor_real n (suc (suc d)) none =
    rw (ne_eqb (n % suc (suc d)) 0 (none (suc (suc d)) (omega arith) (omega arith))) (divisor_real n (suc d) (λ c low high. none c low (omega arith)))

prime_by_test : (n : ℕ) → is_prime n ≡ true → IsPrime n
unfolding is_prime
prime_by_test n e =
    let parts = both (leb 2 n) (not (has_divisor n (n - 1))) e in
    let two = leb-true 2 n parts.0 in
    record { above_one = two; undivided = λ d low high. divisor_found n (n - 1) (not-true (has_divisor n (n - 1)) parts.1) d low (omega arith) }

prime_passes : (n : ℕ) → IsPrime n → is_prime n ≡ true
unfolding is_prime
prime_passes n p = rw (le-leb 2 n p.above_one, divisor_real n (n - 1) (λ c low high. p.undivided c low (omega (arith, p.above_one))))

-- primes, rising from n on
abbrev pub PrimesFrom : ℕ → List ℕ → Type 0
PrimesFrom n [] = Unit {0}
PrimesFrom n (p ∷ ps) = (n ≤ p) × IsPrime p × PrimesFrom (suc p) ps

from-before : (n : ℕ) (ps : List ℕ) → PrimesFrom (suc n) ps → PrimesFrom n ps
from-before n [] r = tt
from-before n (p ∷ ps) r = (omega (arith, r.0), r.1, r.2)

pub primes-rise : (n k : ℕ) → PrimesFrom n (primes_from n k)
unfolding primes_from
primes-rise n zero = tt
primes-rise n (suc k) = by (is_prime n) refl (primes-rise (suc n) k)
  where
    by : (t : Bool) → is_prime n ≡ t → PrimesFrom (suc n) (primes_from (suc n) k) → PrimesFrom n (cond t (n ∷ primes_from (suc n) k) (primes_from (suc n) k))
    by true e r = (omega arith, prime_by_test n e, r)
    by false e r = from-before n (primes_from (suc n) k) r

pub each_prime : (n : ℕ) (ps : List ℕ) → PrimesFrom n ps → (i : ℕ) → i < length ps → (n ≤ get_or ps i 0) × IsPrime (get_or ps i 0)
each_prime n [] r i h = absurd (omega arith)
each_prime n (p ∷ ps) r zero h = (r.0, r.1)
each_prime n (p ∷ ps) r (suc i) h =
    let rest = each_prime (suc p) ps r.2 i (le_of_suc-le-suc h) in
    (omega (arith, r.0, rest.0), rest.1)

pub rising-primes : (n : ℕ) (ps : List ℕ) → PrimesFrom n ps → (i j : ℕ) → i < j → j < length ps → get_or ps i 0 < get_or ps j 0
rising-primes n [] r i j less h = absurd (omega arith)
rising-primes n (p ∷ ps) r i zero less h = absurd (omega arith)
rising-primes n (p ∷ ps) r zero (suc j) less h = (each_prime (suc p) ps r.2 j (le_of_suc-le-suc h)).0
rising-primes n (p ∷ ps) r (suc i) (suc j) less h = rising-primes (suc p) ps r.2 i j (le_of_suc-le-suc less) (le_of_suc-le-suc h)

none_missed : (n k q : ℕ) → n ≤ q → q < n + k → IsPrime q → (i : ℕ) × (i < length (primes_from n k)) × (get_or (primes_from n k) i 0 ≡ q)
unfolding primes_from
none_missed n zero q low high p = absurd (omega arith)
none_missed n (suc k) q low high p =
    ⊎_elim
    (λ (same : n ≡ q). let here : is_prime n ≡ true = rw same (prime_passes q p) in rw here (0, omega arith, same))
    (λ less. later (is_prime n) (none_missed (suc n) k q less (omega arith) p))
    (eq-or-lt_of_le low)
  where
    later : (t : Bool) → (i : ℕ) × (i < length (primes_from (suc n) k)) × (get_or (primes_from (suc n) k) i 0 ≡ q)
        → (i : ℕ) × (i < length (cond t (n ∷ primes_from (suc n) k) (primes_from (suc n) k)))
        × (get_or (cond t (n ∷ primes_from (suc n) k) (primes_from (suc n) k)) i 0 ≡ q)
    later true found = (suc found.0, omega (arith, found.1), found.2)
    later false found = found

-- each prime that is listed stands before the end of the range
before_end : (n k i : ℕ) → i < length (primes_from n k) → get_or (primes_from n k) i 0 < n + k
unfolding primes_from
before_end n zero i h = absurd (omega arith)
before_end n (suc k) i h = by (is_prime n) i h (λ j. before_end (suc n) k j)
  where
    by : (t : Bool) (i : ℕ) → i < length (cond t (n ∷ primes_from (suc n) k) (primes_from (suc n) k))
        → ((j : ℕ) → j < length (primes_from (suc n) k) → get_or (primes_from (suc n) k) j 0 < suc n + k)
        → get_or (cond t (n ∷ primes_from (suc n) k) (primes_from (suc n) k)) i 0 < n + suc k
    by true zero h rest = omega arith
    by true (suc i) h rest = omega (arith, rest i (le_of_suc-le-suc h))
    by false i h rest = omega (arith, rest i h)

-- no prime up to one that is listed is missed
pub none_missed_before : (i n k q : ℕ) → i < length (primes_from n k) → n ≤ q → q ≤ get_or (primes_from n k) i 0 → IsPrime q
    → (j : ℕ) × (j < length (primes_from n k)) × (get_or (primes_from n k) j 0 ≡ q)
none_missed_before i n k q h low high p = none_missed n k q low (omega (arith, before_end n k i h)) p
