-- The numbers D: the recurrence by which each comes from at most three others, how large they are, and where they are 0 and are not.
use mathlib.Core.Path.{◌≡◌, refl, ap, ◌∙◌}
use mathlib.Core.Bool.{Bool, true, false, cond}
use mathlib.Core.Logic.{◌⊎◌, inl, inr}
use Prim.Native.Nat.{ℕ, zero, suc, ◌+◌, ◌*◌, ◌-◌, ◌^◌, ◌≤◌, ◌<◌, min, zero-le}
use native.Mathlib.Nat.{le_refl, le_trans, le_of_eq, le_of_suc-le-suc, lt_of_le_of_lt, eq-or-lt_of_le, add-le-add, suc-mul, suc-sub-suc, sub-zero, pow-zero}
use native.Mathlib.Nat.{pow-succ', pow-le-pow_left, pow-le-pow_right}
use native.Mathlib.Numerals.{add-one}
use native.Mathlib.Omega.{arith}
use borrow.Author.Tests.{leb-true, le-leb, lt-leb}
use lib.Arith.{le-zero}
use lib.Dec.{leb, leb-suc-suc, lit<, lit≤}
use Rattle.counts.specs.Counts.{sum_to, share, D}

-- sums of the same numbers
pub sum_to_cong : (f g : ℕ → ℕ) (n : ℕ) → ((j : ℕ) → j < n → f j ≡ g j) → sum_to f n ≡ sum_to g n
unfolding sum_to
sum_to_cong f g zero same = refl
sum_to_cong f g (suc n) same = rw (sum_to_cong f g n (λ j h. same j (omega arith)), same n (le_refl _))

-- the first number of a sum, apart
sum_to-front : (f : ℕ → ℕ) (n : ℕ) → sum_to f (suc n) ≡ f 0 + sum_to (λ j. f (suc j)) n
unfolding sum_to
sum_to-front f zero = omega arith
sum_to-front f (suc n) = omega (arith, sum_to-front f n)

-- a longer sum is no smaller
pub sum_to_mono : (f : ℕ → ℕ) (m n : ℕ) → m ≤ n → sum_to f m ≤ sum_to f n
unfolding sum_to
sum_to_mono f m zero h = le_of_eq (ap (sum_to f) (le-zero h))
sum_to_mono f m (suc n) h = by (eq-or-lt_of_le h) (sum_to_mono f m n)
  where
    by : (m ≡ suc n) ⊎ (m < suc n) → (m ≤ n → sum_to f m ≤ sum_to f n) → sum_to f m ≤ sum_to f (suc n)
    by (inl e) up = le_of_eq (ap (sum_to f) e)
    by (inr less) up = omega (arith, up (le_of_suc-le-suc less))

-- a sum has each of its terms above the terms before it
pub sum_term : (f : ℕ → ℕ) (a b : ℕ) → a < b → sum_to f a + f a ≤ sum_to f b
unfolding sum_to
sum_term f a b less = sum_to_mono f (suc a) b less

-- n numbers, none above b
sum_to_le : (f : ℕ → ℕ) (b n : ℕ) → ((j : ℕ) → j < n → f j ≤ b) → sum_to f n ≤ n * b
unfolding sum_to
sum_to_le f b zero each = zero-le
sum_to_le f b (suc n) each = rw suc-mul (omega (arith, sum_to_le f b n (λ j h. each j (omega arith)), each n (le_refl _)))

-- a share, where the length is at most the sum, and where it is more
pub share-low : (f : ℕ → ℕ) (t j : ℕ) → j ≤ t → share f t j ≡ f (t - j)
unfolding share
share-low f t j h = rw (le-leb j t h)

pub share-high : (f : ℕ → ℕ) (t j : ℕ) → t < j → share f t j ≡ 0
unfolding share
share-high f t j h = rw (lt-leb j t h)

-- a share is no larger than the number that it may be
share_le : (f : ℕ → ℕ) (b t j : ℕ) → (j ≤ t → f (t - j) ≤ b) → share f t j ≤ b
unfolding share
share_le f b t j h = by (leb j t) refl
  where
    by : (low : Bool) → leb j t ≡ low → cond low (f (t - j)) 0 ≤ b
    by true test = h (leb-true j t test)
    by false test = zero-le

-- the share of the length 0, and of a length one more in a sum one more
share_zero : (f : ℕ → ℕ) (t : ℕ) → share f t 0 ≡ f t
share_zero f t = share-low f t 0 zero-le ∙ ap f (sub-zero t)

share_suc : (f : ℕ → ℕ) (t j : ℕ) → share f (suc t) (suc j) ≡ share f t j
unfolding share
share_suc f t j = rw (leb-suc-suc, suc-sub-suc)

-- of the sum 0 only the length 0 has a share
shares_of_zero : (f : ℕ → ℕ) (n : ℕ) → sum_to (share f 0) (suc n) ≡ f 0
unfolding sum_to
shares_of_zero f zero = omega (arith, share_zero f 0)
shares_of_zero f (suc n) = omega (arith, shares_of_zero f n, share-high f 0 (suc n) (omega arith))

-- the next sum has the shares of the one before, each a place on, and one in front of them
shares_of_suc : (f : ℕ → ℕ) (t n : ℕ) → sum_to (share f (suc t)) (suc n) ≡ f (suc t) + sum_to (share f t) n
shares_of_suc f t n =
    let rest : sum_to (λ j. share f (suc t) (suc j)) n ≡ sum_to (share f t) n = sum_to_cong _ _ n (λ j h. share_suc f t j) in
    sum_to-front (share f (suc t)) n ∙ rw (share_zero, rest)

-- the sum 0 has one way: each length is 0
D-zero : (w i : ℕ) → 1 ≤ w → D w i 0 ≡ 1
unfolding D
D-zero w zero h = refl
D-zero zero (suc i) h = omega arith
D-zero (suc w) (suc i) h = shares_of_zero (D (suc w) i) w ∙ D-zero (suc w) i h

-- the share of the length 1 is the number before
share-one : (f : ℕ → ℕ) (t : ℕ) → share f (suc t) 1 ≡ f t
share-one f t = share_suc f t 0 ∙ share_zero f t

pub share-before : (f : ℕ → ℕ) (t : ℕ) → share f (t + 1) 1 ≡ f t
share-before f t = rw add-one (share-one f t)

pub share-start : (f : ℕ → ℕ) → share f 0 1 ≡ 0
share-start f = share-high f 0 1 (le_refl 1)

-- from a sum to the next the window of w lengths slides: it gains a share in front and loses one behind
pub D-window : (w i t : ℕ) → 1 ≤ w → D w (suc i) t + share (D w i) t w ≡ share (D w (suc i)) t 1 + D w i t
unfolding D sum_to
D-window w i zero one = omega (arith, D-zero w (suc i) one, D-zero w i one, share-high (D w i) 0 w one, share-start (D w (suc i)))
D-window w i (suc t) one = omega (arith, shares_of_suc (D w i) t w, share-one (D w (suc i)) t)

-- row 0 is at most 1, and row suc i at most w ^ i
D-bound-zero : (w t : ℕ) → D w zero t ≤ 1
unfolding D
D-bound-zero w zero = le_refl 1
D-bound-zero w (suc t) = zero-le

-- of the shares of row 0 at most one is 1, and the others are 0
shares_of_row_zero : (w t n : ℕ) → sum_to (share (D w zero) t) n ≤ 1
unfolding D sum_to
shares_of_row_zero w t zero = zero-le
shares_of_row_zero w zero (suc n) = le_of_eq (shares_of_zero (D w zero) n)
shares_of_row_zero w (suc t) (suc n) = omega (arith, shares_of_suc (D w zero) t n, shares_of_row_zero w t n)

D-bound : (w i t : ℕ) → D w (suc i) t ≤ w ^ i
unfolding D
D-bound w zero t = rw pow-zero (shares_of_row_zero w t w)
D-bound w (suc i) t = rw pow-succ' (sum_to_le _ (w ^ i) w (λ j h. share_le _ (w ^ i) t j (λ low. D-bound w i (t - j))))

-- a bound for all shapes: at most 40 lengths, each below 16
D-bound-16 : (w i t : ℕ) → w ≤ 16 → i ≤ 40 → D w i t ≤ 16 ^ 39
D-bound-16 w zero t small few = le_trans (D-bound-zero w t) (lit≤ tt)
D-bound-16 w (suc i) t small few =
    le_trans (D-bound w i t) (le_trans (pow-le-pow_left small i) (pow-le-pow_right (lit< tt) (le_of_suc-le-suc few)))

-- a number, and the sum of two that the recurrence makes, fit in five words
pub D-small : (w i t : ℕ) → 1 ≤ w → w ≤ 16 → i ≤ 40 → D w i t < 2 ^ 160
D-small w i t one small few = lt_of_le_of_lt (D-bound-16 w i t small few) (lit< tt)

pub D-sum-small : (w i t : ℕ) → w ≤ 16 → i < 40 → share (D w (suc i)) t 1 + D w i t < 2 ^ 160
D-sum-small w i t small few =
    let before = share_le (D w (suc i)) (16 ^ 39) t 1 (λ low. D-bound-16 w (suc i) (t - 1) small few) in
    lt_of_le_of_lt (add-le-add before (D-bound-16 w i t small (omega arith))) (lit< tt)

-- a sum that the lengths reach has a row
pub D-some : (w i t : ℕ) → 1 ≤ w → t ≤ i * (w - 1) → 0 < D w i t
unfolding D
D-some w zero zero wide reached = lit< tt
D-some w zero (suc t) wide reached = absurd (omega arith)
D-some w (suc i) t wide reached =
    let j = min t (w - 1) in
    let behind : t - j ≤ i * (w - 1) = omega (arith, suc-mul i (w - 1)) in
    omega (arith, sum_term (share (D w i) t) j w (omega arith), share-low (D w i) t j (omega arith), D-some w i (t - j) wide behind)
