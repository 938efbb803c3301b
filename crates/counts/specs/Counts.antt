-- Document 01, Counts and rows: the numbers D.
use Rattle.std.specs.Prelude.{cond, ℕ, zero, suc, ◌+◌, ◌-◌, ◌^◌, ◌<◌, leb}
use Rattle.profile.specs.Checks.{InLimits}
use Rattle.profile.specs.declared.Shape.{Shape}

-- f 0 + … + f (n − 1)
unfoldable pub sum_to : (ℕ → ℕ) → ℕ → ℕ
sum_to f zero = 0
sum_to f (suc n) = sum_to f n + f n

-- what the length j adds to a sum t: f (t − j), where j ≤ t
unfoldable pub share : (ℕ → ℕ) → ℕ → ℕ → ℕ
share f t j = cond (leb j t) (f (t - j)) 0

-- "D(0, 0) = 1; D(0, t) = 0 for t > 0; for i ≥ 1, D(i, t) is the sum of D(i − 1, t − j) over j from 0 to w − 1 with j ≤ t"
unfoldable pub D : ℕ → ℕ → ℕ → ℕ
D w zero zero = 1
D w zero (suc t) = 0
D w (suc i) t = sum_to (share (D w i) t) w

-- "The count is D(l, s)"
unfoldable pub count : Shape → ℕ
count shape = D shape.width shape.chains shape.sum

-- "16^40 = 2^160 bounds every count, and a count for l ≥ 1 is below it": five words hold it whole
pub record CountsFit : Type 0 where
  pub below : (shape : Shape) → InLimits shape → count shape < 2 ^ 160
