-- Powers of two in numbers (document 02, point 3).
use Rattle.std.specs.Prelude.{ℕ, ◌+◌, ◌^◌, ◌<◌, ◌≤◌, max}

-- 2^k is the highest power of two not above n; k is 0 where n is 0
pub record Log2 (n k : ℕ) : Type 0 where
  pub least : 2 ^ k ≤ max n 1
  pub below : n < 2 ^ (k + 1)
