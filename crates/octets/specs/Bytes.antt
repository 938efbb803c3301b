-- Numbers of several bytes, most significant byte first (document 01, Hashing and Sheet), and the first bits of bytes (document 02, point
-- 3).
use Rattle.std.specs.Prelude.{List, [], ◌∷◌, ℕ, zero, suc, ◌+◌, ◌-◌, ◌*◌, ◌/◌, ◌%◌, ◌^◌, length}

-- the number that the bytes are, most significant first
unfoldable pub from_bytes : List ℕ → ℕ
from_bytes [] = 0
from_bytes (b ∷ bs) = b * 256 ^ length bs + from_bytes bs

-- x in n bytes, most significant first; of a larger x, its lowest n bytes
unfoldable pub to_bytes : ℕ → ℕ → List ℕ
to_bytes zero x = []
to_bytes (suc n) x = x / 256 ^ n % 256 ∷ to_bytes n x

-- "the first b bits", read as a number: the number that the bytes are, without its bits behind them
unfoldable pub first_bits : (b : ℕ) (bytes : List ℕ) → ℕ
first_bits b bytes = from_bytes bytes / 2 ^ (8 * length bytes - b)
