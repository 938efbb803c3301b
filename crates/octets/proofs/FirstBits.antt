-- The first bits of bytes: they are the first bits of the bytes that hold them, and a number of so many bits.
use mathlib.Core.Path.{◌≡◌, refl, sym, ap, ◌∙◌}
use mathlib.Core.List.{List, [], ◌∷◌}
use Prim.Native.Nat.{ℕ, zero, suc, ◌+◌, ◌*◌, ◌-◌, ◌^◌, ◌≤◌, ◌<◌}
use native.Mathlib.Nat.{pow-suc, mul-suc}
use native.Mathlib.Omega.{arith}
use lib.Arith.{digits_lt}
use lib.Dec.{lit<}
use lib.ListN.{length, take, drop, take-append-drop, length-drop}
use lib.Pow.{pow-add, shr_lt, shr-shr, high}
use lib.Seq.{length-take-le}
use Rattle.octets.specs.Bytes.{from_bytes, first_bits}
use Rattle.octets.proofs.ByteLaws.{from-append}
use Rattle.lists.proofs.Lists.{Below, below-drop}

bits_of_bytes : (n : ℕ) → 256 ^ n ≡ 2 ^ (8 * n)
bits_of_bytes zero = refl
bits_of_bytes (suc n) = rw (mul-suc, pow-add 2 (8 * n) 8, pow-suc 256 n, bits_of_bytes n)

from-below : (bytes : List ℕ) → Below 256 bytes → from_bytes bytes < 2 ^ (8 * length bytes)
unfolding from_bytes
from-below [] below = lit< tt
from-below (b ∷ bs) below =
    rw (mul-suc, pow-add 2 (8 * length bs) 8, bits_of_bytes (length bs)) (omega (arith, digits_lt (below 0) (from-below bs (λ j. below (suc j)))))

pub first-bits-below : (b : ℕ) (bytes : List ℕ) → b ≤ 8 * length bytes → Below 256 bytes → first_bits b bytes < 2 ^ b
unfolding first_bits
first-bits-below b bytes enough below =
    let all : b + (8 * length bytes - b) ≡ 8 * length bytes = omega arith in
    shr_lt b (8 * length bytes - b) (rw all (from-below bytes below))

-- the first bits of the first m bytes
pub first-bits-front : (b m : ℕ) (bytes : List ℕ) → b ≤ 8 * m → m ≤ length bytes → Below 256 bytes → first_bits b (take m bytes) ≡ first_bits b bytes
unfolding first_bits
first-bits-front b m bytes within enough below =
    let front : length (take m bytes) ≡ m = length-take-le m bytes enough in
    let k = length (drop m bytes) in
    let joined : from_bytes bytes ≡ from_bytes (take m bytes) * 2 ^ (8 * k) + from_bytes (drop m bytes) =
    ap from_bytes (sym (take-append-drop m bytes)) ∙ rw (bits_of_bytes k) at (from-append (take m bytes) (drop m bytes)) in
    let behind : 8 * k + (8 * m - b) ≡ 8 * length bytes - b = omega (arith, length-drop m bytes) in
    rw front
    (sym
    (rw (
      ← behind,
      ← shr-shr (from_bytes bytes) (8 * k) (8 * m - b),
      joined,
      high (from_bytes (take m bytes)) (8 * k) (from-below (drop m bytes) (below-drop 256 m bytes below)),
    )))
