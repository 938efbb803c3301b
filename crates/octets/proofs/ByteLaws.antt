-- Numbers in bytes, most significant first: `from_bytes` undoes `to_bytes`, whose bytes are in range; bytes joined, and one byte more.
use mathlib.Core.Path.{◌≡◌, refl, sym, ap, ◌∙◌}
use mathlib.Core.List.{List, [], ◌∷◌, ◌++◌}
use Prim.Native.Nat.{ℕ, zero, suc, ◌+◌, ◌*◌, ◌%◌, ◌^◌, ◌<◌, ◌≤◌}
use native.Mathlib.Nat.{pow-succ', pow-le-pow_right, one-le-pow, add-mul, mod-eq_of_lt, mod-one, mul_assoc}
use native.Mathlib.Numerals.{add-one}
use native.Mathlib.Omega.{arith}
use lib.Arith.{mod-mul}
use lib.Dec.{lit<}
use lib.ListN.{length, get_or, take, length-append}
use lib.Pow.{pow-add}
use lib.Seq.{take-suc}
use Rattle.std.specs.Int.{w32, from_be_bytes}
use Rattle.octets.specs.Bytes.{from_bytes, to_bytes}
use Rattle.lists.proofs.Lists.{Below}

-- a power of 256 is not 0
positive : (n : ℕ) → 0 < 256 ^ n
positive n = one-le-pow n 256 (lit< tt)

pub length-to_bytes : (n x : ℕ) → length (to_bytes n x) ≡ n
unfolding to_bytes
length-to_bytes zero x = refl
length-to_bytes (suc n) x = ap suc (length-to_bytes n x)

pub to_bytes_lt : (n x : ℕ) → Below 256 (to_bytes n x)
unfolding to_bytes
to_bytes_lt zero x i = lit< tt
to_bytes_lt (suc n) x zero = omega arith
to_bytes_lt (suc n) x (suc i) = to_bytes_lt n x i

from_to : (n x : ℕ) → from_bytes (to_bytes n x) ≡ x % 256 ^ n
unfolding from_bytes to_bytes
from_to zero x = sym (mod-one x)
from_to (suc n) x =
    rw (to_bytes, from_bytes, length-to_bytes n x, from_to n x, pow-succ', mod-mul x {m = 256} {c = 256 ^ n} (lit< tt) (positive n))

pub from_to_lt : (n x : ℕ) → x < 256 ^ n → from_bytes (to_bytes n x) ≡ x
from_to_lt n x h = from_to n x ∙ mod-eq_of_lt h

pub from-append : (xs ys : List ℕ) → from_bytes (xs ++ ys) ≡ from_bytes xs * 256 ^ length ys + from_bytes ys
unfolding from_bytes
from-append [] ys = omega arith
from-append (b ∷ xs) ys =
    rw (
      length-append xs ys,
      pow-add 256 (length xs) (length ys),
      from-append xs ys,
      add-mul (b * 256 ^ length xs) (from_bytes xs) (256 ^ length ys),
      mul_assoc b (256 ^ length xs) (256 ^ length ys),
    )
    (omega arith)

-- a byte more, of the number that the first i bytes are
pub front-next : (l : List ℕ) (i : ℕ) → i < length l → from_bytes (take (i + 1) l) ≡ from_bytes (take i l) * 256 + get_or l i 0
unfolding from_bytes
front-next l i h = rw (add-one, take-suc l i 0) (from-append (take i l) (get_or l i 0 ∷ []) ∙ omega arith)

pub front_wider : (i : ℕ) {n b : ℕ} → n < 256 ^ i → b < 256 → n * 256 + b < 256 ^ (i + 1)
front_wider i {n} {b} h k = rw (add-one, pow-succ') (omega arith)

-- the first bytes of a word leave room for one more
pub front-small : {n i : ℕ} → n < 256 ^ i → i ≤ 3 → n < 2 ^ 24
front-small {n} {i} h k = omega (arith, pow-le-pow_right {n = 256} (lit< tt) {i = i} {j = 3} k)

-- the library's number of four bytes
pub be_bytes : (bytes : List ℕ) → length bytes ≡ 4 → from_be_bytes w32 bytes ≡ from_bytes bytes
unfolding from_bytes
be_bytes (a ∷ b ∷ c ∷ d ∷ []) four = omega arith
be_bytes [] four = absurd (omega arith)
be_bytes (a ∷ []) four = absurd (omega arith)
be_bytes (a ∷ b ∷ []) four = absurd (omega arith)
be_bytes (a ∷ b ∷ c ∷ []) four = absurd (omega arith)
be_bytes (a ∷ b ∷ c ∷ d ∷ e ∷ more) four = absurd (omega arith)
