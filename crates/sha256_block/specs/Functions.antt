-- FIPS 180-4, sections 2.2.2, 3.2 and 4.1.2: operations on 32-bit words, each a number below 2^32.
use Rattle.std.specs.Prelude.{ℕ, ◌+◌, ◌-◌, ◌*◌, ◌/◌, ◌%◌, ◌^◌, bit_and, bit_or, bit_xor}

infixl 65 ◌⊞◌
-- 3.2, 2: addition of words, modulo 2^32
unfoldable pub ◌⊞◌ : ℕ → ℕ → ℕ
x ⊞ y = (x + y) % 2 ^ 32

-- 2.2.2: ¬ x, the complement
unfoldable pub complement : ℕ → ℕ
complement x = 2 ^ 32 - 1 - x

-- 3.2, 3: SHR^n(x) = x >> n
unfoldable pub shr : ℕ → ℕ → ℕ
shr n x = x / 2 ^ n

-- 2.2.2: x << n discards the left-most n bits
unfoldable pub shl : ℕ → ℕ → ℕ
shl n x = x * 2 ^ n % 2 ^ 32

-- 3.2, 4: ROTR^n(x) = (x >> n) ∨ (x << 32 − n)
unfoldable pub rotr : ℕ → ℕ → ℕ
rotr n x = bit_or (shr n x) (shl (32 - n) x)

-- (4.2)
unfoldable pub Ch : ℕ → ℕ → ℕ → ℕ
Ch x y z = bit_xor (bit_and x y) (bit_and (complement x) z)

-- (4.3)
unfoldable pub Maj : ℕ → ℕ → ℕ → ℕ
Maj x y z = bit_xor (bit_xor (bit_and x y) (bit_and x z)) (bit_and y z)

-- (4.4)
unfoldable pub Σ₀ : ℕ → ℕ
Σ₀ x = bit_xor (bit_xor (rotr 2 x) (rotr 13 x)) (rotr 22 x)

-- (4.5)
unfoldable pub Σ₁ : ℕ → ℕ
Σ₁ x = bit_xor (bit_xor (rotr 6 x) (rotr 11 x)) (rotr 25 x)

-- (4.6)
unfoldable pub σ₀ : ℕ → ℕ
σ₀ x = bit_xor (bit_xor (rotr 7 x) (rotr 18 x)) (shr 3 x)

-- (4.7)
unfoldable pub σ₁ : ℕ → ℕ
σ₁ x = bit_xor (bit_xor (rotr 17 x) (rotr 19 x)) (shr 10 x)
