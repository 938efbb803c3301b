-- The number that three limbs are: of the two lowest of five 32-bit words, the two above them, and the highest.
use Rattle.std.specs.Prelude.{ℕ, ◌+◌, ◌*◌, ◌^◌}
use Rattle.numbers.specs.declared.limbs.Limbs.{Limbs}

-- the limbs above the lowest
unfoldable pub upper : Limbs → ℕ
upper n = n.middle + 2 ^ 64 * n.high

-- all three limbs
unfoldable pub number : Limbs → ℕ
number n = n.low + 2 ^ 64 * upper n
