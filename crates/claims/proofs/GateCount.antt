-- The gate profile's count, its bits, and that 19 never comes there.
use mathlib.Core.Path.{◌≡◌, refl}
use Prim.Native.Nat.{ℕ, ◌^◌, ◌≤◌, ◌<◌}
use native.Mathlib.Nat.{le_refl, le_trans, le_antisymm, lt_irrefl, lt_of_lt_of_le}
use lib.Dec.{lit≤}
use Rattle.profile.specs.declared.Profile.{Profile}
use Rattle.counts.specs.Counts.{count}
use Rattle.counts.proofs.RowByRow.{gate-count}
use Rattle.message.proofs.NumberLaws.{bits-few, bits-largest}
use Rattle.claims.specs.Gate.{gate_shape, gate, GateCount}
use Rattle.claims.proofs.Bits.{small-counts}

counted : count gate_shape ≡ 1287155674008337910149577743336952677632
unfolding count
counted = gate-count

large : 2 ^ 128 ≤ count gate_shape
large = rw counted (lit≤ tt)

not_small : (p : Profile) (edition : ℕ) → p ≡ gate edition → count p.shape < 256 → ⊥
not_small p edition e small = lt_irrefl _ (lt_of_lt_of_le (rw e at small) (le_trans (lit≤ tt) large))

pub gate-counted : GateCount
gate-counted =
    record {
      middle = refl;
      counted = counted;
      large = large;
      bits = le_antisymm (bits-few (count gate_shape)) (bits-largest (count gate_shape) 128 (le_refl _) large);
      sign_never_nineteen = λ key call edition e nineteen. not_small key.profile edition e ((small-counts.sign_nineteen key call).0 nineteen).1;
      verify_never_nineteen = λ v call edition e nineteen. not_small v.profile edition e ((small-counts.verify_nineteen v call).0 nineteen).1;
    }
