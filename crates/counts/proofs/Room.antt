-- What the causes of Count tell, and those of a profile with its table: where none holds, the shape is within its limits and the work slice has room for the
-- table.
use mathlib.Core.Path.{◌≡◌, refl, ◌∙◌, sym}
use mathlib.Core.Bool.{Bool, true, false, ◌||◌}
use mathlib.Core.Logic.{◌⊎◌, inl, inr}
use mathlib.Core.List.{List, [], ◌∷◌}
use Prim.Native.Nat.{ℕ, ◌+◌, ◌*◌, ◌/◌, ◌<◌, ◌≤◌}
use native.Mathlib.Nat.{mul_comm, div-lt_iff_lt-mul}
use native.Mathlib.Omega.{arith}
use borrow.Author.Tests.{ltb-false, leb-true, leb-false, lt-ltb, le-ltb}
use lib.Dec.{ltb, leb, eqb}
use Rattle.refusal.specs.Code.{first_cause}
use Rattle.refusal.proofs.Causes.{Avoids, Numbered, avoids_other, none_here, none_then, none-of-append}
use Rattle.lists.proofs.Numbers.{lt_or_le}
use Rattle.profile.specs.Checks.{shape_causes, InLimits, profile_causes}
use Rattle.profile.specs.declared.Shape.{Shape}
use Rattle.profile.specs.declared.Profile.{Profile}
use Rattle.profile.proofs.Limits.{shape-numbered, in_limits, profile-numbered, profile-passed, sum-small}
use Rattle.counts.specs.Table.{table_length, table_causes, leaves_table}
use Rattle.counts.specs.Operations.{count_causes}
use Rattle.counts.proofs.NextCell.{row_small}

-- the last of the causes: the work slice is too short
abbrev pub short : Shape → (words : ℕ) → List (Bool × ℕ)
short shape words = (ltb words (table_length shape), 5) ∷ []

-- what a code of the kind that leaves the table is not, 0 is not
pub not_granted : (n : ℕ) → leaves_table n ≡ false → eqb n 0 ≡ false
not_granted n e = by (eqb n 0) e
  where
    by : (zero : Bool) → (zero || eqb n 7 || eqb n 15 || eqb n 19) ≡ false → zero ≡ false
    by true e = e
    by false e = refl

module _ (shape : Shape) (words : ℕ) where
  -- so many words are too few exactly if their fifth, spread over the rows, does not reach past the sum
  pub room-exact : leb (words / 5 / (shape.chains + 1)) shape.sum ≡ ltb words (table_length shape)
  unfolding table_length
  room-exact = by (leb (words / 5 / (shape.chains + 1)) shape.sum) refl
    where
      rows_of : (shape.sum + 1) * (shape.chains + 1) ≡ (shape.chains + 1) * (shape.sum + 1)
      rows_of = mul_comm (shape.sum + 1) (shape.chains + 1)

      by : (low : Bool) → leb (words / 5 / (shape.chains + 1)) shape.sum ≡ low → low ≡ ltb words (5 * ((shape.chains + 1) * (shape.sum + 1)))
      by true test =
          let below : words / 5 < (shape.sum + 1) * (shape.chains + 1) = (div-lt_iff_lt-mul {k = shape.chains + 1} (omega arith)).0
          (omega (arith, leb-true (words / 5 / (shape.chains + 1)) shape.sum test)) in
          sym (lt-ltb words (5 * ((shape.chains + 1) * (shape.sum + 1))) (omega (arith, rows_of)))
      by false test =
          sym (le-ltb words (5 * ((shape.chains + 1) * (shape.sum + 1))) (by_rows (lt_or_le (words / 5) ((shape.sum + 1) * (shape.chains + 1)))))
        where
          by_rows : (words / 5 < (shape.sum + 1) * (shape.chains + 1)) ⊎ ((shape.sum + 1) * (shape.chains + 1) ≤ words / 5)
              → 5 * ((shape.chains + 1) * (shape.sum + 1)) ≤ words
          by_rows (inl low) = absurd
              (omega (arith, leb-false (words / 5 / (shape.chains + 1)) shape.sum test, (div-lt_iff_lt-mul {k = shape.chains + 1} (omega arith)).1 low))
          by_rows (inr high) = omega (arith, rows_of)

  -- none of the causes of Count leaves the table
  pub count-early : Avoids leaves_table (count_causes shape words)
  unfolding count_causes shape_causes
  count-early = (refl, (refl, (refl, (refl, tt))))

  pub count-numbered : Numbered (count_causes shape words)
  count-numbered = avoids_other leaves_table (λ n. eqb n 0) (count_causes shape words) not_granted count-early

  pub count-passed : first_cause (count_causes shape words) ≡ 0 → InLimits shape × (table_length shape ≤ words)
  unfolding count_causes
  count-passed e =
      let none = none-of-append (shape_causes shape) (short shape words) (shape-numbered shape) e in
      (in_limits shape none.0, ltb-false words (table_length shape) (none_here (ltb words (table_length shape)) 5 [] refl none.1).0)

-- a profile that passes its checks, with room for its table: it is within its limits, and the table fits
pub record TablePassed (p : Profile) (words : ℕ) : Type 0 where
  pub limits : InLimits p.shape
  pub low : p.height ≤ 10
  pub room : table_length p.shape ≤ words

module _ (p : Profile) (words : ℕ) where
  pub table-early : Avoids leaves_table (table_causes p words)
  unfolding table_causes profile_causes shape_causes
  table-early = (refl, (refl, (refl, (refl, (refl, (refl, tt))))))

  pub table-numbered : Numbered (table_causes p words)
  table-numbered = avoids_other leaves_table (λ n. eqb n 0) (table_causes p words) not_granted table-early

  pub table-passed : first_cause (table_causes p words) ≡ 0 → TablePassed p words
  unfolding table_causes count_causes
  table-passed e =
      let none = none-of-append (profile_causes p) (short p.shape words) (profile-numbered p) e in
      let passed = profile-passed p none.0 in
      let counted : first_cause (count_causes p.shape words) ≡ 0 = none_then (shape_causes p.shape) (short p.shape words) passed.shaped
      (shape-numbered p.shape) ∙ none.1 in
      let fits = count-passed p.shape words counted in
      record { limits = fits.0; low = passed.low; room = fits.1 }

-- the table of a shape within its limits is small
pub table-small : (shape : Shape) → InLimits shape → (shape.chains + 1) * (shape.sum + 1) ≤ 24641
table-small shape h = row_small (shape.chains + 1) shape.sum (omega (arith, h.few_chains)) (sum-small shape h)
