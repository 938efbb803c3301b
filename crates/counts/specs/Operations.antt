-- Document 01, "Count": what Count answers and leaves.
use Rattle.std.specs.Prelude.{◌≡◌, Bool, cond, List, [], ◌∷◌, ◌++◌, ℕ, ltb, eqb, length, Result}
use Rattle.std.specs.Result.{result_unwrap_or}
use Rattle.refusal.specs.Code.{outcome_code, first_cause}
use Rattle.refusal.specs.declared.Refusal.{Refusal}
use Rattle.numbers.specs.Number.{to_words}
use Rattle.profile.specs.Checks.{shape_causes}
use Rattle.profile.specs.declared.Shape.{Shape}
use Rattle.counts.specs.Counts.{count}
use Rattle.counts.specs.Table.{table_length, table_after}

-- "Count …: 1, 2, 3; 5 work slice under 5 × (l + 1) × (s + 1) words"
unfoldable pub count_causes : Shape → (words : ℕ) → List (Bool × ℕ)
count_causes shape words = shape_causes shape ++ ((ltb words (table_length shape), 5) ∷ [])

-- the code of Count
unfoldable pub count_code : Shape → List ℕ → ℕ
count_code shape work = first_cause (count_causes shape (length work))

-- "Count fills the work slice and gives the count"; a refusal gives none, and is read as zero
pub record Counts (shape : Shape) (work left : List ℕ) (r : Result (List ℕ) Refusal) : Type 0 where
  pub code : outcome_code r ≡ count_code shape work
  pub counted : result_unwrap_or r (to_words 5 0) ≡ to_words 5 (cond (eqb (count_code shape work) 0) (count shape) 0)
  pub table : left ≡ table_after (count_code shape work) shape work
