-- What the operations that place a codeword share: 7, and the codeword in a row.
use Rattle.std.specs.Prelude.{◌≡◌, cond, List, [], ◌∷◌, ◌++◌, ℕ, ◌≤◌, leb, eqb, length, drop, Result}
use Rattle.refusal.specs.Code.{outcome_code, first_cause}
use Rattle.refusal.specs.declared.Refusal.{Refusal}
use Rattle.numbers.specs.Number.{to_words}
use Rattle.profile.specs.declared.Shape.{Shape}
use Rattle.counts.specs.Counts.{count}
use Rattle.counts.specs.Table.{Holds}
use Rattle.codewords.specs.Operations.{row_of}

-- the count of a shape, a work slice with its table, and a row with room for its lengths
pub record Placeable (shape : Shape) (n work row : List ℕ) : Type 0 where
  pub counted : n ≡ to_words 5 (count shape)
  pub held : Holds shape work
  pub room : shape.chains ≤ length row

-- 7 where the number is not below the count; else the row of the number, and what is behind it
pub record PlacesNumber (shape : Shape) (n : ℕ) (row row' : List ℕ) (r : Result (Unit {0}) Refusal) : Type 0 where
  pub answer : outcome_code r ≡ first_cause ((leb (count shape) n, 7) ∷ [])
  pub placed : row' ≡ cond (eqb (outcome_code r) 0) (row_of shape n ++ drop shape.chains row) row
