-- Document 01, "Spread, number to row" and "Gather, row to number".
use Rattle.std.specs.Prelude.{◌≡◌, Bool, false, not, ◌||◌, cond, List, [], ◌∷◌, ◌++◌, ℕ, ◌<◌, ltb, leb, eqb, length, drop, Result}
use Rattle.std.specs.Result.{result_unwrap_or}
use Rattle.refusal.specs.Code.{outcome_code, first_cause}
use Rattle.refusal.specs.declared.Refusal.{Refusal}
use Rattle.numbers.specs.Number.{to_words}
use Rattle.profile.specs.declared.Shape.{Shape}
use Rattle.counts.specs.Counts.{count}
use Rattle.counts.specs.Table.{table_after}
use Rattle.counts.specs.Operations.{count_causes}
use Rattle.codewords.specs.Codeword.{codeword, rank, total, IsCodeword}

-- "A row belongs to a number when the placing rule above gives that row for it"
abbrev pub row_of : Shape → ℕ → List ℕ
row_of shape n = codeword shape.width shape.chains shape.sum n

-- the number of a row
abbrev pub number_of : Shape → List ℕ → ℕ
number_of shape row = rank shape.width shape.sum row

-- "Spread, number to row: 1, 2, 3, 5; 6 output under l bytes; 7 number not below the count"
unfoldable pub unrank_code : Shape → ℕ → (work row : List ℕ) → ℕ
unrank_code shape n work row =
    first_cause
    (count_causes shape (length work) ++ ((ltb (length row) shape.chains, 6) ∷ (leb (count shape) n, 7) ∷ []))

-- what Spread answers and leaves: the table after a success and after 7, the row after a success, nothing else
pub record Unranks (shape : Shape) (n : ℕ) (work row work' row' : List ℕ) (r : Result (Unit {0}) Refusal) : Type 0 where
  pub code : outcome_code r ≡ unrank_code shape n work row
  pub table : work' ≡ table_after (unrank_code shape n work row) shape work
  pub written : row' ≡ cond (eqb (unrank_code shape n work row) 0) (row_of shape n ++ drop shape.chains row) row

-- "a length above w − 1"
unfoldable pub some_above : ℕ → List ℕ → Bool
some_above w [] = false
some_above w (a ∷ row) = leb w a || some_above w row

-- the causes of Gather that look at the row
abbrev pub row_causes : Shape → List ℕ → List (Bool × ℕ)
row_causes shape row =
    (not (eqb (length row) shape.chains), 8) ∷ (some_above shape.width row, 9) ∷ (not (eqb (total row) shape.sum), 10) ∷ []

-- "Gather, row to number: 1, 2, 3, 5; 8 the row hasn't l bytes; 9 a length above w − 1; 10 sum other than s"
unfoldable pub rank_code : Shape → (row work : List ℕ) → ℕ
rank_code shape row work = first_cause (count_causes shape (length work) ++ row_causes shape row)

-- what Gather answers and leaves; a refusal is read as the number zero
pub record Ranks (shape : Shape) (row work work' : List ℕ) (r : Result (List ℕ) Refusal) : Type 0 where
  pub code : outcome_code r ≡ rank_code shape row work
  pub ranked : result_unwrap_or r (to_words 5 0) ≡ to_words 5 (cond (eqb (rank_code shape row work) 0) (number_of shape row) 0)
  pub table : work' ≡ table_after (rank_code shape row work) shape work

-- "Spread, number to row" and "Gather, row to number": each undoes the other
pub record RankUnrank : Type 0 where
  pub ranked : (shape : Shape) (n : ℕ) → n < count shape → number_of shape (row_of shape n) ≡ n
  pub unranked : (shape : Shape) (row : List ℕ) → IsCodeword shape.width shape.chains shape.sum row
      → (number_of shape row < count shape)
      × (row_of shape (number_of shape row) ≡ row)
