-- The answer to a request: the rows where Count grants the shape, else its refusal.
use mathlib.Core.Path.{◌≡◌, sym, ap, ◌∙◌}
use mathlib.Core.List.{List}
use Prim.Native.Nat.{ℕ, min}
use lib.ListN.{length}
use Rattle.std.specs.Prelude.{Result, Ok, Err}
use Rattle.refusal.specs.Code.{code, outcome_code, first_cause}
use Rattle.refusal.specs.declared.Refusal.{Refusal}
use Rattle.refusal.proofs.Causes.{refused-number}
use Rattle.numbers.specs.Number.{value}
use Rattle.profile.specs.Checks.{InLimits}
use Rattle.profile.specs.declared.Shape.{Shape}
use Rattle.counts.specs.Counts.{count}
use Rattle.counts.specs.Table.{table_after, Holds}
use Rattle.counts.specs.Operations.{count_causes, count_code, Counts}
use Rattle.counts.proofs.Answer.{count-value, table-held}
use Rattle.counts.proofs.Room.{count-passed}
use Rattle.listing.specs.Listing.{row_lines, refusal_line, listing_code, answer_to, work_after, table_words}

-- what Count answers of a work slice of 16,000 words
module _ (shape : Shape) (work left : List ℕ) {r : Result (List ℕ) Refusal} (answer : Counts shape work left r) (words : length work ≡ 16000) where
  number_is : outcome_code r ≡ listing_code shape
  unfolding count_code listing_code table_words
  number_is = answer.code ∙ ap (λ n. first_cause (count_causes shape n)) words

  pub refusal_answer : {cause : Refusal} → r ≡ Err cause → answer_to (Ok shape) ≡ refusal_line (code cause)
  unfolding answer_to
  refusal_answer {cause} refused =
      let number : listing_code shape ≡ code cause = sym number_is ∙ ap outcome_code refused in
      rw (refused-number refused number_is, number)

  pub table-left : left ≡ work_after (Ok shape) work
  unfolding work_after
  table-left = answer.table ∙ ap (λ k. table_after k shape work) (sym answer.code ∙ number_is)

  module _ {n : List ℕ} (granted : r ≡ Ok n) where
    no_cause : first_cause (count_causes shape (length work)) ≡ 0
    unfolding count_code
    no_cause = sym answer.code ∙ ap outcome_code granted

    pub rows-answer : answer_to (Ok shape) ≡ row_lines shape
    unfolding answer_to
    rows-answer = let none : listing_code shape ≡ 0 = sym number_is ∙ ap outcome_code granted in rw none

    pub granted-limits : InLimits shape
    granted-limits = (count-passed shape (length work) no_cause).0

    -- the number of lines
    pub lines_are : (lines : ℕ) → lines ≡ min (value n) 256 → lines ≡ min (count shape) 256
    unfolding count_code
    lines_are lines e = e ∙ ap (λ n. min n 256) (count-value shape granted-limits (rw granted at answer.counted ∙ rw no_cause))

    pub granted-table : Holds shape left
    unfolding count_code table_after
    granted-table = table-held shape work (answer.table ∙ rw no_cause)
