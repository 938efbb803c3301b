-- The count, the work slice that holds the table, and what Count answers.
use mathlib.Core.Path.{◌≡◌, refl, ◌∙◌, ap, sym}
use mathlib.Core.List.{List, [], ◌++◌, append-nil}
use Prim.Native.Nat.{ℕ, ◌+◌, ◌*◌, ◌^◌, ◌<◌}
use native.Mathlib.Omega.{arith}
use lib.ListN.{length, take, drop}
use Rattle.std.specs.Prelude.{Result, Ok, Err}
use Rattle.refusal.specs.Code.{outcome_code, first_cause}
use Rattle.refusal.specs.declared.Refusal.{Refusal}
use Rattle.numbers.specs.Number.{value, to_words}
use Rattle.numbers.proofs.NumberLaws.{value_to_words_5}
use Rattle.profile.specs.Checks.{InLimits}
use Rattle.profile.specs.declared.Shape.{Shape}
use Rattle.counts.specs.Counts.{count, CountsFit}
use Rattle.counts.specs.Table.{rows, table_length, with_table, Holds}
use Rattle.counts.specs.Operations.{count_causes, count_code, Counts}
use Rattle.counts.proofs.CountLaws.{D-small, D-some}
use Rattle.counts.proofs.Room.{count-early}
use Rattle.counts.proofs.TableLaws.{cell_row, above_row}
use Rattle.counts.proofs.TableOperation.{refused, granted, table-left}

-- the last number of a table is the count
pub last_cell : (shape : Shape) (more : List ℕ)
    → take 5 (drop (5 * (shape.chains * (shape.sum + 1) + shape.sum)) (rows shape.width shape.sum (shape.chains + 1) ++ more))
    ≡ to_words 5 (count shape)
unfolding count
last_cell shape more = cell_row shape.width shape.sum (shape.chains + 1) shape.chains shape.sum more (omega arith) (omega arith)

-- the count, as five words and back
module _ (shape : Shape) (limits : InLimits shape) where
  count-below : count shape < 2 ^ 160
  unfolding count
  count-below = D-small shape.width shape.chains shape.sum (omega (arith, limits.wide)) limits.narrow limits.few_chains

  -- some row has the sum
  pub count-some : 0 < count shape
  unfolding count
  count-some = D-some shape.width shape.chains shape.sum (omega (arith, limits.wide)) limits.reached

  pub count-value : {n : List ℕ} → n ≡ to_words 5 (count shape) → value n ≡ count shape
  count-value e = ap value e ∙ value_to_words_5 (count shape) count-below

pub counts_fit : CountsFit
counts_fit = record { below = count-below }

-- the work slice after the table is filled: it holds the table
pub table-held : (shape : Shape) (work : List ℕ) {left : List ℕ} → left ≡ with_table shape work → Holds shape left
unfolding with_table table_length Holds
table-held shape work e = above_row shape.width shape.sum (shape.chains + 1) (drop (table_length shape) work) _ e

-- what Count answers
count_whole : (shape : Shape) (work : List ℕ) → count_code shape work ≡ first_cause (count_causes shape (length work) ++ [])
unfolding count_code
count_whole shape work = ap first_cause (sym (append-nil (count_causes shape (length work))))

module _ (shape : Shape) (work : List ℕ) {r : Result (Unit {0}) Refusal} (checked : outcome_code r ≡ first_cause (count_causes shape (length work))) where
  pub count-refused : {cause : Refusal} {answer : Result (List ℕ) Refusal} → r ≡ Err cause → answer ≡ Err cause → Counts shape work work answer
  count-refused was e =
      let refuses = refused (count_causes shape (length work)) [] (count-early shape (length work)) (count_whole shape work) checked was in
      rw e (record { code = refuses.answer; counted = rw refuses.some refl; table = refuses.untouched shape work })

  pub count-granted : {v : Unit {0}} {n left : List ℕ} → r ≡ Ok v → n ≡ to_words 5 (count shape) → left ≡ with_table shape work → Counts shape work left (Ok n)
  count-granted was counted filled =
      let grants = granted (count_causes shape (length work)) [] (count-early shape (length work)) (count_whole shape work) checked was in
      record { code = sym grants.rest; counted = rw grants.rest counted; table = table-left [] tt grants.rest shape work filled }
