-- An operation over the table: causes that are looked at first, then the table is filled, then causes that leave it there. What each way out answers and leaves.
use mathlib.Core.Path.{◌≡◌, refl, ◌∙◌, sym}
use mathlib.Core.Bool.{Bool, true, false, ◌||◌, not, true≢false}
use mathlib.Core.List.{List, [], ◌++◌}
use Prim.Native.Nat.{ℕ}
use lib.Dec.{eqb}
use Rattle.std.specs.Prelude.{Result, Ok, Err}
use Rattle.refusal.specs.Code.{code, outcome_code, first_cause}
use Rattle.refusal.specs.declared.Refusal.{Refusal}
use Rattle.refusal.proofs.Causes.{Avoids, Numbered, avoids_other, kind_then, refused_first, refused_avoids, granted-none, granted_first}
use Rattle.profile.specs.declared.Shape.{Shape}
use Rattle.counts.specs.Table.{with_table, leaves_table, table_after}
use Rattle.counts.proofs.Room.{not_granted}

-- refused before the table: the cause is the answer, whose code is neither 0 nor 15, and the work slice is as it was
pub record Refuses (n : ℕ) (cause : Refusal) : Type 0 where
  pub answer : code cause ≡ n
  pub some : eqb n 0 ≡ false
  pub not_fifteen : eqb n 15 ≡ false
  pub untouched : (shape : Shape) (work : List ℕ) → work ≡ table_after n shape work

-- granted so far: none of the causes held, and the others tell the answer
pub record Grants (n : ℕ) (causes others : List (Bool × ℕ)) : Type 0 where
  pub none : first_cause causes ≡ 0
  pub rest : n ≡ first_cause others

-- a code that leaves no table is not 15
not_fifteen : (n : ℕ) → leaves_table n ≡ false → eqb n 15 ≡ false
not_fifteen n e = by (eqb n 0) (eqb n 7) (eqb n 15) e
  where
    by : (zero seven fifteen : Bool) → (zero || seven || fifteen || eqb n 19) ≡ false → fifteen ≡ false
    by true seven fifteen e = absurd (true≢false e)
    by false true fifteen e = absurd (true≢false e)
    by false false true e = e
    by false false false e = refl

refuses : {n : ℕ} {cause : Refusal} → code cause ≡ n → leaves_table n ≡ false → Refuses n cause
unfolding table_after
refuses {n} answer before =
    record { answer = answer; some = not_granted n before; not_fifteen = not_fifteen n before; untouched = λ shape work. rw before refl }

numbered : (causes : List (Bool × ℕ)) → Avoids leaves_table causes → Numbered causes
numbered causes avoids = avoids_other leaves_table (λ k. eqb k 0) causes not_granted avoids

-- a call that looks at the first causes of an operation, none of which leaves the table
module _ (first others : List (Bool × ℕ)) (early : Avoids leaves_table first) {n : ℕ} (whole : n ≡ first_cause (first ++ others))
    {A : Type 0} {r : Result A Refusal} (looked : outcome_code r ≡ first_cause first) where
  pub refused : {cause : Refusal} → r ≡ Err cause → Refuses n cause
  refused {cause} was =
      let answer : code cause ≡ n = refused_first first others was looked ∙ sym whole in
      refuses answer (rw answer at (refused_avoids leaves_table first early was looked))

  pub granted : {v : A} → r ≡ Ok v → Grants n first others
  granted was =
      record { none = granted-none first was looked; rest = whole ∙ granted_first first others (numbered first early) was looked }

-- two such calls, the second for the operation's own causes, and behind the table the causes of `after`
module _ (first own after : List (Bool × ℕ)) (early : Avoids leaves_table first) (between : Avoids leaves_table own)
    {n : ℕ} (whole : n ≡ first_cause (first ++ (own ++ after)))
    {A B : Type 0} {r : Result A Refusal} {s : Result B Refusal} (checked : outcome_code r ≡ first_cause first) {v : A} (passed : r ≡ Ok v)
    (looked : outcome_code s ≡ first_cause own) where
  pub refused-own : {cause : Refusal} → s ≡ Err cause → Refuses n cause
  refused-own was = refused own after between (granted first (own ++ after) early whole checked passed).rest looked was

  pub granted-own : {u : B} → s ≡ Ok u → Grants n own after
  granted-own was = granted own after between (granted first (own ++ after) early whole checked passed).rest looked was

-- once the table is filled: the causes that are left, and the answer's code, leave it
module _ (after : List (Bool × ℕ)) (late : Avoids (λ k. not (leaves_table k)) after) {n : ℕ} (rest : n ≡ first_cause after) where
  pub leaves : leaves_table n ≡ true
  leaves = rw rest (kind_then leaves_table [] after refl tt late)

  pub table-left : (shape : Shape) (work : List ℕ) {left : List ℕ} → left ≡ with_table shape work → left ≡ table_after n shape work
  unfolding table_after
  table-left shape work filled = filled ∙ rw leaves refl
