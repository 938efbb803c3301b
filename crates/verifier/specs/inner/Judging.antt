-- Check behind the causes before the table, for one order: what is known there, and what the judging answers.
use Rattle.std.specs.Prelude.{◌≡◌, Bool, false, not, cond, List, [], ◌∷◌, ◌++◌, ℕ, ◌≤◌, eqb, length, Result, OnOk, OnErr, IfOk}
use Rattle.refusal.specs.Code.{outcome_code, first_cause}
use Rattle.refusal.specs.declared.Refusal.{Refusal}
use Rattle.numbers.specs.Number.{value}
use Rattle.profile.specs.Checks.{InLimits}
use Rattle.signature.specs.Signature.{signature_length, leaf_in}
use Rattle.counts.specs.Counts.{count}
use Rattle.counts.specs.Table.{with_table, table_causes, Holds}
use Rattle.message.specs.Message.{count_too_small}
use Rattle.window.specs.Window.{passed}
use Rattle.verifier.specs.Verifying.{with_accepted, root_in, steps_in, same_bytes}
use Rattle.verifier.specs.Operations.{verify_causes}
use Rattle.verifier.specs.declared.Verifier.{Verifier}
use Rattle.verifier.specs.declared.Verdict.{Verdict}

-- past the causes before 19: all is within its limits, the signature has its length, and the leaf that it names is not passed; the work
-- slice holds the table, and its count is given
pub record Ready (v : Verifier) (counted message signature work : List ℕ) : Type 0 where
  pub limits : InLimits v.profile.shape
  pub low : v.profile.height ≤ 10
  pub short : length message ≤ 200
  pub long : length signature ≡ signature_length v.profile
  pub free : passed v.window (leaf_in signature) ≡ false
  pub held : Holds v.profile.shape work
  pub number : value counted ≡ count v.profile.shape

-- the causes behind the table: 19 "in 7's place", "15 recovered root differs"
abbrev pub judge_causes : Verifier → (message signature : List ℕ) → List (Bool × ℕ)
judge_causes v message signature =
    (count_too_small (count v.profile.shape), 19) ∷ (not (same_bytes (root_in v message signature) v.root), 15) ∷ []

-- the code of the first of them that holds
unfoldable pub judge_code : Verifier → (message signature : List ℕ) → ℕ
judge_code v message signature = first_cause (judge_causes v message signature)

-- "0 before the chains, the full sum for 15 and success"
unfoldable pub judge_steps : Verifier → (message signature : List ℕ) → ℕ
judge_steps v message signature = cond (count_too_small (count v.profile.shape)) 0 (steps_in v message signature)

-- what the judging answers, and the cabinet that it leaves
pub record Judges (v : Verifier) (message signature : List ℕ) (left : Verifier) (answer : Verdict) : Type 0 where
  pub code : outcome_code answer.outcome ≡ judge_code v message signature
  pub verifier : left ≡ cond (eqb (judge_code v message signature) 0) (with_accepted v (leaf_in signature)) v
  pub steps : answer.steps ≡ judge_steps v message signature

-- and behind the causes before them: refused there, that code is answered, the cabinet is as it was, and no step is made
pub record JudgesBehind (early : Result (List ℕ) Refusal) (v : Verifier) (message signature : List ℕ) (left : Verifier)
    (answer : Verdict) : Type 0 where
  pub granted : OnOk early (Judges v message signature left answer)
  pub code : OnErr early (outcome_code answer.outcome ≡ outcome_code early)
  pub verifier : OnErr early (left ≡ v)
  pub steps : OnErr early (answer.steps ≡ 0)

-- the causes before the table
abbrev pub causes_before_table : Verifier → (message signature work : List ℕ) → List (Bool × ℕ)
causes_before_table v message signature work = table_causes v.profile (length work) ++ verify_causes v (length message) signature

-- what looking at those gives: refused, nothing is written; granted, the table is filled, and its count given
pub record Fills (v : Verifier) (message signature work work' : List ℕ) (answer : Result (List ℕ) Refusal) : Type 0 where
  pub code : outcome_code answer ≡ first_cause (causes_before_table v message signature work)
  pub kept : OnErr answer (work' ≡ work)
  pub filled : OnOk answer (work' ≡ with_table v.profile.shape work)
  pub ready : IfOk answer (λ counted. Ready v counted message signature work')
