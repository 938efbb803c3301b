-- Document 01, "Leaf key", "Reveal, number to l values" and "Recover, number and values to leaf key and steps".
use Rattle.std.specs.Prelude.{◌≡◌, Bool, not, cond, List, [], ◌∷◌, ◌++◌, ℕ, ◌*◌, ltb, leb, eqb, length, drop, replicate, Result}
use Rattle.std.specs.Result.{result_unwrap_or}
use Rattle.refusal.specs.Code.{outcome_code, first_cause}
use Rattle.refusal.specs.declared.Refusal.{Refusal}
use Rattle.profile.specs.Checks.{profile_causes, leaf_beyond}
use Rattle.profile.specs.declared.Shape.{Shape}
use Rattle.profile.specs.declared.Profile.{Profile}
use Rattle.counts.specs.Counts.{count}
use Rattle.counts.specs.Table.{table_causes, table_after}
use Rattle.codewords.specs.Operations.{row_of}
use Rattle.tweak.specs.Tweak.{first_domain}
use Rattle.tweak.specs.declared.Domain.{Domain}
use Rattle.chains.specs.Leaves.{chains_of, revealed, leaf_key_of, recovered, steps_left}
use Rattle.chains.specs.declared.steps.Walked.{Walked}

-- "Leaf key and Root: profile checks; Leaf key also 11, leaf not below 2^h"
unfoldable pub leaf_key_code : Profile → (leaf : ℕ) → ℕ
leaf_key_code p leaf = first_cause (profile_causes p ++ ((leaf_beyond p.height leaf, 11) ∷ []))

-- what Leaf key answers; a refusal is read as a key of zeros
pub record LeafKeys (p : Profile) (seed secret : List ℕ) (leaf : ℕ) (r : Result (List ℕ) Refusal) : Type 0 where
  pub code : outcome_code r ≡ leaf_key_code p leaf
  pub key : result_unwrap_or r (replicate 16 0)
      ≡ cond (eqb (leaf_key_code p leaf) 0) (leaf_key_of (first_domain seed) p secret leaf) (replicate 16 0)

-- the causes of Reveal and Recover between 5 and 7: the size of the values, with the code that each has for it, and 11
abbrev pub own_causes : (height leaf : ℕ) (wrong : Bool) (size : ℕ) → List (Bool × ℕ)
own_causes height leaf wrong size = (wrong, size) ∷ (leaf_beyond height leaf, 11) ∷ []

-- "profile checks, 5", those, and "7"
unfoldable pub place_code : Profile → (leaf n : ℕ) (wrong : Bool) (size : ℕ) (work : List ℕ) → ℕ
place_code p leaf n wrong size work =
    first_cause (table_causes p (length work) ++ (own_causes p.height leaf wrong size ++ ((leb (count p.shape) n, 7) ∷ [])))

-- "Reveal, number to l values: profile checks, 5, 6 (16 × l bytes), 11, 7"
abbrev pub reveal_code : Profile → (leaf n : ℕ) (work values : List ℕ) → ℕ
reveal_code p leaf n work values = place_code p leaf n (ltb (length values) (16 * p.shape.chains)) 6 work

-- the values that Reveal shows
unfoldable pub revealed_by : Domain → Profile → (secret : List ℕ) (leaf n : ℕ) → List ℕ
revealed_by d p secret leaf n = revealed d (chains_of p.shape) secret leaf (row_of p.shape n)

-- what Reveal answers and leaves
pub record Reveals (p : Profile) (seed secret : List ℕ) (leaf n : ℕ) (work values work' values' : List ℕ)
    (r : Result (Unit {0}) Refusal) : Type 0 where
  pub code : outcome_code r ≡ reveal_code p leaf n work values
  pub table : work' ≡ table_after (reveal_code p leaf n work values) p.shape work
  pub written : values'
      ≡ cond (eqb (reveal_code p leaf n work values) 0)
      (revealed_by (first_domain seed) p secret leaf n ++ drop (16 * p.shape.chains) values)
      values

-- "Recover …: profile checks, 5; 13 values not 16 × l bytes; 11, 7"
abbrev pub recover_code : Profile → (leaf n : ℕ) (values work : List ℕ) → ℕ
recover_code p leaf n values work = place_code p leaf n (not (eqb (length values) (16 * p.shape.chains))) 13 work

-- the leaf key that Recover finds
unfoldable pub recovered_by : Domain → Profile → (leaf n : ℕ) (values : List ℕ) → List ℕ
recovered_by d p leaf n values = recovered d (chains_of p.shape) leaf (row_of p.shape n) values

-- "A chain step is one type 0 hash; the steps reported are those made": the sum over the chains
unfoldable pub steps_of : Shape → (n : ℕ) → ℕ
steps_of shape n = steps_left (chains_of shape) (row_of shape n)

-- "Steps are 0 when refused": what a refusal is read as
abbrev pub no_walk : Walked
no_walk = record { value = replicate 16 0; steps = 0 }

-- what Recover answers and leaves
pub record Recovers (p : Profile) (seed : List ℕ) (leaf n : ℕ) (values work work' : List ℕ) (r : Result Walked Refusal) : Type 0 where
  pub code : outcome_code r ≡ recover_code p leaf n values work
  pub key : (result_unwrap_or r no_walk).value
      ≡ cond (eqb (recover_code p leaf n values work) 0) (recovered_by (first_domain seed) p leaf n values) (replicate 16 0)
  pub steps : (result_unwrap_or r no_walk).steps ≡ cond (eqb (recover_code p leaf n values work) 0) (steps_of p.shape n) 0
  pub table : work' ≡ table_after (recover_code p leaf n values work) p.shape work
