-- What Reveal and Recover share: every cause, and the codeword of the number in a row.
use Rattle.std.specs.Prelude.{◌≡◌, Bool, List, ℕ, take, Result, IfOk}
use Rattle.refusal.specs.Code.{outcome_code}
use Rattle.refusal.specs.declared.Refusal.{Refusal}
use Rattle.profile.specs.declared.Profile.{Profile}
use Rattle.counts.specs.Table.{table_after}
use Rattle.codewords.specs.Operations.{row_of}
use Rattle.one_time.specs.Operations.{place_code}

-- what they answer and leave: the table after a success and after 7, and after a success a row that begins with the codeword
pub record Places (p : Profile) (leaf n : ℕ) (wrong : Bool) (size : ℕ) (work work' : List ℕ) (r : Result (List ℕ) Refusal) : Type 0 where
  pub code : outcome_code r ≡ place_code p leaf n wrong size work
  pub table : work' ≡ table_after (place_code p leaf n wrong size work) p.shape work
  pub placed : IfOk r (λ row. take p.shape.chains row ≡ row_of p.shape n)
