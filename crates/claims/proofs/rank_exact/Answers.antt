-- Gather refuses exactly the rows that no number has.
use mathlib.Core.Path.{◌≡◌, ◌∙◌, sym}
use mathlib.Core.List.{◌++◌}
use Prim.Native.Nat.{ℕ, ◌<◌}
use lib.ListN.{length}
use Rattle.refusal.specs.Code.{first_cause}
use Rattle.refusal.proofs.Causes.{none_then}
use Rattle.counts.specs.Counts.{D, count}
use Rattle.counts.specs.Operations.{count_causes, count_code}
use Rattle.counts.proofs.Room.{count-numbered}
use Rattle.codewords.specs.Operations.{row_of, row_causes, rank_code}
use Rattle.codewords.proofs.CodewordLaws.{codeword_valid}
use Rattle.codewords.proofs.RankLaws.{row_codeword, codeword-passes}
use Rattle.codewords.proofs.OrderLaws.{complete}
use Rattle.claims.proofs.rank_exact.Goals as goal

pub returns : goal.returns
unfolding count count_code rank_code
returns c p row work none =
    let first = count_causes p (length work) in
    let then = none_then first (row_causes p row) none (count-numbered p (length work)) in
    let to : first_cause (first ++ row_causes p row) ≡ 0 → (n : ℕ) × (n < D p.width p.chains p.sum) × (row_of p n ≡ row) =
    λ zero'. complete p.width p.chains p.sum row (row_codeword p row (sym then ∙ zero')) in
    let from : (n : ℕ) × (n < D p.width p.chains p.sum) × (row_of p n ≡ row) → first_cause (first ++ row_causes p row) ≡ 0 =
    λ has. then ∙ codeword-passes p row (rw has.2 at (codeword_valid p.width p.chains p.sum has.0 has.1)) in
    (to, from)
