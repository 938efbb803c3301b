-- The row of a number below the count is a codeword, also in front of what else an array has.
use mathlib.Core.Path.{◌≡◌}
use mathlib.Core.List.{List, ◌++◌}
use Prim.Native.Nat.{ℕ, ◌<◌}
use lib.ListN.{take}
use lib.Seq.{take_at}
use Rattle.profile.specs.declared.Shape.{Shape}
use Rattle.counts.specs.Counts.{count}
use Rattle.codewords.specs.Codeword.{IsCodeword}
use Rattle.codewords.specs.Operations.{row_of}
use Rattle.codewords.proofs.CodewordLaws.{codeword_valid}

module _ (shape : Shape) (n : ℕ) (below : n < count shape) where
  pub row_valid : IsCodeword shape.width shape.chains shape.sum (row_of shape n)
  unfolding count
  row_valid = codeword_valid shape.width shape.chains shape.sum n below

  pub row_front : (more : List ℕ) → take shape.chains (row_of shape n ++ more) ≡ row_of shape n
  row_front more = take_at (row_of shape n) more shape.chains row_valid.lengths.chains
