-- The steps that the checker makes for a codeword: l × (w − 1) − s in all.
use mathlib.Core.Path.{◌≡◌}
use mathlib.Core.List.{List, [], ◌∷◌}
use Prim.Native.Nat.{ℕ, ◌+◌, ◌-◌, ◌*◌}
use native.Mathlib.Nat.{suc-mul}
use native.Mathlib.Omega.{arith}
use lib.ListN.{length}
use Rattle.codewords.specs.Codeword.{total, IsCodeword}
use Rattle.codewords.proofs.CodewordLaws.{front}
use Rattle.chains.specs.Leaves.{steps_to}
use Rattle.chains.proofs.StepLaws.{steps_front}

-- the signer's steps and the checker's
steps-total : (w l s : ℕ) (row : List ℕ) → IsCodeword w l s row → steps_to w row (length row) + total row ≡ length row * (w - 1)
unfolding steps_to total
steps-total w l s [] is = omega arith
steps-total w l s (a ∷ row) is =
    let part = front is in
    omega (arith, part.below, steps_front w a row (length row), steps-total w (length row) (s - a) row part.rest, suc-mul (length row) (w - 1))

pub steps-codeword : (w l s : ℕ) (row : List ℕ) → IsCodeword w l s row → steps_to w row l ≡ l * (w - 1) - s
steps-codeword w l s row is = let all = rw is.lengths.chains at (steps-total w l s row is) in omega (arith, is.sum)
