-- Recover of what Reveal gave, for the same number and leaf: the leaf key, with l × (w − 1) − s steps.
use mathlib.Core.Path.{◌≡◌}
use mathlib.Core.List.{List}
use Prim.Native.Nat.{ℕ, ◌-◌, ◌*◌, ◌<◌}
use native.Mathlib.Omega.{arith}
use lib.ListN.{length}
use Rattle.profile.specs.declared.Shape.{Shape}
use Rattle.profile.specs.declared.Profile.{Profile}
use Rattle.counts.specs.Counts.{count}
use Rattle.codewords.specs.Operations.{row_of}
use Rattle.codewords.proofs.RowLaws.{row_valid}
use Rattle.one_time.proofs.StepLaws.{steps-codeword}
use Rattle.tweak.specs.declared.Domain.{Domain}
use Rattle.chains.specs.Leaves.{chains_of, leaf_key_of}
use Rattle.chains.proofs.LeafRecover.{length-revealed, recovered-revealed}
use Rattle.one_time.specs.Operations.{revealed_by, recovered_by, steps_of}

pub steps-below : (shape : Shape) (n : ℕ) → n < count shape → steps_of shape n ≡ shape.chains * (shape.width - 1) - shape.sum
unfolding steps_of
steps-below shape n below = steps-codeword shape.width shape.chains shape.sum (row_of shape n) (row_valid shape n below)

module _ (d : Domain) (p : Profile) (secret : List ℕ) (leaf n : ℕ) where
  pub length-revealed_by : length (revealed_by d p secret leaf n) ≡ 16 * p.shape.chains
  unfolding revealed_by
  length-revealed_by = length-revealed d (chains_of p.shape) secret leaf (row_of p.shape n)

  pub recovers-revealed : n < count p.shape → recovered_by d p leaf n (revealed_by d p secret leaf n) ≡ leaf_key_of d p secret leaf
  unfolding recovered_by revealed_by
  recovers-revealed below =
      recovered-revealed d (chains_of p.shape) secret leaf (row_of p.shape n)
      (λ c h. omega (arith, (row_valid p.shape n below).lengths.digits c h))
