-- The bytes and the steps of the gate profile.
use mathlib.Core.Path.{refl}
use Rattle.one_time.proofs.RecoverLaws.{steps-below}
use Rattle.signature.specs.Signature.{signature_length}
use Rattle.claims.specs.Gate.{gate_shape}
use Rattle.claims.proofs.gate_figures.Goals as goal

pub returns : goal.returns
unfolding signature_length
returns c = record { bytes = λ edition. refl; steps = steps-below gate_shape }
