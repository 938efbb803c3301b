-- Recover gives back the leaf key of what Reveal shows, with l × (w − 1) − s steps.
use Rattle.one_time.proofs.RecoverLaws.{steps-below, recovers-revealed}
use Rattle.claims.proofs.recovers_revealed.Goals as goal

pub returns : goal.returns
returns c d p secret leaf n below = (recovers-revealed d p secret leaf n below, steps-below p.shape n below)
