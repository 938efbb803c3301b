-- A check that no other cause refuses is decided by the recovered root.
use Rattle.claims.proofs.Judged.{judged-by-root}
use Rattle.claims.proofs.judged_by_root.Goals as goal

pub returns : goal.returns
returns c = judged-by-root
