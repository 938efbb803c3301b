-- Judged where the causes before it let it, and else refused as they refuse.
use Rattle.std.proofs.Common.{refl}
use Rattle.verifier.proofs.judge.Goals as goal

pub returns-in-Ok : goal.returns-in-Ok
returns-in-Ok c = rw c.in-Ok.is (record { granted = c.judge_order.ensures; code = tt; verifier = tt; steps = tt })

pub returns-in-Err : goal.returns-in-Err
returns-in-Err c = rw c.in-Err.is (record { granted = tt; code = refl; verifier = refl; steps = refl })
