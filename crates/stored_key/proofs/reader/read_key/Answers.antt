-- A frame as long as neither edition's is no stored key.
use Rattle.std.proofs.Common.{refl, arith}
use Rattle.stored_key.proofs.ReadAnswer.{no-key, wrong-answer, other-long}
use Rattle.stored_key.proofs.reader.read_key.Goals as goal

pub returns-else-frame : goal.returns-else-frame
returns-else-frame c =
    let frame = c.args.frame.now in
    wrong-answer frame (no-key frame (other-long frame (λ e. omega arith) (λ e. omega arith))) refl refl
