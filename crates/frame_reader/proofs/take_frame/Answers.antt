-- A frame that stands leads to the next line, and a wrong one leaves the number of its line.
use Rattle.std.proofs.lemmas.Result.{err_from_is_err_and}
use Rattle.frames.specs.Frames.{frame_at}
use Rattle.frame_reader.proofs.PlaceLaws.{after-wrong, after_next}
use Rattle.frame_reader.proofs.take_frame.Goals as goal

pub returns-in_err-at : goal.returns-in_err-at
returns-in_err-at c =
    let a = c.args in
    let told = err_from_is_err_and c.from_residual.result c.from_residual.ensures.1 in
    rw (told.1, told.2) (after-wrong a.sheet.now (frame_at a.limited.profile a.k) a.here c.frame.result c.frame.ensures c.in_err-at.ensures.value)

pub returns : goal.returns
returns c =
    let a = c.args in
    after_next a.sheet.now (frame_at a.limited.profile a.k) a.here c.frame.result c.frame.ensures c.in_ok-at.ensures.value
