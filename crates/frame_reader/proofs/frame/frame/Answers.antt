-- The fixed bytes stand, and behind them as many more as the frame's size allows.
use Rattle.std.proofs.Common.{◌≡◌, ◌+◌, ◌*◌, ◌<◌, ◌≤◌, Some, None, length, drop, arith, sym, ◌∙◌}
use Rattle.frames.specs.Frames.{frame_at}
use Rattle.frames.specs.Lines.{read_frame}
use Rattle.frame_reader.specs.inner.Parser.{step_of}
use Rattle.frame_reader.proofs.ParserLaws.{found-few, parsed-other, parsed-none, parsed-found}
use Rattle.frame_reader.proofs.PlaceLaws.{first-frame}
use Rattle.frame_reader.proofs.frame.frame.Goals as goal
use Rattle.frame_reader.proofs.frame.frame.Goals.{In_ok-n}

pub returns-then-k-eq0 : goal.returns-then-k-eq0
returns-then-k-eq0 c =
    let a = c.args in
    c.first_line.ensures ∙ first-frame a.sheet.now a.limited.profile a.k a.at c.if-k-eq0.true (c.requires.1 c.if-k-eq0.true)

pub returns-then-not-head_stands : goal.returns-then-not-head_stands
returns-then-not-head_stands c =
    let a = c.args in
    let size = c.frame_size-size.result in
    parsed-other (frame_at a.limited.profile a.k) size c.frame_size-size.ensures a.at (drop a.at a.sheet.now) (drop (a.at + 2 * size.fixed) a.sheet.now)
    c.head_stands.result c.head_stands.ensures c.if-not-head_stands.true

pub returns-in_err-n : goal.returns-in_err-n
returns-in_err-n c =
    let a = c.args in
    let size = c.frame_size-size.result in
    c.from_residual.ensures
    ∙ parsed-none (frame_at a.limited.profile a.k) size c.frame_size-size.ensures a.at (drop a.at a.sheet.now) (drop (a.at + 2 * size.fixed) a.sheet.now)
    c.head_stands.result c.head_stands.ensures c.if-not-head_stands.false (sym c.in_err-n.ensures)

-- what follows from the number of bytes that were found
few : (c : In_ok-n) → c.in_ok-n.n ≤ 200
few c = omega (arith, found-few c.frame_size-size.result.high c.in_ok-n.n _ (sym c.in_ok-n.ensures))

counted : (c : In_ok-n) → let a = c.args in let size = c.frame_size-size.result in let n = c.in_ok-n.n in
    let answer = step_of a.at (length (frame_at a.limited.profile a.k).head) (read_frame (frame_at a.limited.profile a.k) (drop a.at a.sheet.now)) in
    (size.low ≤ n → Some (a.at + 2 * (size.fixed + n) + 1) ≡ answer) × (n < size.low → None ≡ answer)
counted c =
    let a = c.args in
    let size = c.frame_size-size.result in
    parsed-found (frame_at a.limited.profile a.k) size c.frame_size-size.ensures a.at (drop a.at a.sheet.now) (drop (a.at + 2 * size.fixed) a.sheet.now)
    c.head_stands.result c.head_stands.ensures c.in_ok-n.n c.if-not-head_stands.false (sym c.in_ok-n.ensures)

pub returns-then-n-size : goal.returns-then-n-size
returns-then-n-size c = (counted (goal.at.returns-then-n-size c).In_ok-n).1 c.if-n-size.true

pub overflow_add-result : goal.overflow_add-result
overflow_add-result c = omega (arith, few (goal.at.overflow_add-result c).In_ok-n)

pub overflow_mul-result : goal.overflow_mul-result
overflow_mul-result c = omega (arith, few (goal.at.overflow_mul-result c).In_ok-n)

pub overflow_add-result-2 : goal.overflow_add-result-2
overflow_add-result-2 c = omega (arith, few (goal.at.overflow_add-result-2 c).In_ok-n)

pub overflow_add-result-3 : goal.overflow_add-result-3
overflow_add-result-3 c = omega (arith, few (goal.at.overflow_add-result-3 c).In_ok-n)

pub returns : goal.returns
returns c = (counted (goal.at.returns c).In_ok-n).0 c.if-n-size.false
