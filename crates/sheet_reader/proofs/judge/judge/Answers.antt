-- Behind the other frames stands the text, and behind that the sheet ends.
use Rattle.std.proofs.Common.{◌≡◌, ◌+◌, ◌≤◌, ◌<◌, Ok, Err, length, ap, ◌∙◌, arith, rules}
use Rattle.refusal.specs.declared.Refusal.TheVariants.{SheetLine}
use Rattle.frames.specs.Frames.{text_frame}
use Rattle.frames.proofs.FrameNumbers.{text_at}
use Rattle.frame_reader.specs.Places.{place_after}
use Rattle.sheet_reader.specs.Sheet.{read_sheet}
use Rattle.sheet_reader.specs.inner.Judging.{judgement}
use Rattle.sheet_reader.proofs.JudgeLaws.{judged_small, line_judged, text_last, text_judged, handed-on, cause_judged, end_room, end_more, end_right}
use Rattle.sheet_reader.proofs.judge.judge.Goals as goal
use Rattle.sheet_reader.proofs.judge.judge.Goals.{In_ok-passed, After-frame_size}

-- what is known of the places that are passed
passed : (c : In_ok-passed) → c.take_frames.result ≡ Ok c.in_ok-passed.passed
passed c = handed-on c.args.limited.profile c.args.sheet.now c.frame_count-count.result c.frame_count-count.ensures c.take_frames.result c.take_frames.ensures c.map_err.ensures.cases c.in_ok-passed.was

last : (c : In_ok-passed) → place_after c.args.sheet.now text_frame (Ok c.in_ok-passed.passed.text) ≡ Ok c.in_ok-passed.passed.end
last c = text_last c.args.limited.profile c.args.sheet.now c.frame_count-count.result c.frame_count-count.ensures c.take_frames.result c.take_frames.ensures (passed c)

-- the text has at least one byte behind its kind, and its ending
room : (c : In_ok-passed) → let v = c.in_ok-passed.passed in v.text.at + 3 ≤ v.end.at
room c = let v = c.in_ok-passed.passed in end_room c.args.sheet.now v.text v.end (last c)

-- behind it something stands
more : (c : In_ok-passed) → let v = c.in_ok-passed.passed in v.end.at < length c.args.sheet.now
    → Err (SheetLine v.end.line) ≡ judgement (read_sheet c.args.limited.profile c.args.sheet.now)
more c h =
    let a = c.args in
    let v = c.in_ok-passed.passed in
    end_more a.sheet.now v.text v.end (last c) h
    ∙ text_judged a.limited.profile a.sheet.now c.frame_count-count.result c.frame_count-count.ensures c.take_frames.result c.take_frames.ensures (passed c)

pub map_err-requires : goal.map_err-requires
map_err-requires c = λ there e.
    let a = c.args in
    let small = judged_small a.limited.profile a.sheet.now c.args.limited.sizes
    (line_judged a.limited.profile a.sheet.now c.frame_count-count.result c.frame_count-count.ensures c.take_frames.result c.take_frames.ensures {there = there} e) in
    omega arith

pub returns-in_err-passed : goal.returns-in_err-passed
returns-in_err-passed c =
    let a = c.args in
    let told : c.from_residual.result ≡ Err c.in_err-passed.field-0.0 = search rules in
    told ∙ cause_judged a.limited.profile a.sheet.now c.frame_count-count.result c.frame_count-count.ensures c.take_frames.result c.take_frames.ensures c.map_err.ensures.cases c.in_err-passed.was

pub wrong_line-requires : goal.wrong_line-requires
wrong_line-requires c =
    let small = judged_small c.args.limited.profile c.args.sheet.now c.args.limited.sizes (more (goal.at.wrong_line-requires c).In_ok-passed c.if-passed-sheet.true) in
    omega arith

pub returns-then-passed-sheet : goal.returns-then-passed-sheet
returns-then-passed-sheet c = ap Err c.wrong_line.ensures ∙ more (goal.at.returns-then-passed-sheet c).In_ok-passed c.if-passed-sheet.true

pub overflow_sub-result : goal.overflow_sub-result
overflow_sub-result c = omega (arith, room (goal.at.overflow_sub-result c).In_ok-passed)

pub overflow_sub-result-2 : goal.overflow_sub-result-2
overflow_sub-result-2 c = omega (arith, room (goal.at.overflow_sub-result-2 c).In_ok-passed)

-- the text's frame has one fixed byte
one_fixed : (c : After-frame_size) → c.frame_size.result.fixed ≡ 1
one_fixed c =
    c.frame_size.ensures.fixed ∙ ap (λ f. length f.head) (text_at c.args.limited.profile c.frame_count-count.result (omega (arith, c.frame_count-count.ensures)))

pub overflow_sub-result-3 : goal.overflow_sub-result-3
overflow_sub-result-3 c =
    let at = goal.at.overflow_sub-result-3 c in
    omega (arith, room at.In_ok-passed, one_fixed at.After-frame_size)

pub returns : goal.returns
returns c =
    let a = c.args in
    let v = c.in_ok-passed.passed in
    let at = goal.at.returns c in
    rw (one_fixed at.After-frame_size) (end_right a.sheet.now v.text v.end (last at.In_ok-passed) c.if-passed-sheet.false
    ∙ text_judged a.limited.profile a.sheet.now c.frame_count-count.result c.frame_count-count.ensures c.take_frames.result c.take_frames.ensures (passed at.In_ok-passed))
