-- The causes that do not look at the sheet's slice, the room, then the frames, and behind them the text.
use Rattle.std.proofs.Common.{◌≡◌, ◌+◌, ◌*◌, ◌≤◌, ℕ, List, length, arith, rules}
use Rattle.std.specs.Prelude.{Err}
use borrow.Author.Tests.{ltb-true, ltb-false}
use Rattle.refusal.specs.declared.Refusal.TheVariants.{OutputTooShort}
use Rattle.refusal.proofs.Causes.{granted-none}
use Rattle.profile.specs.declared.Profile.{Profile}
use Rattle.profile.proofs.Limits.{profile-limits}
use Rattle.frames.specs.Frames.{frames, frame_at, text_frame}
use Rattle.frames.specs.inner.Size.{behind_all}
use Rattle.frames.proofs.FrameLaws.{line-long}
use Rattle.frames.proofs.FrameList.{behind-frames}
use Rattle.frames.proofs.FrameNumbers.{length-frames, edition_long, text_at}
use Rattle.sheet_writer.specs.Operations.{carried_causes}
use Rattle.sheet_writer.proofs.WriteAnswer.{Fit, carried_fit, length-sheet, text_written, carried-refused, no_room, sheet-written}
use Rattle.sheet_writer.proofs.writer.write_sheet.Goals as goal

-- the sheet is short
sheet_short : (p : Profile) (signature message : List ℕ) → Fit p signature message → behind_all 0 (frames p) + 2 * length message + 3 ≤ 2400
sheet_short p signature message fit =
    let limits = profile-limits p fit.passed in
    omega (arith, behind-frames p, edition_long p.edition, limits.0.few_chains, limits.1, fit.short_text)

pub returns-in_err-check_carried : goal.returns-in_err-check_carried
returns-in_err-check_carried c =
    let a = c.args in
    let told : c.from_residual.result ≡ Err c.in_err-check_carried.field-0.0 = search rules in
    carried-refused a.p a.signature.now a.message.now a.sheet.now c.in_err-check_carried.was c.check_carried.ensures told

pub overflow_add-length : goal.overflow_add-length
overflow_add-length c =
    let a = c.args in
    let none = granted-none (carried_causes a.p a.signature.now a.message.now) c.in_ok-check_carried.was c.check_carried.ensures in
    let fit = carried_fit a.p a.signature.now a.message.now none in
    omega (arith, c.lines_length.ensures, sheet_short a.p a.signature.now a.message.now fit)

pub overflow_add-length-2 : goal.overflow_add-length-2
overflow_add-length-2 c =
    let a = c.args in
    let none = granted-none (carried_causes a.p a.signature.now a.message.now) c.in_ok-check_carried.was c.check_carried.ensures in
    let fit = carried_fit a.p a.signature.now a.message.now none in
    omega (arith, c.lines_length.ensures, sheet_short a.p a.signature.now a.message.now fit)

pub invariant_of-limited : goal.invariant_of-limited
invariant_of-limited c =
    let a = c.args in
    let none = granted-none (carried_causes a.p a.signature.now a.message.now) c.in_ok-check_carried.was c.check_carried.ensures in
    record { sizes = profile-limits a.p (carried_fit a.p a.signature.now a.message.now none).passed }

pub returns-in_err-refuse_if : goal.returns-in_err-refuse_if
returns-in_err-refuse_if c =
    let a = c.args in
    let none = granted-none (carried_causes a.p a.signature.now a.message.now) c.in_ok-check_carried.was c.check_carried.ensures in
    let fit = carried_fit a.p a.signature.now a.message.now none in
    let told : c.from_residual-in_err-refuse_if.result ≡ Err OutputTooShort = search rules in
    let short = ltb-true _ _ c.in_err-refuse_if.ensures.refused.1 in
    no_room a.p a.signature.now a.message.now a.sheet.now none
    (omega (arith, short, length-sheet a.p a.signature.now a.message.now fit.whole, c.lines_length.ensures)) told

pub write_frames-text-requires : goal.write_frames-text-requires
write_frames-text-requires c =
    let a = c.args in
    let none = granted-none (carried_causes a.p a.signature.now a.message.now) c.in_ok-check_carried.was c.check_carried.ensures in
    let fit = carried_fit a.p a.signature.now a.message.now none in
    let room = ltb-false _ _ c.in_ok-refuse_if.ensures.granted in
    (fit.whole, omega (arith, room, c.lines_length.ensures))

pub write_frame-end-requires : goal.write_frame-end-requires
write_frame-end-requires c =
    let a = c.args in
    let none = granted-none (carried_causes a.p a.signature.now a.message.now) c.in_ok-check_carried.was c.check_carried.ensures in
    let fit = carried_fit a.p a.signature.now a.message.now none in
    let room = ltb-false _ _ c.in_ok-refuse_if.ensures.granted in
    let all : frame_at a.p c.frame_count.result ≡ text_frame = text_at a.p c.frame_count.result (omega (arith, c.frame_count.ensures)) in (
      omega (arith, c.frame_count.ensures, length-frames a.p),
      rw all (omega (
        arith,
        room,
        c.write_frames-text.ensures.0,
        c.lines_length.ensures,
        c.write_frames-text.auto.sheet,
        line-long text_frame.head a.message.now,
      )),
    )

pub returns : goal.returns
returns c =
    let a = c.args in
    let none = granted-none (carried_causes a.p a.signature.now a.message.now) c.in_ok-check_carried.was c.check_carried.ensures in
    let fit = carried_fit a.p a.signature.now a.message.now none in
    let room = ltb-false _ _ c.in_ok-refuse_if.ensures.granted in
    let all : frame_at a.p c.frame_count.result ≡ text_frame = text_at a.p c.frame_count.result (omega (arith, c.frame_count.ensures)) in
    let frame = rw all at c.write_frame-end.ensures in
    let whole = text_written a.p a.signature.now a.message.now fit.whole a.sheet.now c.write_frames-text.ensures.0 frame.0
    c.write_frames-text.ensures.1 frame.1 in
    sheet-written a.p a.signature.now a.message.now a.sheet.now none
    (omega (arith, room, length-sheet a.p a.signature.now a.message.now fit.whole, c.lines_length.ensures)) whole.0 whole.1
