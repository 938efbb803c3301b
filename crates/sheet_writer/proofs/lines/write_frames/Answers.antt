-- Each turn writes the line of the next frame, with as many of the bytes that are left as it takes.
use Rattle.std.proofs.Common.{◌≡◌, [], ◌+◌, ◌≤◌, length, take, drop, sym, ap, ◌∙◌, arith}
use lib.ListN.{drop_of_length-le}
use Rattle.frames.specs.Frames.{frames, frame_at}
use Rattle.frames.specs.inner.Size.{behind_all}
use Rattle.frames.proofs.FrameList.{frames-total, behind-frames}
use Rattle.frames.proofs.FrameNumbers.{frames-cut}
use Rattle.sheet_writer.proofs.LineLaws.{writing_room, writing_next, writing_all, first-written, past_first}
use Rattle.sheet_writer.proofs.lines.write_frames.Goals as goal

pub write_first_line-at-requires : goal.write_first_line-at-requires
write_first_line-at-requires c = omega (arith, c.requires.1, behind-frames c.args.limited.profile)

pub loop-k-init : goal.loop-k-init
loop-k-init c =
    let p = c.args.limited.profile in
    let first = c.write_first_line-at.ensures in
    rw first.0 (first-written p c.args.signature.now c.args.sheet.now first.1 (c.requires.0 ∙ sym (frames-total p)))

pub write_frame-at-requires : goal.write_frame-at-requires
write_frame-at-requires c =
    let p = c.args.limited.profile in
    let l = c.loop-k in
    let f = frame_at p l.k in
    let left = rw (frames-cut p l.k (omega (arith, c.frame_count-k-end.ensures))) at l.invariant in
    let room : behind_all 0 (frames p) ≤ length c.write_first_line-at.new.sheet = omega (arith, c.requires.1, c.write_first_line-at.auto.sheet) in
    let cut : c.split_at.result.0.now ≡ take f.high l.rest.now = c.split_at.ensures.front ∙ ap (λ n. take n l.rest.now) c.frame_size.ensures.high in (
      c.loop-k.auto.k,
      writing_room (frames p) c.args.signature.now c.write_first_line-at.new.sheet f (drop (l.k + 1) (frames p)) l.sheet l.rest.now _ l.at room
          cut left,
    )

pub loop-k-preserved : goal.loop-k-preserved
loop-k-preserved c =
    let p = c.args.limited.profile in
    let l = c.loop-k in
    let f = frame_at p l.k in
    let left = rw (frames-cut p l.k (omega (arith, c.frame_count-k-end.ensures))) at l.invariant in
    let room : behind_all 0 (frames p) ≤ length c.write_first_line-at.new.sheet = omega (arith, c.requires.1, c.write_first_line-at.auto.sheet) in
    let cut : c.split_at.result.0.now ≡ take f.high l.rest.now = c.split_at.ensures.front ∙ ap (λ n. take n l.rest.now) c.frame_size.ensures.high in
    let behind : c.split_at.result.1.now ≡ drop f.high l.rest.now = c.split_at.ensures.back ∙ ap (λ n. drop n l.rest.now) c.frame_size.ensures.high in
    rw behind (writing_next (frames p) c.args.signature.now c.write_first_line-at.new.sheet f (drop (l.k + 1) (frames p)) l.sheet l.rest.now _ l.at
    room cut left c.write_frame-at.ensures.0 c.write_frame-at.ensures.1)

pub returns : goal.returns
returns c =
    let p = c.args.limited.profile in
    let l = c.loop-k in
    let none : drop l.k (frames p) ≡ [] = drop_of_length-le (frames p) {i = l.k} (omega (arith, c.frame_count-k-end.ensures)) in
    let all = writing_all (frames p) c.args.signature.now c.write_first_line-at.new.sheet (rw none at l.invariant) in
    (all.0, all.1 ∙ rw (past_first c.args.sheet.now l.at c.write_first_line-at.ensures.1 (omega (arith, all.0, behind-frames p))))
