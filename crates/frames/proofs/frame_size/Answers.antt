-- `frame_size` meets its contract, frame by frame.
use Rattle.std.proofs.Common.{refl, sym, ◌∙◌, arith}
use Rattle.frames.specs.Frames.{profile_frame, frames}
use Rattle.frames.proofs.FrameNumbers.{at-number, text-size, numbered-size, profile-long, edition_long}
use Rattle.frames.proofs.frame_size.Goals as goal

pub returns-in-0 : goal.returns-in-0
unfolding frames
returns-in-0 c = at-number c.args.p c.in-0.is refl refl refl (omega arith) (omega arith) c.sized.ensures

pub returns-in-1 : goal.returns-in-1
unfolding frames profile_frame
returns-in-1 c =
    let long = c.profile_bytes.ensures in
    at-number c.args.p c.in-1.is (profile-long c.args.p ∙ sym long) refl refl (omega (arith, long, edition_long c.args.p.edition)) (omega arith)
    c.sized-in-1.ensures

pub returns-in-2 : goal.returns-in-2
unfolding frames
returns-in-2 c = at-number c.args.p c.in-2.is refl refl refl (omega arith) (omega arith) c.sized-in-2.ensures

pub returns-in-3 : goal.returns-in-3
unfolding frames
returns-in-3 c = at-number c.args.p c.in-3.is refl refl refl (omega arith) (omega arith) c.sized-in-3.ensures

pub returns-in_default : goal.returns-in_default
returns-in_default c = numbered-size c.args.p c.args.k (omega arith) (omega (arith, c.frame_count.ensures)) c.sized-in_default.ensures

pub returns-in_default-2 : goal.returns-in_default-2
returns-in_default-2 c = text-size c.args.p c.args.k (omega (arith, c.frame_count.ensures))
