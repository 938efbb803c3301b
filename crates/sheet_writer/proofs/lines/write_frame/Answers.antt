-- The fixed bytes, and behind them a line of the others, are the frame's line.
use Rattle.std.proofs.Common.{arith}
use Rattle.frames.specs.Frames.{frame_at}
use Rattle.frames.proofs.FrameLaws.{line-long}
use Rattle.sheet_writer.proofs.LineLaws.{frame_written}
use Rattle.sheet_writer.proofs.lines.write_frame.Goals as goal

pub write_head-requires : goal.write_head-requires
write_head-requires c =
    let size = c.frame_size-fixed.ensures in (
      c.requires.0,
      size.fixed,
      omega (arith, c.requires.1, line-long (frame_at c.args.limited.profile c.args.k).head c.args.bytes.now, size.fixed),
    )

pub write_line-requires : goal.write_line-requires
write_line-requires c =
    let head = (frame_at c.args.limited.profile c.args.k).head in
    omega (arith, c.requires.1, line-long head c.args.bytes.now, c.frame_size-fixed.ensures.fixed, c.write_head.auto.sheet)

pub returns : goal.returns
returns c =
    let size = c.frame_size-fixed in
    frame_written c.args.sheet.now c.args.at (frame_at c.args.limited.profile c.args.k) c.args.bytes.now size.result.fixed size.ensures.fixed
    c.requires.1 c.write_head.ensures c.write_line.ensures.0 c.write_line.ensures.1
