-- `write_line` meets its contract: the bytes, and the line's ending behind them.
use Rattle.std.proofs.Common.{arith}
use Rattle.hex_lines.proofs.Writing.{length-line_of, written-line}
use Rattle.hex_lines.proofs.write_line.Goals as goal

pub returns : goal.returns
returns c =
    let bytes = c.args.bytes.now in
    (omega (arith, length-line_of bytes), written-line c.args.out.now c.args.at bytes c.requires c.write_bytes.ensures)
