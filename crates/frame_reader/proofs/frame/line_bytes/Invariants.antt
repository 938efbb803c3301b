-- i bytes are passed, and the line goes on behind them.
use Rattle.std.proofs.Common.{◌≡◌, ◌+◌, ◌*◌, drop}
use Rattle.hex_lines.specs.Hex.{read_line}
use Rattle.frame_reader.specs.inner.Parser.{found_of}
use Rattle.frame_reader.proofs.ParserLaws.{found_from}
use Rattle.frame_reader.proofs.frame.line_bytes.Given as goal

abbrev pub invariant-loop-i : goal.invariant-loop-i
invariant-loop-i l = found_of l.most (read_line (drop l.at l.sheet)) ≡ found_from l.i l.most (read_line (drop (l.at + 2 * l.i) l.sheet))
