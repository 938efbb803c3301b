-- The first i bytes stand in front of the line from behind them on, and in front of what is read there.
use Rattle.std.proofs.Common.{◌≡◌, ◌+◌, ◌*◌, ◌≤◌, ◌++◌, length, take, drop}
use Rattle.hex_lines.specs.Hex.{read_line}
use Rattle.hex_lines.specs.inner.Digits.{read_into}
use Rattle.hex_lines.proofs.Reading.{ahead}
use Rattle.hex_lines.proofs.read_line.Given as goal

abbrev pub invariant-loop-i : goal.invariant-loop-i
invariant-loop-i l = record {
  chars_left : l.at + 2 * l.i ≤ length l.chars;
  same_length : length l.bytes ≡ length l.fn.bytes;
  line : read_line (drop l.at l.chars) ≡ ahead (take l.i l.bytes) (read_line (drop (l.at + 2 * l.i) l.chars));
  left : read_into l.chars l.at l.fn.bytes ≡ take l.i l.bytes ++ read_into l.chars (l.at + 2 * l.i) (drop l.i l.bytes);
}
