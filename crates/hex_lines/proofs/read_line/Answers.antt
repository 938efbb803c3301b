-- `read_line` meets its contract: a turn reads one byte more, and where it stops, the line is not one of so many bytes, or it is.
use Rattle.std.proofs.Common.{◌≡◌, ℕ, ◌+◌, ◌*◌, List, ◌++◌, Bool, true, false, eqb, length, get_or, take, drop, sym, arith}
use borrow.Author.Tests.{eqb-true, eqb-false}
use Rattle.std.proofs.lemmas.List.{set-get_or}
use Rattle.std.proofs.Math.ListN.{length-set}
use Rattle.std.proofs.Math.Seq.{length-take-le}
use Rattle.hex_lines.specs.Hex.{line_end, read_line}
use Rattle.hex_lines.specs.inner.Digits.{read_into, ReadsLine}
use Rattle.hex_lines.proofs.Reading.{ahead, short-line, long-line, read_next, read_all, into_next, into_wrong}
use Rattle.hex_lines.proofs.Reading.{into_all, byte_room, answer_no, answer_yes}
use Rattle.hex_lines.proofs.read_line.Goals as goal

-- all bytes have been read: the line is one of so many bytes where it ends behind them
all_read : (chars : List ℕ) (at : ℕ) (old new : List ℕ) (i : ℕ) → i ≡ length new → length new ≡ length old
    → read_line (drop at chars) ≡ ahead (take i new) (read_line (drop (at + 2 * i) chars))
    → read_into chars at old ≡ take i new ++ read_into chars (at + 2 * i) (drop i new)
    → (r : Bool) → r ≡ eqb (get_or chars (at + 2 * length new) 0) line_end → ReadsLine chars at old new r
all_read chars at old new i all same line left true e =
    answer_yes _ _ _ (into_all chars at new i left (omega arith)) same
    (read_all chars at new i (omega arith) (omega arith) same (rw all (eqb-true _ _ (sym e))) line)
all_read chars at old new i all same line left false e =
    answer_no _ _ _ (into_all chars at new i left (omega arith)) line
    (long-line (take i new) _ chars (at + 2 * i) (omega (arith, length-take-le i new (omega arith))) (rw all (eqb-false _ _ (sym e))))

pub returns-in_default : goal.returns-in_default
returns-in_default c =
    let loop = c.loop-i in
    let none = sym c.in_default.ensures in
    simp set-get_or
    (answer_no _ _ _ (into_wrong _ _ loop.bytes loop.i loop.invariant.left none) loop.invariant.line
    (short-line _ _ _ _ (omega (arith, length-take-le loop.i loop.bytes (omega arith))) none))

pub loop-i-preserved : goal.loop-i-preserved
loop-i-preserved c =
    let a = c.args in
    let loop = c.loop-i in
    let byte = sym c.in-Some.ensures in
    record {
      chars_left = omega (arith, byte_room a.chars.now (a.at + 2 * loop.i) byte);
      same_length = simp length-set loop.invariant.same_length;
      line = read_next a.chars.now a.at loop.bytes loop.i (omega arith) byte loop.invariant.line;
      left = into_next a.chars.now a.at loop.bytes loop.i loop.invariant.left (omega arith) byte;
    }

pub returns : goal.returns
returns c =
    let loop = c.loop-i in
    all_read _ _ _ loop.bytes loop.i (omega arith) loop.invariant.same_length loop.invariant.line loop.invariant.left _ c.ends_at.ensures
