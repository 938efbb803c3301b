-- `write_bytes` meets its contract: a turn writes the two characters of one byte more.
use Rattle.std.proofs.Common.{◌≡◌, length, refl, ◌∙◌, arith}
use Rattle.lists.proofs.Joins.{write_start, write_next}
use Rattle.hex_lines.proofs.Writing.{pair_of, pair_long, all-joined}
use Rattle.hex_lines.proofs.write_bytes.Goals as goal

pub loop-i-init : goal.loop-i-init
loop-i-init c = write_start (pair_of c.args.bytes.now) 2 c.args.at c.args.out.now

pub loop-i-preserved : goal.loop-i-preserved
loop-i-preserved c =
    let bytes = c.args.bytes.now in
    write_next (pair_of bytes) 2 (length bytes) (λ i h. pair_long bytes i) c.args.at c.args.out.now c.requires c.loop-i.i
    (omega arith) refl c.loop-i.invariant c.write_byte.ensures

pub returns : goal.returns
returns c =
    let all : c.loop-i.i ≡ length c.args.bytes.now = omega arith in
    c.loop-i.invariant ∙ rw (all, all-joined)
