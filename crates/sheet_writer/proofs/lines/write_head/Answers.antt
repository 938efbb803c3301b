-- Each turn writes the two characters of one fixed byte behind those before it.
use Rattle.std.proofs.Common.{◌≡◌, [], ◌∷◌, length, ap, ◌∙◌, arith}
use Rattle.lists.proofs.Joins.{write_start, write_next}
use Rattle.hex_lines.specs.Hex.{hex_of}
use Rattle.hex_lines.proofs.Writing.{pair_of, pair_long, all-joined}
use Rattle.frames.specs.Frames.{frame_at}
use Rattle.sheet_writer.proofs.lines.write_head.Goals as goal

pub loop-i-init : goal.loop-i-init
loop-i-init c = write_start (pair_of (frame_at c.args.limited.profile c.args.k).head) 2 c.args.at c.args.sheet.now

pub loop-i-preserved : goal.loop-i-preserved
loop-i-preserved c =
    let head = (frame_at c.args.limited.profile c.args.k).head in
    write_next (pair_of head) 2 c.args.fixed (λ i h. pair_long head i) c.args.at c.args.sheet.now c.requires.2 c.loop-i.i (omega arith)
    (ap (λ b. hex_of (b ∷ [])) c.head_byte.ensures) c.loop-i.invariant c.write_byte.ensures

pub returns : goal.returns
returns c =
    let head = (frame_at c.args.limited.profile c.args.k).head in
    let all : c.loop-i.i ≡ length head = omega (arith, c.requires.1) in
    let fixed : c.args.fixed ≡ length head = c.requires.1 in
    c.loop-i.invariant ∙ rw (all, fixed, all-joined)
