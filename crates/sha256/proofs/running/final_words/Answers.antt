-- The pending bytes with the padding are one block or two.
use Rattle.std.proofs.Common.{◌≡◌, ◌∙◌, ◌%◌, length, take, arith, rules, length-take-le}
use Rattle.sha256.specs.Running.{finished, pending}
use Rattle.sha256.proofs.Padding.{mark_set, one_block, two_blocks}
use Rattle.sha256.proofs.running.final_words.Goals as goal

pub returns-then-pending-lt56 : goal.returns-then-pending-lt56
unfolding finished pending
returns-then-pending-lt56 c =
    let s = c.args.s in
    let room : length s.block ≡ 64 = search rules in
    let long = length-take-le (s.total % 64) s.block (omega arith) in
    c.compress.ensures
    ∙ rw (c.with_length.ensures, mark_set s.block s.total room c.from-pending.ensures c.kept-marked.ensures)
    (one_block s.words (take (s.total % 64) s.block) s.total long (omega (arith, c.from-pending.ensures)))

pub returns : goal.returns
unfolding finished pending
returns c =
    let s = c.args.s in
    let room : length s.block ≡ 64 = search rules in
    let long = length-take-le (s.total % 64) s.block (omega arith) in
    c.compress-3.ensures
    ∙ rw (c.compress-2.ensures, c.with_length-2.ensures, mark_set s.block s.total room c.from-pending.ensures c.kept-marked.ensures)
    (two_blocks s.words (take (s.total % 64) s.block) s.total long (omega (arith, c.from-pending.ensures)))
