-- `line_count` meets its contract: a count below 256 is its least word.
use Rattle.std.proofs.Common.{sym, ap, ◌∙◌, ltb, arith}
use borrow.Author.Tests.{ltb-true, ltb-false}
use Rattle.numbers.specs.Number.{value}
use Rattle.listing.proofs.Rows.{one_word, least-word}
use Rattle.listing.proofs.line_count.Goals as goal

pub returns-then-less : goal.returns-then-less
returns-then-less c =
    let count = c.args.count in
    let below = ltb-true (value count) 256 (sym (c.less.ensures ∙ ap (ltb (value count)) (one_word 256)) ∙ c.if-less.true) in
    omega (arith, below, least-word count (omega (arith, below)))

pub returns-else-less : goal.returns-else-less
returns-else-less c =
    let count = c.args.count in
    omega (arith, ltb-false (value count) 256 (sym (c.less.ensures ∙ ap (ltb (value count)) (one_word 256)) ∙ c.if-less.false))
