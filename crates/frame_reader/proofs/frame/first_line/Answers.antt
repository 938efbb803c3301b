-- The first line is the six characters and the ending, and else it is wrong.
use Rattle.std.proofs.Common.{sym}
use borrow.Author.Tests.{eqb-true, eqb-false}
use Rattle.frame_reader.proofs.PlaceLaws.{begins-right, begins-other, first-right, first-wrong}
use Rattle.frame_reader.proofs.frame.first_line.Goals as goal
use Rattle.frame_reader.proofs.frame.first_line.Goals.{else-starts_with-via-then-starts_with+else-ends_at, else-starts_with-via-else-starts_with}

pub returns-then-ends_at : goal.returns-then-ends_at
returns-then-ends_at c =
    first-right c.args.sheet.now (begins-right c.args.sheet.now (rw c.first_characters.ensures at c.if-starts_with.ensures.value))
    (eqb-true _ _ (sym c.if-ends_at.ensures))

pub returns-else-starts_with : goal.returns-else-starts_with
returns-else-starts_with c =
    elim c.else-starts_with.branch [
      | else-starts_with-via-then-starts_with+else-ends_at w ↦ first-wrong c.args.sheet.now (λ e. eqb-false _ _ (sym w.if-ends_at.ensures))
      | else-starts_with-via-else-starts_with w ↦
          first-wrong c.args.sheet.now (λ e end. begins-other c.args.sheet.now (rw c.first_characters.ensures at w.if-starts_with.ensures.value) e)
    ]
