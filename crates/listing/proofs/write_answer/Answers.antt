-- By what Count answers, the rows or a refusal.
use Rattle.listing.proofs.Answers.{refusal_answer, table-left, rows-answer, granted-limits, lines_are, granted-table}
use Rattle.listing.proofs.write_answer.Goals as goal

pub invariant_of-write_rows : goal.invariant_of-write_rows
invariant_of-write_rows c =
    record { limits = granted-limits c.args.shape _ _ c.codeword_count.ensures c.requires.0 c.in-Ok.is }

pub write_rows-requires : goal.write_rows-requires
write_rows-requires c =
    let shape = c.args.shape in
    let answer = c.codeword_count.ensures in
    let granted = c.in-Ok.is in (
      granted-table shape _ _ answer c.requires.0 granted,
      lines_are shape _ _ answer c.requires.0 granted _ c.line_count.ensures,
      c.requires.1,
    )

pub returns-in-Err : goal.returns-in-Err
returns-in-Err c =
    let shape = c.args.shape in
    let counted = c.codeword_count.ensures in
    let line = refusal_answer shape _ _ counted c.requires.0 c.in-Err.is in
    let written = c.write_refusal.ensures in
    (rw line written.0, rw line written.1, table-left shape _ _ counted c.requires.0)

pub returns-in-Ok : goal.returns-in-Ok
returns-in-Ok c =
    let shape = c.args.shape in
    let counted = c.codeword_count.ensures in
    let rows = rows-answer shape _ _ counted c.requires.0 c.in-Ok.is in
    let written = c.write_rows.ensures in
    (rw rows written.0, rw rows written.1, table-left shape _ _ counted c.requires.0)
