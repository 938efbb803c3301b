-- The six characters, and the line's ending behind them, are the first line.
use Rattle.std.proofs.Common.{refl, ap, ◌∙◌, slice_set}
use Rattle.sheet_writer.proofs.LineLaws.{first-stored}
use Rattle.sheet_writer.proofs.lines.write_first_line.Goals as goal

pub returns : goal.returns
returns c = (refl, ap (λ l. slice_set l 6 10) (rw c.first_characters.ensures at c.copy.ensures) ∙ first-stored c.args.sheet.now c.requires)
