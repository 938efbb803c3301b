-- Row 0 is 0 but for its first word.
use Rattle.std.proofs.Common.{◌≡◌, ◌+◌, ◌*◌, length, take}
use Rattle.std.proofs.Math.Seq.{length-take-le}
use Rattle.counts.proofs.TableLaws.{first_row_is}
use Rattle.counts.proofs.table.first_row.Goals as goal

pub returns : goal.returns
returns c =
    let a = c.args in
    let long : length (take (5 * (a.sum + 1)) a.table.now) ≡ 5 * (a.sum + 1) = length-take-le (5 * (a.sum + 1)) a.table.now c.requires.1 in
    λ w. first_row_is w a.sum a.table.now long (c.fill.ensures.after (λ y same. same))
