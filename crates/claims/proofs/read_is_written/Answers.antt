-- What was read is written as the sheet that it was read from.
use Rattle.claims.proofs.Sheets.{read-is-written}
use Rattle.claims.proofs.read_is_written.Goals as goal

pub returns : goal.returns
returns c = read-is-written
