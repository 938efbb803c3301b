-- A sheet that was written is read as what it was written from.
use Rattle.claims.proofs.Sheets.{written-is-read}
use Rattle.claims.proofs.written_is_read.Goals as goal

pub returns : goal.returns
returns c = written-is-read
