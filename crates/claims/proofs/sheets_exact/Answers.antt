-- The right sheets are those that are read.
use Rattle.sheet_reader.proofs.Exactness.{exact}
use Rattle.claims.proofs.sheets_exact.Goals as goal

pub returns : goal.returns
returns c = exact
