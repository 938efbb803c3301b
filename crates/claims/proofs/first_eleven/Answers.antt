-- What is not read of the listing's input changes nothing.
use Rattle.listing.proofs.FirstLine.{first_eleven}
use Rattle.claims.proofs.first_eleven.Goals as goal

pub returns : goal.returns
returns c = first_eleven
