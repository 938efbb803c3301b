-- The listing that document 01 prints in full.
use Rattle.listing.proofs.Example.{example}
use Rattle.claims.proofs.listing_example.Goals as goal

pub returns : goal.returns
returns c = example
