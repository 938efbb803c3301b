-- Each read leaves fewer bytes to be read.
use Rattle.listing.specs.Input.{left_of}
use Rattle.listing_main.proofs.main.Given as goal

abbrev pub decreases-loop-byte : goal.decreases-loop-byte
decreases-loop-byte l = left_of l.input
