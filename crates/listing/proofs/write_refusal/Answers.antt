-- `write_refusal` meets its contract: the line of two bytes, from index 0 on.
use Rattle.std.proofs.Common.{◌∙◌}
use Rattle.std.proofs.Math.Nat.{zero-add}
use Rattle.listing.specs.Listing.{refusal_line}
use Rattle.listing.proofs.write_refusal.Goals as goal

pub returns : goal.returns
unfolding refusal_line
returns c = rw (← c.code.ensures) (c.write_line.ensures.0 ∙ zero-add _, c.write_line.ensures.1)
