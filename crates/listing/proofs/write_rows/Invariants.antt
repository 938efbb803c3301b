-- The lines of the first n numbers are printed.
use Rattle.std.proofs.Common.{◌≡◌, ◌*◌}
use Rattle.listing.proofs.Rows.{line_length, Printed}
use Rattle.listing.proofs.write_rows.Given as goal

abbrev pub invariant-loop-n : goal.invariant-loop-n
invariant-loop-n l = (l.at ≡ line_length l.limited.shape * l.n) × Printed l.limited.shape l.n l.fn.out l.out
