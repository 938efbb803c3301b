-- The reader stands in front of frame k of its sheet.
use Rattle.std.proofs.Common.{◌≡◌, Ok}
use Rattle.frame_reader.specs.Places.{place_at}
use Rattle.frame_reader.proofs.take_frames.Given as goal

abbrev pub invariant-loop-k : goal.invariant-loop-k
invariant-loop-k l = record {
  same_sheet : l.reader.sheet.now ≡ l.sheet;
  stands : place_at l.sheet l.limited.profile l.k ≡ Ok l.reader.place;
}
