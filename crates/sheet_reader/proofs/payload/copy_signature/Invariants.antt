-- The payloads of k frames are copied, and what follows is as it was.
use Rattle.std.proofs.Common.{◌*◌, ◌≤◌, drop}
use Rattle.frames.specs.Frames.{frames}
use Rattle.sheet_reader.proofs.PayloadLaws.{Copying}
use Rattle.sheet_reader.proofs.payload.copy_signature.Given as goal

abbrev pub invariant-loop-k : goal.invariant-loop-k
invariant-loop-k l = record {
  near : l.at ≤ 415 * l.k;
  copying : Copying l.sheet (frames l.limited.profile) l.initial.signature l.signature l.at l.from (drop l.k (frames l.limited.profile));
}
