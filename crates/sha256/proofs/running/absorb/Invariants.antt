-- What is still to be absorbed, absorbed into the words, gives the whole.
use Rattle.std.proofs.Common.{◌≡◌}
use Rattle.sha256.specs.Digest.{compress_all}
use Rattle.sha256.proofs.running.absorb.Given as goal

abbrev pub invariant-loop-block : goal.invariant-loop-block
invariant-loop-block l = record {
  whole : l.block-iterator.size ≡ 64;
  words : compress_all l.words l.block-iterator.rest.now ≡ compress_all l.initial.words l.bytes;
}
