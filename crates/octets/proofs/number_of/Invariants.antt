-- So far the number is that of the bytes taken, and fits them.
use Rattle.std.proofs.Common.{◌≡◌, ◌^◌, ◌<◌, take}
use Rattle.octets.specs.Bytes.{from_bytes}
use Rattle.octets.proofs.number_of.Given as goal

abbrev pub invariant-loop-byte : goal.invariant-loop-byte
invariant-loop-byte l = record {
  front : l.number ≡ from_bytes (take l.byte-index l.bytes);
  fits : l.number < 256 ^ l.byte-index;
}
