-- So far no words from place `i` on differ, and so many pairs were looked at.
use Rattle.std.proofs.Common.{◌≡◌, ◌+◌}
use Rattle.numbers.specs.Order.{highest_below, highest_differing}
use Rattle.numbers.proofs.number.compare.Given as goal

abbrev pub invariant-loop-i : goal.invariant-loop-i
invariant-loop-i l = record {
  same : highest_differing l.a l.b ≡ highest_below l.i l.a l.b;
  counted : l.looked + l.i ≡ 5;
}
