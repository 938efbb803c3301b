-- So far no word from place `i` on is not 0.
use Rattle.std.proofs.Common.{◌≡◌, take}
use Rattle.numbers.specs.Number.{value}
use Rattle.numbers.proofs.powers.log2.Given as goal

abbrev pub invariant-loop-i : goal.invariant-loop-i
invariant-loop-i l = value l.n ≡ value (take l.i l.n)
