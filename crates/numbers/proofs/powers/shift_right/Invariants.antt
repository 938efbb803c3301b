-- So far what is left is the number shifted by the words that are done.
use Rattle.std.proofs.Common.{◌≡◌, ◌*◌, ◌/◌, ◌^◌}
use Rattle.numbers.specs.Number.{value}
use Rattle.numbers.proofs.powers.shift_right.Given as goal

abbrev pub invariant-loop : goal.invariant-loop
invariant-loop l = value l.rest ≡ value l.fn.n / 2 ^ (32 * l.counter)
