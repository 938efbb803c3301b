-- A turn shifts by a whole word; the bits that are left are fewer than a word's.
use Rattle.std.proofs.Common.{◌≡◌, ◌+◌, ◌*◌, ◌%◌, arith, shr-shr}
use Rattle.numbers.specs.Number.{value}
use Rattle.numbers.proofs.powers.shift_right.Goals as goal

pub loop-preserved : goal.loop-preserved
loop-preserved c =
    let words = c.loop.counter in
    let all : 32 * words + 32 ≡ 32 * (words + 1) = omega arith in
    rw (c.drop_word-upper.ensures, c.loop.invariant, shr-shr (value c.args.n) (32 * words) 32, all)

pub returns : goal.returns
returns c =
    let words = c.loop.counter in
    let all : 32 * words + c.args.bits % 32 ≡ c.args.bits = omega arith in
    rw (c.shift_bits.ensures, c.loop.invariant, shr-shr (value c.args.n) (32 * words) (c.args.bits % 32), all)
