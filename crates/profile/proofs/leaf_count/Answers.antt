-- Shifted by less than 32 bits, 1 stays within its word; from a height of 32 on there is room for every leaf.
use Rattle.std.proofs.Common.{◌^◌, sym, ◌∙◌, one-mul, arith}
use Rattle.std.proofs.Math.Dec.{lit<}
use Rattle.std.proofs.Math.Pow.{shl_exact}
use Rattle.profile.proofs.Limits.{counted-few, counted-most}
use Rattle.profile.proofs.leaf_count.Goals as goal

pub returns-then-height-lt32 : goal.returns-then-height-lt32
returns-then-height-lt32 c =
    let h = c.args.height in
    shl_exact 1 h 64 (lit< tt) (omega arith) ∙ one-mul (2 ^ h) ∙ sym (counted-few h c.if-height-lt32.true)

pub returns-else-height-lt32 : goal.returns-else-height-lt32
returns-else-height-lt32 c = sym (counted-most c.args.height c.if-height-lt32.false)
