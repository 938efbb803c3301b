-- `write_rows` meets its contract: a turn prints the line of one number more.
use Rattle.std.proofs.Common.{arith}
use Rattle.lists.proofs.Joins.{write_start}
use Rattle.listing.specs.Listing.{row_line}
use Rattle.listing.proofs.Rows.{line_length, line-room, keeps_length, printed-next, printed-all}
use Rattle.listing.proofs.write_rows.Goals as goal

pub loop-n-init : goal.loop-n-init
loop-n-init c = (omega arith, write_start (row_line c.args.limited.shape) (line_length c.args.limited.shape) 0 c.args.out.now)

pub write_row-at-requires : goal.write_row-at-requires
write_row-at-requires c =
    let a = c.args in
    let pre = c.requires in
    let few = c.args.limited.limits.few_chains in
    let loop = c.loop-n in
    let long = keeps_length a.limited.shape a.lines a.out.now few pre.1 pre.2 loop.n (omega arith) loop.invariant.1 in (
      pre.0,
      omega (arith, pre.1),
      omega (arith, pre.1),
      omega (arith, long, line-room a.limited.shape a.lines a.out.now few pre.1 pre.2 loop.n (omega arith)),
    )

pub loop-n-preserved : goal.loop-n-preserved
loop-n-preserved c =
    let a = c.args in
    let pre = c.requires in
    let loop = c.loop-n in
    let next = printed-next a.limited.shape a.lines a.out.now c.args.limited.limits.few_chains pre.1 pre.2 loop.n loop.at c.write_row-at.result (omega arith)
    loop.invariant.0 loop.invariant.1 c.write_row-at.ensures.0 c.write_row-at.ensures.1 in
    (next.0, next.1)

pub returns : goal.returns
returns c =
    let a = c.args in
    let pre = c.requires in
    let loop = c.loop-n in
    printed-all a.limited.shape a.lines a.out.now c.args.limited.limits.few_chains pre.1 pre.2 loop.n loop.at (omega arith) (omega arith) loop.invariant.0
    loop.invariant.1
