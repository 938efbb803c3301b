-- A turn writes one word more.
use Rattle.std.proofs.Common.{◌≡◌, ◌*◌, length, arith, rules}
use Rattle.std.proofs.Math.Seq.{paste-zero}
use Rattle.std.proofs.lemmas.List.Edits.{paste_more}
use Rattle.counts.proofs.cells.store.Goals as goal

pub loop-i-init : goal.loop-i-init
loop-i-init c = paste-zero c.args.table.now (5 * c.args.k) c.args.n

pub loop-i-preserved : goal.loop-i-preserved
loop-i-preserved c =
    let long : length c.args.n ≡ 5 = search rules in
    rw c.loop-i.invariant (paste_more c.args.table.now (5 * c.args.k) c.args.n c.loop-i.i 0 (omega arith) (omega arith))

pub returns : goal.returns
returns c =
    let long : length c.args.n ≡ 5 = search rules in
    let all : c.loop-i.i ≡ 5 = omega arith in
    rw all at c.loop-i.invariant
