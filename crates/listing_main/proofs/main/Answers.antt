-- Each read leaves fewer bytes to be read, and so does the end of the input.
use Rattle.std.proofs.Common.{take, arith}
use Rattle.std.proofs.Math.ListN.{length-take}
use Rattle.listing.proofs.Reading.{fewer_left}
use Rattle.listing_main.proofs.main.Goals as goal

pub loop-byte-smaller : goal.loop-byte-smaller
loop-byte-smaller c =
    let n = c.in_ok-n.n in
    let byte = c.read.new.buf in
    let taken = c.take.ensures in
    fewer_left c.loop-byte.input c.take.new.self (take n byte) (omega (arith, c.left.ensures))
    (omega (arith, length-take n byte, c.read.auto.buf)) taken.0 taken.1
