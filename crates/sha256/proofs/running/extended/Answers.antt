-- The bytes stay within the block, or fill it and go on behind it.
use Rattle.std.proofs.Common.{rules}
use Rattle.lists.proofs.Fill.{part_to_end}
use Rattle.sha256.proofs.Extension.{within-made, past-made}
use Rattle.sha256.proofs.running.extended.Goals as goal

pub returns-then-bytes-room : goal.returns-then-bytes-room
returns-then-bytes-room c =
    within-made c.args.s c.args.bytes.now _ c.from-pending.ensures (search rules) c.if-bytes-room.true c.kept-block.ensures c.copy.ensures

pub returns : goal.returns
returns c =
    past-made c.args.s c.args.bytes.now _ c.from-pending.ensures (search rules) c.if-bytes-room.false c.kept-block.ensures c.copy-2.ensures
    c.compress.ensures (part_to_end c.args.bytes.now _) c.absorb.ensures c.rest.ensures
