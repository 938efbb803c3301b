-- The divisions are the product of the table's sizes, taken apart.
use Rattle.counts.proofs.Room.{room-exact}
use Rattle.counts.proofs.table.no_room.Goals as goal

pub returns : goal.returns
returns c = room-exact c.args.shape c.args.words
