-- Each part is written behind those before it.
use Rattle.std.proofs.Common.{◌≡◌, length, rules}
use Rattle.stored_key.proofs.WriteAnswer.{front-taken, front-written}
use Rattle.stored_key.proofs.writer.write_front.Goals as goal

pub returns : goal.returns
returns c =
    let a = c.args in
    let seed_long : length a.seed ≡ 16 = search rules in
    let secret_long : length a.secret ≡ 16 = search rules in
    let front = front-taken a.limited.profile (rw c.byte.ensures at c.profile_head-front.ensures) in
    front-written a.limited.profile a.seed a.secret a.frame.now seed_long secret_long (rw front at c.write_bytes.ensures)
    c.write_bytes-2.ensures c.write_bytes-3.ensures
