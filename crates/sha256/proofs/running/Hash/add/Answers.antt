-- The test is the definition's, and a granted add is what `extended` ensures.
use Rattle.std.proofs.Common.{◌+◌, ◌≤◌, ◌<◌, length, arith}
use borrow.Author.Tests.{lt-ltb, le-ltb}
use Rattle.sha256.specs.Running.{add_code, add_state}
use Rattle.sha256.proofs.running.Hash.add.Goals as goal

pub returns-then-from-bytes : goal.returns-then-from-bytes
unfolding add_code add_state
returns-then-from-bytes c =
    let total = c.args.self.total + length c.args.bytes.now in
    let over : 65535 < total = omega (arith, c.from.ensures) in
    let test = lt-ltb 65535 total over in
    record { code = rw test; state = rw test }

pub returns : goal.returns
unfolding add_code add_state
returns c =
    let total = c.args.self.total + length c.args.bytes.now in
    let fits : total ≤ 65535 = omega (arith, c.from.ensures, c.if-from-bytes.false) in
    let test = le-ltb 65535 total fits in
    record { code = rw test; state = rw test c.extended.ensures }
