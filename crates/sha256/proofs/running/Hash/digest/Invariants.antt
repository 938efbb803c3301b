-- The bytes of the first k words stand in front.
use Rattle.std.proofs.Common.{◌≡◌, ◌++◌, ◌*◌, drop, replicate}
use Rattle.lists.specs.Joined.{join_to}
use Rattle.sha256.proofs.DigestBytes.{word_in}
use Rattle.sha256.proofs.running.Hash.digest.Given as goal

abbrev pub invariant-loop-k : goal.invariant-loop-k
invariant-loop-k l = l.bytes ≡ join_to (word_in l.fn.self.words) l.k ++ drop (4 * l.k) (replicate 32 0)
