-- The leaves counted tell as 2^h does.
use Rattle.std.proofs.Common.{◌∙◌, rules}
use Rattle.signing_key.proofs.CounterLaws.{mark-counted}
use Rattle.signing_key.proofs.mark_stands.Goals as goal

pub returns : goal.returns
returns c = c.mark_counts.ensures ∙ rw c.leaf_count.ensures (mark-counted c.args.p.height c.args.c (search rules))
