-- The number has the shares passed added.
use Rattle.std.proofs.Common.{◌+◌, ◌≡◌}
use Rattle.numbers.specs.Number.{value, to_words}
use Rattle.counts.specs.Counts.{sum_to}
use Rattle.codewords.proofs.RankLaws.{down_from}
use Rattle.codewords.proofs.ranking.skip.Given as goal

abbrev pub invariant-loop-j : goal.invariant-loop-j
invariant-loop-j l = l.n ≡ to_words 5 (value l.fn.number + sum_to (down_from l.table l.above) l.j)
