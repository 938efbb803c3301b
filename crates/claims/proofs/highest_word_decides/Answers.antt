-- The order of two numbers is that of their highest words that differ.
use Rattle.numbers.proofs.Comparison.{highest_decides}
use Rattle.claims.proofs.highest_word_decides.Goals as goal

pub returns : goal.returns
returns c = highest_decides
