-- The starred trial values, computed from the definitions and compared at once.
use mathlib.Core.Path.{refl}
use Rattle.profile.specs.Checks.{shape_causes}
use Rattle.counts.specs.Counts.{sum_to, share, D, count}
use Rattle.counts.specs.Table.{table_length}
use Rattle.counts.specs.Operations.{count_causes, count_code}
use Rattle.codewords.specs.Codeword.{place, codeword, rank, total}
use Rattle.codewords.specs.Operations.{unrank_code, some_above, rank_code}
use Rattle.chains.specs.Leaves.{steps_to}
use Rattle.claims.specs.Trial.{trials}
use Rattle.claims.proofs.trial_values.Goals as goal

pub returns : goal.returns
unfolding trials shape_causes sum_to share D count table_length count_causes count_code place codeword rank total steps_to unrank_code some_above rank_code
returns c = refl
