-- Demand 3: its first two sentences from the laws of rows, and what it says of a list.
use mathlib.Core.Path.{◌∙◌, sym}
use Rattle.counts.specs.Counts.{count}
use Rattle.codewords.proofs.OrderLaws.{incomparable, codeword_injective, complete}
use Rattle.claims.proofs.OrdersProved.{issued-once, issued-accepted}
use Rattle.claims.proofs.demand_3.Goals as goal

pub returns : goal.returns
unfolding count
returns c =
    record {
      incomparable = λ p m n. incomparable p.width p.chains p.sum m n;
      complete = λ p row valid.
          let found = complete p.width p.chains p.sum row valid in (
            found.0,
            found.1,
            found.2,
            λ m below same. codeword_injective p.width p.chains p.sum m found.0 below found.1
                (same ∙ sym found.2),
          );
      orders = λ p seed secret calls. (issued-once p seed secret calls, issued-accepted p seed secret calls);
    }
