-- 7 where the number is not below the count, and else the codeword is written.
use Rattle.std.proofs.Common.{rules, ◌≡◌, [], ◌∷◌, leb}
use Rattle.refusal.specs.Code.{outcome_code, first_cause}
use Rattle.numbers.specs.Number.{value}
use Rattle.counts.specs.Counts.{count}
use Rattle.counts.proofs.Answer.{count-value}
use Rattle.codewords.proofs.UnrankAnswer.{not_below, not_placed, below_count, placed_number}
use Rattle.codewords.proofs.unranking.place.Goals as goal
use Rattle.codewords.proofs.unranking.place.Goals.{After-refuse_if}

-- the cause that is looked at is 7
seven : (c : After-refuse_if) → outcome_code c.refuse_if.result ≡ first_cause ((leb (count c.args.limited.shape) (value c.args.number), 7) ∷ [])
seven c =
    let test = not_below (value c.args.number) (count c.args.limited.shape) c.less.ensures (count-value c.args.limited.shape c.args.limited.limits c.requires.counted) in
    rw (← test) (search rules)

pub returns-in_err-refuse_if : goal.returns-in_err-refuse_if
returns-in_err-refuse_if c =
    let a = c.args in
    not_placed a.limited.shape (value a.number) a.row.now (seven (goal.at.returns-in_err-refuse_if c).After-refuse_if) c.in_err-refuse_if.was (search rules)

pub write_codeword-requires : goal.write_codeword-requires
write_codeword-requires c =
    let a = c.args in
    record {
      holds = c.requires.held;
      number_bound = below_count a.limited.shape (value a.number) a.row.now (seven (goal.at.write_codeword-requires c).After-refuse_if) c.in_ok-refuse_if.was;
      chains_in_bounds = c.requires.room;
    }

pub returns : goal.returns
returns c =
    let a = c.args in
    placed_number a.limited.shape (value a.number) a.row.now (seven (goal.at.returns c).After-refuse_if) c.in_ok-refuse_if.was c.write_codeword.ensures
