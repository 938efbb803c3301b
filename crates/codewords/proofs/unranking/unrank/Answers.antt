-- The causes of Count and the size of the row come before the table, and 7 behind it.
use Rattle.std.proofs.Common.{rules, ◌≡◌, [], ◌∷◌, ltb, length}
use Rattle.refusal.specs.Code.{outcome_code, first_cause}
use Rattle.numbers.specs.Number.{value}
use Rattle.codewords.proofs.UnrankAnswer.{unrank_refused, unrank_row_refused, unrank_limits, unrank_room, unrank_answers, placeable}
use Rattle.codewords.proofs.unranking.unrank.Goals as goal

pub returns-in_err-check_count : goal.returns-in_err-check_count
returns-in_err-check_count c =
    let a = c.args in
    unrank_refused a.shape (value a.number) a.table.now a.row.now c.check_count.ensures c.in_err-check_count.was (search rules)

pub returns-in_err-refuse_if : goal.returns-in_err-refuse_if
returns-in_err-refuse_if c =
    let a = c.args in
    let sized : outcome_code c.refuse_if.result ≡ first_cause ((ltb (length a.row.now) a.shape.chains, 6) ∷ []) = search rules in
    unrank_row_refused a.shape (value a.number) a.table.now a.row.now c.check_count.ensures c.in_ok-check_count.was sized c.in_err-refuse_if.was
    (search rules)

pub invariant_of-limited : goal.invariant_of-limited
invariant_of-limited c =
    let a = c.args in
    record { limits = (unrank_limits a.shape (value a.number) a.table.now a.row.now c.check_count.ensures c.in_ok-check_count.was).0 }

pub fill-count-requires : goal.fill-count-requires
fill-count-requires c =
    let a = c.args in
    (unrank_limits a.shape (value a.number) a.table.now a.row.now c.check_count.ensures c.in_ok-check_count.was).1

pub place-requires : goal.place-requires
place-requires c =
    let a = c.args in
    let sized : outcome_code c.refuse_if.result ≡ first_cause ((ltb (length a.row.now) a.shape.chains, 6) ∷ []) = search rules in
    let room = unrank_room a.shape (value a.number) a.table.now a.row.now c.check_count.ensures c.in_ok-check_count.was sized c.in_ok-refuse_if.was in
    placeable a.table.now room c.fill-count.ensures.0 c.fill-count.ensures.1

pub returns : goal.returns
returns c =
    let a = c.args in
    let sized : outcome_code c.refuse_if.result ≡ first_cause ((ltb (length a.row.now) a.shape.chains, 6) ∷ []) = search rules in
    unrank_answers a.shape (value a.number) a.table.now a.row.now c.check_count.ensures c.in_ok-check_count.was sized c.in_ok-refuse_if.was
    c.fill-count.ensures.1 c.place.ensures
