-- The causes of the table and the operation's own come before the table is filled, and 7 behind it.
use Rattle.std.proofs.Common.{rules, arith}
use Rattle.refusal.specs.Code.{code}
use Rattle.numbers.specs.Number.{value}
use Rattle.codewords.proofs.UnrankAnswer.{placeable}
use Rattle.one_time.proofs.PlaceAnswer.{table_refused, table_fits, own_refused, number_refused, number_placed}
use Rattle.one_time.proofs.row_of_number.Goals as goal

pub returns-in_err-check_table : goal.returns-in_err-check_table
returns-in_err-check_table c =
    let a = c.args in
    table_refused a.p a.leaf (value a.number) a.wrong (code a.size) a.table.now c.requires c.check_table.ensures c.in_err-check_table.was (search rules)

pub returns-in_err-check_own : goal.returns-in_err-check_own
returns-in_err-check_own c =
    let a = c.args in
    own_refused a.p a.leaf (value a.number) a.wrong (code a.size) a.table.now c.requires c.check_table.ensures c.in_ok-check_table.was c.check_own.ensures
    c.in_err-check_own.was (search rules)

pub invariant_of-limited : goal.invariant_of-limited
invariant_of-limited c =
    let a = c.args in
    let fits = table_fits a.p a.leaf (value a.number) a.wrong (code a.size) a.table.now c.requires c.check_table.ensures c.in_ok-check_table.was in
    record { limits = fits.limits }

pub fill-count-requires : goal.fill-count-requires
fill-count-requires c =
    let a = c.args in
    (table_fits a.p a.leaf (value a.number) a.wrong (code a.size) a.table.now c.requires c.check_table.ensures c.in_ok-check_table.was).room

pub place-requires : goal.place-requires
place-requires c =
    let a = c.args in
    let fits = table_fits a.p a.leaf (value a.number) a.wrong (code a.size) a.table.now c.requires c.check_table.ensures c.in_ok-check_table.was in
    placeable a.table.now (omega (arith, fits.limits.few_chains)) c.fill-count.ensures.0 c.fill-count.ensures.1

pub returns-in_err-place : goal.returns-in_err-place
returns-in_err-place c =
    let a = c.args in
    number_refused a.p a.leaf (value a.number) a.wrong (code a.size) a.table.now c.requires c.check_table.ensures c.in_ok-check_table.was c.check_own.ensures
    c.in_ok-check_own.was c.fill-count.ensures.1 c.place.ensures c.in_err-place.was (search rules)

pub returns : goal.returns
returns c =
    let a = c.args in
    number_placed a.p a.leaf (value a.number) a.wrong (code a.size) a.table.now c.requires c.check_table.ensures c.in_ok-check_table.was c.check_own.ensures
    c.in_ok-check_own.was c.fill-count.ensures.1 c.place.ensures c.in_ok-place.was
