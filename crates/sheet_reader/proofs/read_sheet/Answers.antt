-- The profile, then the sheet, which is judged whole, then the slices, and only then anything is written.
use Rattle.std.proofs.Common.{◌≡◌, ◌≤◌, ◌++◌, Err, length, drop, ap, arith, rules}
use borrow.Author.Tests.{ltb-true, ltb-false}
use lib.Seq.{length-take-le}
use Rattle.refusal.specs.declared.Refusal.TheVariants.{OutputTooShort}
use Rattle.refusal.proofs.Causes.{granted-none}
use Rattle.profile.specs.Checks.{profile_causes}
use Rattle.profile.proofs.Limits.{profile-limits}
use Rattle.sheet_reader.proofs.PayloadLaws.{text-within}
use Rattle.sheet_reader.proofs.SheetAnswer.{whole_apart, judged-whole, profile-refused, line-refused, signature-short, text-short, sheet-granted}
use Rattle.sheet_reader.proofs.read_sheet.Goals as goal

pub returns-in_err-check_profile : goal.returns-in_err-check_profile
returns-in_err-check_profile c =
    let a = c.args in
    let told : c.from_residual.result ≡ Err c.in_err-check_profile.field-0.0 = search rules in
    profile-refused a.p a.sheet.now a.signature.now a.message.now c.in_err-check_profile.was c.check_profile.ensures told

pub invariant_of-limited : goal.invariant_of-limited
invariant_of-limited c =
    record { sizes = profile-limits c.args.p (granted-none (profile_causes c.args.p) c.in_ok-check_profile.was c.check_profile.ensures) }

pub returns-in_err-length : goal.returns-in_err-length
returns-in_err-length c =
    let a = c.args in
    let none = granted-none (profile_causes a.p) c.in_ok-check_profile.was c.check_profile.ensures in
    let told : c.from_residual-in_err-length.result ≡ Err c.in_err-length.field-0.0 = search rules in
    line-refused a.p a.sheet.now a.signature.now a.message.now none c.judge.ensures c.in_err-length.was told

pub returns-in_err-refuse_if : goal.returns-in_err-refuse_if
returns-in_err-refuse_if c =
    let a = c.args in
    let none = granted-none (profile_causes a.p) c.in_ok-check_profile.was c.check_profile.ensures in
    let whole = judged-whole a.p a.sheet.now c.judge.ensures c.in_ok-length.was in
    let told : c.from_residual-in_err-refuse_if.result ≡ Err OutputTooShort = search rules in
    let short = ltb-true _ _ c.in_err-refuse_if.ensures.refused.1 in
    signature-short a.p a.sheet.now a.signature.now a.message.now none whole (omega (arith, short, c.signature_length.ensures)) told

pub returns-in_err-refuse_if-2 : goal.returns-in_err-refuse_if-2
returns-in_err-refuse_if-2 c =
    let a = c.args in
    let none = granted-none (profile_causes a.p) c.in_ok-check_profile.was c.check_profile.ensures in
    let whole = judged-whole a.p a.sheet.now c.judge.ensures c.in_ok-length.was in
    let told : c.from_residual-in_err-refuse_if-2.result ≡ Err OutputTooShort = search rules in
    let enough = ltb-false _ _ c.in_ok-refuse_if.ensures.granted in
    let short = ltb-true _ _ c.in_err-refuse_if-2.ensures.refused.1 in
    text-short a.p a.sheet.now a.signature.now a.message.now none whole (omega (arith, enough, c.signature_length.ensures)) short told

pub copy_signature-at-requires : goal.copy_signature-at-requires
copy_signature-at-requires c =
    let enough = ltb-false _ _ c.in_ok-refuse_if.ensures.granted in
    omega (arith, enough, c.signature_length.ensures)

pub copy_text-requires : goal.copy_text-requires
copy_text-requires c =
    let a = c.args in
    let n = c.in_ok-length.length in
    let whole = judged-whole a.p a.sheet.now c.judge.ensures c.in_ok-length.was in
    let inside = text-within a.p a.sheet.now whole.signature whole.text (whole_apart a.p a.sheet.now n whole) in
    let room : n ≤ length a.message.now = ltb-false _ _ c.in_ok-refuse_if-2.ensures.granted in
    omega (arith, inside, c.copy_signature-at.ensures.0, whole.long, length-take-le n a.message.now room)

pub returns : goal.returns
returns c =
    let a = c.args in
    let n = c.in_ok-length.length in
    let none = granted-none (profile_causes a.p) c.in_ok-check_profile.was c.check_profile.ensures in
    let whole = judged-whole a.p a.sheet.now c.judge.ensures c.in_ok-length.was in
    let enough = ltb-false _ _ c.in_ok-refuse_if.ensures.granted in
    let room = ltb-false _ _ c.in_ok-refuse_if-2.ensures.granted in
    let text = rw (length-take-le n a.message.now room) at c.copy_text.ensures in
    sheet-granted a.p a.sheet.now a.signature.now a.message.now none whole (omega (arith, enough, c.signature_length.ensures)) room
    c.copy_signature-at.ensures.0 c.copy_signature-at.ensures.1 (ap (λ l. l ++ drop n a.message.now) text)
