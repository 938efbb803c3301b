-- Refused for the table, for the order or by 19, or signed.
use Rattle.std.proofs.Common.{rules, arith, ◌≡◌, take, [], ◌∷◌, ◌∙◌, sym}
use lib.Seq.{length-take-le}
use Rattle.refusal.specs.Code.{outcome_code, first_cause}
use Rattle.numbers.specs.Number.{value}
use Rattle.message.specs.Message.{count_too_small}
use Rattle.signer.specs.Operations.{SigningCall}
use Rattle.signer.proofs.Answers.{sign_table_refused, sign_filled, sign_within, sign_order_refused, sign_count_refused, sign_ready, sign_granted}
use Rattle.signer.proofs.sign.Goals as goal

pub returns-in_err-check_table : goal.returns-in_err-check_table
returns-in_err-check_table c =
    let a = c.args in
    sign_table_refused a.key.now _ c.check_table.ensures c.in_err-check_table.was (search rules)

pub returns-in_err-check_order : goal.returns-in_err-check_order
returns-in_err-check_order c =
    let a = c.args in
    sign_order_refused a.key.now _ c.check_table.ensures c.in_ok-check_table.was c.check_order.ensures c.in_err-check_order.was (search rules)

pub invariant_of-limited : goal.invariant_of-limited
invariant_of-limited c =
    let a = c.args in
    let call : SigningCall = record { r = a.r; message = a.message.now; work = a.table.now; out = a.signature.now } in
    record { limits = (sign_filled a.key.now call c.check_table.ensures c.in_ok-check_table.was).limits }

pub fill-count-requires : goal.fill-count-requires
fill-count-requires c =
    let a = c.args in
    let call : SigningCall = record { r = a.r; message = a.message.now; work = a.table.now; out = a.signature.now } in
    (sign_filled a.key.now call c.check_table.ensures c.in_ok-check_table.was).room

pub returns-in_err-refuse_if : goal.returns-in_err-refuse_if
returns-in_err-refuse_if c =
    let a = c.args in
    let looked : outcome_code c.refuse_if.result ≡ first_cause ((count_too_small (value c.fill-count.result), 19) ∷ []) = search rules in
    sign_count_refused a.key.now _ c.check_table.ensures c.in_ok-check_table.was c.check_order.ensures c.in_ok-check_order.was
    c.fill-count.ensures.0 c.fill-count.ensures.1 looked c.in_err-refuse_if.was (search rules)

pub key_signature-made-requires : goal.key_signature-made-requires
key_signature-made-requires c =
    let a = c.args in
    let call : SigningCall = record { r = a.r; message = a.message.now; work = a.table.now; out = a.signature.now } in
    let looked : outcome_code c.refuse_if.result ≡ first_cause ((count_too_small (value c.fill-count.result), 19) ∷ []) = search rules in
    (sign_ready a.key.now call c.check_table.ensures c.in_ok-check_table.was c.check_order.ensures c.in_ok-check_order.was
    c.fill-count.ensures.0 c.fill-count.ensures.1 looked c.in_ok-refuse_if.was).0

pub slice_bounds-made-end : goal.slice_bounds-made-end
slice_bounds-made-end c =
    let a = c.args in
    let call : SigningCall = record { r = a.r; message = a.message.now; work = a.table.now; out = a.signature.now } in
    sign_within a.key.now call c.check_table.ensures c.in_ok-check_table.was c.key_signature-made.result c.signature_length.ensures (search rules)

pub slice_bounds-copy-end : goal.slice_bounds-copy-end
slice_bounds-copy-end c =
    let a = c.args in
    let call : SigningCall = record { r = a.r; message = a.message.now; work = a.table.now; out = a.signature.now } in
    let within =
    sign_within a.key.now call c.check_table.ensures c.in_ok-check_table.was c.key_signature-made.result c.signature_length.ensures (search rules) in
    sym (length-take-le c.signature_length.result c.key_signature-made.result within)

pub copy-requires : goal.copy-requires
copy-requires c =
    let a = c.args in
    let call : SigningCall = record { r = a.r; message = a.message.now; work = a.table.now; out = a.signature.now } in
    let looked : outcome_code c.refuse_if.result ≡ first_cause ((count_too_small (value c.fill-count.result), 19) ∷ []) = search rules in
    let within =
    sign_within a.key.now call c.check_table.ensures c.in_ok-check_table.was c.key_signature-made.result c.signature_length.ensures (search rules) in
    let room = (sign_ready a.key.now call c.check_table.ensures c.in_ok-check_table.was c.check_order.ensures c.in_ok-check_order.was
    c.fill-count.ensures.0 c.fill-count.ensures.1 looked c.in_ok-refuse_if.was).1 in
    omega (arith, room, c.signature_length.ensures, length-take-le c.signature_length.result c.key_signature-made.result within)

pub returns : goal.returns
returns c =
    let a = c.args in
    let call : SigningCall = record { r = a.r; message = a.message.now; work = a.table.now; out = a.signature.now } in
    let looked : outcome_code c.refuse_if.result ≡ first_cause ((count_too_small (value c.fill-count.result), 19) ∷ []) = search rules in
    let within =
    sign_within a.key.now call c.check_table.ensures c.in_ok-check_table.was c.key_signature-made.result c.signature_length.ensures (search rules) in
    let long = length-take-le c.signature_length.result c.key_signature-made.result within ∙ c.signature_length.ensures in
    sign_granted a.key.now _ c.check_table.ensures c.in_ok-check_table.was c.check_order.ensures c.in_ok-check_order.was
    c.fill-count.ensures.0 c.fill-count.ensures.1 looked c.in_ok-refuse_if.was (take c.signature_length.result c.key_signature-made.result)
    (rw c.signature_length.ensures c.key_signature-made.ensures) long c.copy.ensures
