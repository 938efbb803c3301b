-- The checks of the profile, the room, and then the front of the frame, and behind it the last bytes as far as the edition has them.
use Rattle.std.proofs.Common.{◌≡◌, ◌+◌, ◌^◌, length, ap, arith, rules}
use Rattle.std.specs.Prelude.{Err}
use borrow.Author.Tests.{ltb-true, ltb-false}
use Rattle.refusal.specs.declared.Refusal.TheVariants.{OutputTooShort}
use Rattle.refusal.proofs.Causes.{granted-none}
use Rattle.profile.specs.Checks.{profile_causes}
use Rattle.profile.proofs.Limits.{profile-limits}
use Rattle.signing_key.specs.Counter.{mark_counts}
use Rattle.stored_key.specs.inner.Parts.{last_length}
use Rattle.stored_key.proofs.WriteAnswer.{last_taken, frame_written, stored-long, profile-refused, no_room, key_written}
use Rattle.stored_key.proofs.writer.write_key.Goals as goal

pub returns-in_err-check_profile : goal.returns-in_err-check_profile
returns-in_err-check_profile c =
    let told : c.from_residual.result ≡ Err c.in_err-check_profile.field-0.0 = search rules in
    profile-refused c.args.key c.args.frame.now c.in_err-check_profile.was c.check_profile.ensures told

pub invariant_of-limited : goal.invariant_of-limited
invariant_of-limited c =
    let p = c.args.key.profile in
    record { sizes = profile-limits p (granted-none (profile_causes p) c.in_ok-check_profile.was c.check_profile.ensures) }

pub returns-in_err-refuse_if : goal.returns-in_err-refuse_if
returns-in_err-refuse_if c =
    let key = c.args.key in
    let frame = c.args.frame.now in
    let seed_long : length key.seed ≡ 16 = search rules in
    let secret_long : length key.secret ≡ 16 = search rules in
    let passed = granted-none (profile_causes key.profile) c.in_ok-check_profile.was c.check_profile.ensures in
    let told : c.from_residual-in_err-refuse_if.result ≡ Err OutputTooShort = search rules in
    let short = ltb-true _ _ (c.in_err-refuse_if.ensures.refused.1) in
    no_room key frame passed (omega (arith, short, stored-long key seed_long secret_long, c.edition_bytes-added.ensures.0)) told

pub returns : goal.returns
returns c =
    let key = c.args.key in
    let frame = c.args.frame.now in
    let seed_long : length key.seed ≡ 16 = search rules in
    let secret_long : length key.secret ≡ 16 = search rules in
    let passed = granted-none (profile_causes key.profile) c.in_ok-check_profile.was c.check_profile.ensures in
    let room = ltb-false _ _ c.in_ok-refuse_if.ensures.granted in
    let last = last_taken key.counter.next (mark_counts (2 ^ key.profile.height) key.counter) key.profile.edition
    (last_length + c.edition_bytes-added.result) (ap (λ n. last_length + n) c.edition_bytes-added.ensures.0) c.last_bytes-last.ensures in
    let written = frame_written key seed_long secret_long frame c.write_front.ensures last c.write_line.ensures.0 c.write_line.ensures.1 in
    key_written key frame passed (omega (arith, room, stored-long key seed_long secret_long, c.edition_bytes-added.ensures.0)) written.0 written.1
