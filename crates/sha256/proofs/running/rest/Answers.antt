-- The bytes behind the last whole block are copied into zeros.
use Rattle.std.proofs.Common.{◌≡◌, [], ◌+◌, ◌-◌, ◌*◌, ◌/◌, ◌%◌, length, drop, refl, ap, ◌∙◌, arith, length-drop}
use Rattle.sha256.specs.Running.{rest}
use Rattle.sha256.proofs.Extension.{copied}
use Rattle.sha256.proofs.running.rest.Goals as goal

pub returns : goal.returns
unfolding rest
returns c =
    let bytes = c.args.bytes.now in
    let front : length bytes - length bytes % 64 ≡ length bytes / 64 * 64 = omega arith in
    let behind : c.remainder.result.now ≡ drop (length bytes / 64 * 64) bytes = rw front at (c.remainder.ensures ∙ c.chunks_exact.ensures.remainder) in
    let left : 0 + length c.remainder.result.now ≡ length bytes % 64 = omega (arith, ap length behind ∙ length-drop (length bytes / 64 * 64) bytes) in
    copied [] c.remainder.result.now 0 refl (omega arith) refl c.copy.ensures ∙ rw (left, behind)
