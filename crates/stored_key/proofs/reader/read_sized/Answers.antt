-- The line, the tests of its bytes, and the profile in them.
use Rattle.std.proofs.Common.{◌+◌, ◌≤◌, length, refl, sym, ◌∙◌, arith, rules}
use mathlib.Core.Bool.{true≢false}
use Rattle.stored_key.specs.inner.Parts.{frame_length}
use Rattle.stored_key.proofs.ReadAnswer.{right-granted, wrong-refused, no-key, reads-key, wrong-answer, right-answer, other-line, whole-line}
use Rattle.stored_key.proofs.ReadAnswer.{right-framed, right-passed, framed-right}
use Rattle.stored_key.proofs.reader.read_sized.Goals.{then-not-read_line-via-then-not-read_line, then-not-read_line-via-else-not-read_line+then-not-is_framed}
use Rattle.stored_key.proofs.reader.read_sized.Goals as goal

pub returns-then-not-read_line : goal.returns-then-not-read_line
returns-then-not-read_line c =
    let frame = c.args.frame.now in
    let old = c.args.bytes.now in
    let read = c.read_line.new.bytes in
    elim c.then-not-read_line.branch [
      | then-not-read_line-via-then-not-read_line w ↦
          wrong-answer frame (no-key frame (other-line frame old read c.requires.2 (rw w.if-not-read_line.true at c.read_line.ensures))) refl refl
      | then-not-read_line-via-else-not-read_line+then-not-is_framed w ↦
          let line = whole-line frame old read c.requires.2 (rw w.if-not-read_line.false at c.read_line.ensures) in
          let never = no-key frame (λ bytes r. true≢false (sym (right-framed frame line bytes r) ∙ sym w.is_framed.ensures ∙ w.if-not-is_framed.true)) in
          wrong-answer frame never refl refl
    ]

pub returns-in_err-refuse_if : goal.returns-in_err-refuse_if
returns-in_err-refuse_if c =
    let frame = c.args.frame.now in
    let line = whole-line frame c.args.bytes.now c.read_line.new.bytes c.requires.2 (rw c.if-not-read_line.false at c.read_line.ensures) in
    let refused = wrong-refused c.check_profile.result (sym c.is_err.ensures.value ∙ c.in_err-refuse_if.ensures.refused.1) in
    let never = no-key frame (λ bytes r. refused (c.check_profile.ensures ∙ right-passed frame line c.key_in-key.ensures bytes r)) in
    wrong-answer frame never c.in_err-refuse_if.ensures.refused.0 (search rules)

pub returns : goal.returns
returns c =
    let frame = c.args.frame.now in
    let read = c.read_line.new.bytes in
    let line = whole-line frame c.args.bytes.now read c.requires.2 (rw c.if-not-read_line.false at c.read_line.ensures) in
    let framed = sym c.is_framed.ensures ∙ c.if-not-is_framed.false in
    let some : frame_length ≤ length read = omega (arith, c.requires.0, c.read_line.auto.bytes) in
    let few : length read ≤ frame_length + 1 = omega (arith, c.requires.1, c.read_line.auto.bytes) in
    let passed = sym c.check_profile.ensures ∙ right-granted c.check_profile.result (sym c.is_err.ensures.value ∙ c.in_ok-refuse_if.ensures.granted) in
    right-answer frame (reads-key frame (framed-right frame line c.key_in-key.ensures some few framed passed) c.key_in-key.ensures)
