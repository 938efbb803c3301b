-- Reading what was written gives the key, and writing what was read gives the frame.
use mathlib.Core.Path.{◌≡◌, refl, sym, ap, ◌∙◌}
use mathlib.Core.Bool.{Bool, true, false, not, true≢false}
use mathlib.Core.List.{List, []}
use Prim.Native.Nat.{ℕ, ◌^◌}
use native.Mathlib.Omega.{arith}
use borrow.Author.Tests.{eqb-true}
use lib.ListN.{length, take, drop}
use lib.Seq.{take_at}
use Rattle.std.specs.Prelude.{Result}
use Rattle.std.specs.Result.{result_unwrap_or}
use Rattle.refusal.specs.Code.{outcome_code, line_told}
use Rattle.refusal.specs.declared.Refusal.{Refusal}
use Rattle.lists.proofs.Tests.{both}
use Rattle.profile.specs.Checks.{outside}
use Rattle.profile.specs.declared.Profile.{Profile}
use Rattle.signing_key.specs.Counter.{mark_counts}
use Rattle.signing_key.specs.declared.Counter.{Counter}
use Rattle.signing_key.specs.declared.SigningKey.{SigningKey}
use Rattle.stored_key.specs.KeyFields.{mark_field, byte_in}
use Rattle.stored_key.specs.KeyFrame.{key_in, without_idle_mark, stored_key, Stored, wrong_frame, stored, read_stored}
use Rattle.stored_key.specs.Operations.{no_key, read_key_code, stored_line, key_of, ReadsKey}
use Rattle.stored_key.specs.RoundTrip.{WrittenKeyIsRead, IdleIn, ReadKeyIsWritten}
use Rattle.stored_key.proofs.BytesLaws.{bytes_again}
use Rattle.stored_key.proofs.StoredLaws.{RightFrame, right_frame, read_right, stored-read}
use Rattle.stored_key.proofs.WriteAnswer.{granted-passed, granted-written, room-granted}

-- what Read key answers to a frame that is read as a key, and the other way round
module _ {frame : List ℕ} {found : Result SigningKey Refusal} (r : ReadsKey frame found) where
  stored_answer : {key : SigningKey} → read_stored frame ≡ stored key → (outcome_code found ≡ 0) × (line_told found ≡ 0) × (result_unwrap_or found no_key ≡ key)
  unfolding read_key_code stored_line key_of
  stored_answer e = (r.code ∙ ap read_key_code e, r.line ∙ ap stored_line e, r.key ∙ ap key_of e)

  answer-stored : outcome_code found ≡ 0 → read_stored frame ≡ stored (result_unwrap_or found no_key)
  unfolding read_key_code key_of
  answer-stored granted = by (read_stored frame) refl
    where
      by : (s : Stored) → read_stored frame ≡ s → read_stored frame ≡ stored (result_unwrap_or found no_key)
      by wrong_frame e = let seventeen = r.code ∙ ap read_key_code e in absurd (omega arith)
      by (stored key) e = e ∙ ap stored (sym (r.key ∙ ap key_of e))

pub written-is-read : WrittenKeyIsRead
written-is-read key frame frame' made held w granted found r =
    let zero = sym w.code ∙ granted in
    let written = granted-written key frame w zero in
    let front : take (result_unwrap_or made 0) frame' ≡ stored_key key = rw (written.0, written.1)
    (take_at (stored_key key) (drop (length (stored_key key)) frame) (length (stored_key key)) refl) in
    stored_answer r (rw front (stored-read key held (granted-passed key frame zero)))

-- a mark that counts is a mark
marked-mark : (p : Profile) (c : Counter) → mark_counts (2 ^ p.height) c ≡ true → c.mark ≡ true
unfolding mark_counts
marked-mark p c e = (both c.mark (not (outside 1 (2 ^ p.height) c.next)) e).0

-- where the mark of a frame is not idle, the key in it is met as it stands
module _ {frame bytes : List ℕ} (r : RightFrame frame bytes) (counts : IdleIn frame → ⊥) where
  idle : mark_counts (2 ^ (key_in bytes).profile.height) (key_in bytes).counter ≡ false → (key_in bytes).counter.mark ≡ true → IdleIn frame
  unfolding IdleIn key_in
  idle e m = (bytes, [], right_frame r, eqb-true (byte_in mark_field bytes) 1 m, e)

  same-mark : mark_counts (2 ^ (key_in bytes).profile.height) (key_in bytes).counter ≡ (key_in bytes).counter.mark
  same-mark = by (mark_counts (2 ^ (key_in bytes).profile.height) (key_in bytes).counter) (key_in bytes).counter.mark refl refl
    where
      by : (t u : Bool) → mark_counts (2 ^ (key_in bytes).profile.height) (key_in bytes).counter ≡ t → (key_in bytes).counter.mark ≡ u → t ≡ u
      by true true e m = refl
      by false false e m = refl
      by true false e m = absurd (true≢false (sym (marked-mark (key_in bytes).profile (key_in bytes).counter e) ∙ m))
      by false true e m = absurd (counts (idle e m))

  no_idle_mark : without_idle_mark (key_in bytes) ≡ key_in bytes
  unfolding without_idle_mark
  no_idle_mark = rw same-mark

  frame_again : stored_key (key_in bytes) ≡ frame
  unfolding stored_key
  frame_again = rw (no_idle_mark, bytes_again bytes r.below r.some r.few r.mark r.last) (sym r.line)

pub read-is-written : ReadKeyIsWritten
read-is-written frame found r granted counts slice slice' made room w =
    let key : SigningKey = result_unwrap_or found no_key in
    let of = read_right frame (answer-stored r granted) in
    let same : key ≡ key_in of.0 = of.2 ∙ no_idle_mark of.1 counts in
    let again : stored_key key ≡ frame = ap stored_key same ∙ frame_again of.1 counts in
    let zero = room-granted key slice (rw same of.1.passed) (rw again room) in
    let written = granted-written key slice w zero in
    (w.code ∙ zero, rw again at written.0, rw again at written.1)
