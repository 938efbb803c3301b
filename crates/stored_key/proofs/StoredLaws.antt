-- The frames that are right: what they are read as, and the frame of a key among them.
use mathlib.Core.Path.{◌≡◌, refl, ap, ◌∙◌}
use mathlib.Core.Bool.{Bool, true, false, cond}
use mathlib.Core.List.{List, [], ◌∷◌, append-nil}
use Prim.Native.Nat.{ℕ, ◌+◌, ◌*◌, ◌≤◌, ◌<◌}
use native.Mathlib.Omega.{arith}
use borrow.Author.Tests.{lt-ltb, eq-eqb, ltb-true, eqb-true}
use lib.Dec.{ltb, eqb, lit<}
use lib.ListN.{length, get_or}
use Rattle.refusal.specs.Code.{first_cause}
use Rattle.lists.proofs.Lists.{Below, below-by_test, below_cons}
use Rattle.lists.proofs.Tests.{both}
use Rattle.hex_lines.specs.Hex.{Line, wrong, right, read_line}
use Rattle.hex_lines.proofs.HexLaws.{read-line-of}
use Rattle.profile.specs.Checks.{profile_causes}
use Rattle.frames.specs.Lines.{frame_line, read_frame}
use Rattle.frames.proofs.FrameLaws.{frame_read, read_frame_lem, line-long}
use Rattle.frames.proofs.FrameNumbers.{edition_long}
use Rattle.signing_key.specs.declared.SigningKey.{SigningKey}
use Rattle.stored_key.specs.KeyFields.{mark_field, key_length, byte_in}
use Rattle.stored_key.specs.KeyFrame.{key_frame, key_bytes, without_idle_mark, stored_key, key_in, is_right, Stored, wrong_frame, stored, key_on_line, read_stored}
use Rattle.stored_key.specs.RoundTrip.{Held}
use Rattle.stored_key.proofs.KeyLaws.{idle_gone, idle-profile, idle-held, mark-small, key-bytes-long, mark_byte, last_byte, key-bytes-below}
use Rattle.stored_key.proofs.KeyLaws.{key_in_bytes}

-- a right frame, with these bytes behind its kind
pub record RightFrame (frame bytes : List ℕ) : Type 0 where
  pub line : frame ≡ frame_line key_frame bytes
  pub below : Below 256 bytes
  pub some : key_length ≤ length bytes
  pub few : length bytes ≤ key_length + 1
  pub mark : byte_in mark_field bytes < 2
  pub last : get_or bytes key_length 2 ≡ 2
  pub passed : first_cause (profile_causes (key_in bytes).profile) ≡ 0

module _ {frame bytes : List ℕ} (r : RightFrame frame bytes) where
  pub right-line : read_line frame ≡ right (7 ∷ bytes) []
  right-line = rw (r.line, ← append-nil (frame_line key_frame bytes)) (read-line-of (7 ∷ bytes) [] (below_cons 256 7 bytes (lit< tt) r.below))

  pub right_frame : read_frame key_frame frame ≡ right bytes []
  right_frame =
      rw (r.line, ← append-nil (frame_line key_frame bytes))
      (frame_read key_frame bytes [] (below-by_test 256 (7 ∷ []) tt) r.below r.some r.few)

  -- it is read as the key in it
  pub right-read : read_stored frame ≡ stored (without_idle_mark (key_in bytes))
  unfolding read_stored key_on_line is_right
  right-read = rw (
    right_frame,
    lt-ltb (byte_in mark_field bytes) 2 r.mark,
    eq-eqb (get_or bytes key_length 2) 2 r.last,
    eq-eqb (first_cause (profile_causes (key_in bytes).profile)) 0 r.passed,
  )

  pub right-long : length frame ≡ 2 * length bytes + 3
  right-long = ap length r.line ∙ line-long (7 ∷ []) bytes ∙ omega arith

-- what the tests of a frame's bytes tell
tests_tell : (bytes rest : List ℕ) → is_right bytes rest ≡ true
    → (byte_in mark_field bytes < 2) × (get_or bytes key_length 2 ≡ 2) × (first_cause (profile_causes (key_in bytes).profile) ≡ 0) × (length rest ≡ 0)
unfolding is_right
tests_tell bytes rest told =
    let cause : ℕ = first_cause (profile_causes (key_in bytes).profile) in
    let mark = both (ltb (byte_in mark_field bytes) 2) _ told in
    let last = both (eqb (get_or bytes key_length 2) 2) _ mark.1 in
    let checked = both (eqb cause 0) (eqb (length rest) 0) last.1 in (
      ltb-true (byte_in mark_field bytes) 2 mark.0,
      eqb-true (get_or bytes key_length 2) 2 last.0,
      eqb-true cause 0 checked.0,
      eqb-true (length rest) 0 checked.1,
    )

-- nothing else is read as a key
module _ (frame : List ℕ) where
  pub read_right : {key : SigningKey} → read_stored frame ≡ stored key → (bytes : List ℕ) × RightFrame frame bytes × (key ≡ without_idle_mark (key_in bytes))
  unfolding read_stored key_on_line
  read_right {key} e = by (read_frame key_frame frame) refl e
    where
      never : {A : Type 0} → wrong_frame ≡ stored key → A
      never q = let z : ◌≡◌ {A = ℕ} 0 1 = cc in absurd (omega arith)

      of : (bytes rest : List ℕ) → read_frame key_frame frame ≡ right bytes rest → (t : Bool) → is_right bytes rest ≡ t
          → cond t (stored (without_idle_mark (key_in bytes))) wrong_frame ≡ stored key
          → (bytes' : List ℕ) × RightFrame frame bytes' × (key ≡ without_idle_mark (key_in bytes'))
      of bytes rest p false told q = never q
      of bytes (b ∷ rest) p true told q = let tests = tests_tell bytes (b ∷ rest) told in absurd (omega arith)
      of bytes [] p true told q =
          let framed = read_frame_lem key_frame frame bytes [] p in
          let tests = tests_tell bytes [] told in
          let line : frame ≡ frame_line key_frame bytes = framed.line ∙ append-nil (frame_line key_frame bytes) in (
            bytes,
            record { line = line; below = framed.below; some = framed.some; few = framed.few; mark = tests.0; last = tests.1; passed = tests.2 },
            cc,
          )

      by : (l : Line) → read_frame key_frame frame ≡ l → key_on_line l ≡ stored key → (bytes : List ℕ) × RightFrame frame bytes
          × (key ≡ without_idle_mark (key_in bytes))
      by wrong p q = never q
      by (right bytes rest) p q = of bytes rest p (is_right bytes rest) refl q

  pub wrong-read : ((bytes : List ℕ) → RightFrame frame bytes → ⊥) → read_stored frame ≡ wrong_frame
  wrong-read never = by (read_stored frame) refl
    where
      by : (s : Stored) → read_stored frame ≡ s → s ≡ wrong_frame
      by wrong_frame e = refl
      by (stored key) e = let found = read_right e in absurd (never found.0 found.1)

-- the frame of a key is right
module _ (key : SigningKey) (held : Held key) (passed : first_cause (profile_causes key.profile) ≡ 0) where
  idle-passed : first_cause (profile_causes (without_idle_mark key).profile) ≡ 0
  idle-passed = rw idle-profile passed

  pub stored-right : RightFrame (stored_key key) (key_bytes (without_idle_mark key))
  unfolding stored_key
  stored-right =
      let held' = idle-held key held in
      let long = key-bytes-long (without_idle_mark key) held'.seed_long held'.secret_long in
      let edition = edition_long (without_idle_mark key).profile.edition in
      record {
        line = refl;
        below = key-bytes-below (without_idle_mark key) held' idle-passed;
        some = omega arith;
        few = omega arith;
        mark = rw (mark_byte (without_idle_mark key) held') (mark-small (without_idle_mark key).counter.mark);
        last = last_byte (without_idle_mark key) held';
        passed = rw (key_in_bytes (without_idle_mark key) held' idle-passed) idle-passed;
      }

  -- reading it gives the key, an idle mark as none
  pub stored-read : read_stored (stored_key key) ≡ stored (without_idle_mark key)
  stored-read = right-read stored-right ∙ ap stored (ap without_idle_mark (key_in_bytes (without_idle_mark key) (idle-held key held) idle-passed) ∙ idle_gone key)
