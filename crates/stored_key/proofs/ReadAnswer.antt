-- What Read key takes from a frame's bytes, the kind among them, and what it answers.
use mathlib.Core.Path.{◌≡◌, refl, sym, ap, ◌∙◌}
use mathlib.Core.Bool.{Bool, true, false, cond, true≢false}
use mathlib.Core.List.{List, [], ◌∷◌, append-nil}
use Prim.Native.Nat.{ℕ, ◌+◌, ◌*◌, ◌^◌, ◌≤◌, ◌<◌}
use native.Mathlib.Omega.{arith}
use borrow.Author.Tests.{lt-ltb, eq-eqb, ltb-true, eqb-true}
use lib.Dec.{ltb, eqb}
use lib.ListN.{length, get_or, take, drop, length-drop, drop_of_length-le}
use lib.Seq.{drop-cons, drop-drop, get_or-drop}
use Rattle.std.specs.Prelude.{Some, None, Result, Ok, Err}
use Rattle.std.specs.Option.{ok_or}
use Rattle.std.specs.Result.{is_err}
use Rattle.refusal.specs.Code.{code, outcome_code, first_cause}
use Rattle.refusal.proofs.Positive.{code-positive}
use Rattle.refusal.specs.declared.Refusal.{Refusal}
use Rattle.refusal.specs.declared.Refusal.TheVariants.{SheetLine}
use Rattle.std.specs.Int.{w16, from_be_bytes}
use Rattle.octets.specs.Bytes.{from_bytes}
use Rattle.lists.proofs.Lists.{drop-two, below-drop}
use Rattle.lists.proofs.Tests.{both}
use Rattle.hex_lines.specs.Hex.{right, line_of, read_line}
use Rattle.hex_lines.specs.inner.Digits.{has_bytes, ReadsLine}
use Rattle.hex_lines.proofs.HexLaws.{line-of-read}
use Rattle.profile.specs.Checks.{profile_causes}
use Rattle.profile.specs.declared.Profile.{Profile}
use Rattle.signing_key.specs.Counter.{mark_counts}
use Rattle.signing_key.specs.declared.SigningKey.{SigningKey}
use Rattle.stored_key.specs.KeyFields.{chains_field, width_field, height_field, sum_field, seed_field, secret_field, next_field, mark_field, offset, key_length}
use Rattle.stored_key.specs.KeyFields.{field_in, byte_in}
use Rattle.stored_key.specs.KeyFrame.{key_in, without_idle_mark, Stored, wrong_frame, stored, read_stored}
use Rattle.stored_key.specs.Operations.{read_key_code, stored_line, key_of, ReadsKey}
use Rattle.stored_key.specs.inner.Parts.{field_place, frame_length, framed_test, key_found}
use Rattle.stored_key.proofs.KeyLaws.{idle-profile}
use Rattle.stored_key.proofs.StoredLaws.{RightFrame, right-line, right-read, right-long, wrong-read}

-- the library's number of two bytes
two-bytes : (high low : ℕ) → from_be_bytes w16 (high ∷ low ∷ []) ≡ from_bytes (high ∷ low ∷ [])
unfolding from_bytes
two-bytes high low = omega arith

module _ (bytes : List ℕ) (long : frame_length ≤ length bytes) where
  -- the sum behind the kind
  pub sum-behind : {two : List ℕ} → two ≡ take 2 (drop (field_place sum_field) bytes)
      → from_be_bytes w16 two ≡ from_bytes (field_in sum_field (drop 1 bytes))
  sum-behind e =
      rw (e, drop-drop (offset sum_field) 1 bytes, drop-two 0 bytes (field_place sum_field) (omega arith))
      (two-bytes (get_or bytes (field_place sum_field) 0) (get_or bytes (field_place sum_field + 1) 0))

  -- the profile behind the kind
  pub profile-behind : {sum edition : ℕ} → sum ≡ from_bytes (field_in sum_field (drop 1 bytes))
      → edition ≡ cond (eqb (length (drop 1 bytes)) (key_length + 1)) 2 1
      → ◌≡◌ {A = Profile} (record {
        shape = record {
          chains = get_or bytes (field_place chains_field) 0;
          width = get_or bytes (field_place width_field) 0;
          sum = sum;
        };
        height = get_or bytes (field_place height_field) 0;
        edition = edition;
      })
      (key_in (drop 1 bytes)).profile
  unfolding key_in
  profile-behind s e =
      rw (get_or-drop 1 bytes (offset chains_field) 0, get_or-drop 1 bytes (offset width_field) 0, get_or-drop 1 bytes (offset height_field) 0, s, e)

  -- the key behind the kind
  pub key-behind : {p : Profile} {seed secret : List ℕ} {next : ℕ} {mark : Bool} → p ≡ (key_in (drop 1 bytes)).profile
      → seed ≡ take 16 (drop (field_place seed_field) bytes) → secret ≡ take 16 (drop (field_place secret_field) bytes)
      → next ≡ from_bytes (take 4 (drop (field_place next_field) bytes))
      → mark ≡ mark_counts (2 ^ p.height) (record { next = next; mark = eqb (get_or bytes (field_place mark_field) 0) 1 })
      → ◌≡◌ {A = SigningKey} (record { profile = p; seed = seed; secret = secret; counter = record { next = next; mark = mark } })
      (without_idle_mark (key_in (drop 1 bytes)))
  unfolding key_in without_idle_mark
  key-behind e seed secret next mark =
      rw (
        mark,
        seed,
        secret,
        next,
        e,
        drop-drop (offset seed_field) 1 bytes,
        drop-drop (offset secret_field) 1 bytes,
        drop-drop (offset next_field) 1 bytes,
        get_or-drop 1 bytes (offset mark_field) 0,
      )

-- an answer that is no refusal has the code 0, and one that is has another
pub right-granted : (r : Result (Unit {0}) Refusal) → is_err r ≡ false → outcome_code r ≡ 0
right-granted (Ok v) q = refl
right-granted (Err e) q = absurd (true≢false q)

pub wrong-refused : (r : Result (Unit {0}) Refusal) → is_err r ≡ true → outcome_code r ≡ 0 → ⊥
wrong-refused (Ok v) q z = true≢false (sym q)
wrong-refused (Err e) q z = let positive : 0 < code e = code-positive e in omega arith

module _ (frame : List ℕ) where
  -- a frame that is refused
  pub no-key : ((bytes : List ℕ) → RightFrame frame bytes → ⊥) → key_found (read_stored frame) ≡ None
  unfolding key_found
  no-key never = ap key_found (wrong-read frame never)

  -- a right frame is as long as the line of either edition
  pub other-long : (length frame ≡ 2 * frame_length + 1 → ⊥) → (length frame ≡ 2 * frame_length + 3 → ⊥) → (bytes : List ℕ) → RightFrame frame bytes → ⊥
  other-long first second bytes r = omega (arith, right-long r, r.some, r.few)

  -- a frame that is read
  pub reads-key : {bytes : List ℕ} {key : SigningKey} → RightFrame frame bytes → key ≡ without_idle_mark (key_in bytes)
      → key_found (read_stored frame) ≡ Some key
  unfolding key_found
  reads-key r found = ap key_found (right-read r) ∙ ap Some (sym found)

  -- what is answered to the key that is found, or to none
  pub key-answer : {r : Result SigningKey Refusal} → r ≡ ok_or (key_found (read_stored frame)) (SheetLine 1) → ReadsKey frame r
  unfolding key_found read_key_code stored_line key_of
  key-answer e = rw e (by (read_stored frame) refl)
    where
      by : (s : Stored) → read_stored frame ≡ s → ReadsKey frame (ok_or (key_found s) (SheetLine 1))
      by wrong_frame q = record { code = rw q; line = rw q; key = rw q }
      by (stored key) q = record { code = rw q; line = rw q; key = rw q }

  -- a frame that is wrong is refused by 17 with line 1
  pub wrong-answer : {cause : Refusal} {r : Result SigningKey Refusal} → key_found (read_stored frame) ≡ None → cause ≡ SheetLine 1 → r ≡ Err cause → ReadsKey frame r
  wrong-answer none same told = key-answer (told ∙ rw (none, same) refl)

  pub right-answer : {key : SigningKey} → key_found (read_stored frame) ≡ Some key → ReadsKey frame (Ok key)
  right-answer found = key-answer (rw found refl)

  -- a line of other than the slice's bytes is no right frame of its length
  pub other-line : (old new : List ℕ) → length frame ≡ 2 * length old + 1 → ReadsLine frame 0 old new false → (bytes : List ℕ) → RightFrame frame bytes → ⊥
  unfolding has_bytes
  other-line old new long read bytes r =
      true≢false (sym (read.told ∙ rw (right-line r) (eq-eqb (length (7 ∷ bytes)) (length old) (omega (arith, right-long r)))))

  -- the line is all of the frame
  pub whole-line : (old new : List ℕ) → length frame ≡ 2 * length old + 1 → ReadsLine frame 0 old new true → read_line frame ≡ right new []
  whole-line old new long read = read.bytes refl ∙ ap (right new) (drop_of_length-le frame {i = 0 + 2 * length old + 1} (omega arith))

  module _ {new : List ℕ} (line : read_line frame ≡ right new []) where
    -- a right frame has these bytes, and they pass the tests
    bytes_are : (bytes : List ℕ) → RightFrame frame bytes → new ≡ 7 ∷ bytes
    bytes_are bytes r = let same = right-line r in cc

    pub right-framed : (bytes : List ℕ) → RightFrame frame bytes → framed_test new ≡ true
    right-framed bytes r = rw (bytes_are bytes r, lt-ltb (byte_in mark_field bytes) 2 r.mark, eq-eqb (get_or bytes key_length 2) 2 r.last)

    -- and the key in them
    module _ {key : SigningKey} (found : key ≡ without_idle_mark (key_in (drop 1 new))) where
      same_cause : first_cause (profile_causes key.profile) ≡ first_cause (profile_causes (key_in (drop 1 new)).profile)
      same_cause = rw (found, idle-profile)

      pub right-passed : (bytes : List ℕ) → RightFrame frame bytes → first_cause (profile_causes key.profile) ≡ 0
      right-passed bytes r = same_cause ∙ rw (bytes_are bytes r) r.passed

      -- bytes that pass the tests are those of a right frame
      pub framed-right : frame_length ≤ length new → length new ≤ frame_length + 1 → framed_test new ≡ true → first_cause (profile_causes key.profile) ≡ 0
          → RightFrame frame (drop 1 new)
      framed-right some few tests passed =
          let kind = both (eqb (get_or new 0 0) 7) _ tests in
          let mark = both (ltb (get_or new (field_place mark_field) 0) 2) (eqb (get_or new frame_length 2) 2) kind.1 in
          let written = line-of-read frame line in
          let cut : new ≡ 7 ∷ drop 1 new = drop-cons new 0 0 (omega arith) ∙ ap (λ k. k ∷ drop 1 new) (eqb-true (get_or new 0 0) 7 kind.0) in
          let long = length-drop 1 new in
          record {
            line = written.line ∙ append-nil (line_of new) ∙ ap line_of cut;
            below = below-drop 256 1 new written.below;
            some = omega arith;
            few = omega arith;
            mark = rw (get_or-drop 1 new (offset mark_field) 0) (ltb-true (get_or new (field_place mark_field) 0) 2 mark.0);
            last = rw (get_or-drop 1 new key_length 2) (eqb-true (get_or new frame_length 2) 2 mark.1);
            passed = sym same_cause ∙ passed;
          }
