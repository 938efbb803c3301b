-- What Write key writes, part by part, and what it answers: refused by the profile, refused by the slice's length, and granted.
use mathlib.Core.Path.{◌≡◌, refl, sym, ap, ◌∙◌}
use mathlib.Core.Bool.{Bool, cond}
use mathlib.Core.List.{List, [], ◌∷◌, ◌++◌, append_assoc}
use Prim.Native.Nat.{ℕ, ◌+◌, ◌*◌, ◌^◌, ◌≤◌, ◌<◌}
use native.Mathlib.Omega.{arith}
use borrow.Author.Tests.{lt-ltb, le-ltb}
use lib.Dec.{ltb}
use lib.ListN.{length, take, drop, length-append}
use Rattle.std.specs.Prelude.{Result, Ok, Err}
use Rattle.std.specs.Result.{result_unwrap_or}
use Rattle.refusal.specs.Code.{code, outcome_code, first_cause}
use Rattle.refusal.specs.declared.Refusal.{Refusal}
use Rattle.refusal.specs.declared.Refusal.TheVariants.{OutputTooShort}
use Rattle.refusal.proofs.Causes.{none_then, none-of-append, refused_first, refused-number}
use Rattle.octets.specs.Bytes.{to_bytes}
use Rattle.lists.proofs.Joins.{written_behind}
use Rattle.hex_lines.specs.Hex.{hex_of, line_end, line_of}
use Rattle.hex_lines.proofs.HexLaws.{length-hex_of, hex_of-append}
use Rattle.hex_lines.proofs.Writing.{length-line_of}
use Rattle.profile.specs.Checks.{profile_causes}
use Rattle.profile.specs.declared.Profile.{Profile}
use Rattle.profile.proofs.Limits.{profile-numbered}
use Rattle.frames.specs.Frames.{edition_byte}
use Rattle.frames.proofs.FrameLaws.{line-long}
use Rattle.frames.proofs.FrameNumbers.{edition_byte_lem}
use Rattle.signing_key.specs.Counter.{mark_counts}
use Rattle.signing_key.specs.declared.SigningKey.{SigningKey}
use Rattle.stored_key.specs.KeyFields.{seed_field, secret_field, next_field}
use Rattle.stored_key.specs.KeyFrame.{key_bytes, without_idle_mark, stored_key}
use Rattle.stored_key.specs.Operations.{write_key_code, bytes_written, frame_after, WritesKey}
use Rattle.stored_key.specs.inner.Parts.{field_place, frame_length, last_length, front_bytes, last_bytes}
use Rattle.stored_key.proofs.KeyLaws.{key_parts, key-bytes-long}

-- bytes that are written behind others, and a line
module _ (front bytes o : List ℕ) (at : ℕ) {out out' : List ℕ} (long : 2 * length front ≡ at) (e : out ≡ hex_of front ++ drop at o) where
  bytes-behind : out' ≡ take at out ++ hex_of bytes ++ drop (at + 2 * length bytes) out → out' ≡ hex_of (front ++ bytes) ++ drop (at + 2 * length bytes) o
  bytes-behind w = written_behind (hex_of front) (hex_of bytes) o at (2 * length bytes) (length-hex_of front ∙ long) e w ∙ rw (hex_of-append front bytes)

  line-behind : {end : ℕ} → end ≡ at + length (line_of bytes) → out' ≡ take at out ++ line_of bytes ++ drop end out → out' ≡ line_of (front ++ bytes) ++ drop end o
  unfolding line_of
  line-behind {end} q w =
      written_behind (hex_of front) (line_of bytes) o at (length (line_of bytes)) (length-hex_of front ∙ long) e (w ∙ rw q)
      ∙ rw (← q, hex_of-append front bytes) (ap (λ l. l ++ drop end o) (sym (append_assoc (hex_of front) (hex_of bytes) (line_end ∷ []))))

-- what stands in front of the seeds, of a head with the byte of edition 2
pub front-taken : (p : Profile) {head : List ℕ} → head ≡ 7 ∷ p.shape.chains ∷ p.shape.width ∷ p.height ∷ (to_bytes 2 p.shape.sum ++ edition_byte 2)
    → take (field_place seed_field) head ≡ front_bytes p
unfolding to_bytes
front-taken p e = ap (take (field_place seed_field)) e

pub front_long : (p : Profile) → length (front_bytes p) ≡ field_place seed_field
unfolding to_bytes
front_long p = refl

-- what stands in front of the last bytes
pub front-written : (p : Profile) (seed secret o : List ℕ) {o₁ o₂ o₃ : List ℕ} → length seed ≡ 16 → length secret ≡ 16
    → o₁ ≡ take 0 o ++ hex_of (front_bytes p) ++ drop (0 + 2 * length (front_bytes p)) o
    → o₂ ≡ take (2 * field_place seed_field) o₁ ++ hex_of seed ++ drop (2 * field_place seed_field + 2 * length seed) o₁
    → o₃ ≡ take (2 * field_place secret_field) o₂ ++ hex_of secret ++ drop (2 * field_place secret_field + 2 * length secret) o₂
    → o₃ ≡ hex_of (front_bytes p ++ seed ++ secret) ++ drop (2 * field_place next_field) o
unfolding to_bytes
front-written p seed secret o seed_long secret_long e₁ e₂ e₃ =
    let front : List ℕ = front_bytes p in
    let second = rw seed_long at (bytes-behind front seed o (2 * field_place seed_field) refl e₁ e₂) in
    let long : 2 * length (front ++ seed) ≡ 2 * field_place secret_field = omega (arith, length-append front seed) in
    bytes-behind (front ++ seed) secret o (2 * field_place secret_field) long second e₃ ∙ rw secret_long

pub last-long : (next : ℕ) (mark : Bool) (edition : ℕ) → length (last_bytes next mark edition) ≡ last_length + length (edition_byte edition)
unfolding to_bytes
last-long next mark edition = omega arith

-- the last bytes of edition 2, as far as another edition has them
pub last_taken : (next : ℕ) (mark : Bool) (edition count : ℕ) {last : List ℕ} → count ≡ last_length + length (edition_byte edition) → last ≡ last_bytes next mark 2
    → take count last ≡ last_bytes next mark edition
unfolding to_bytes edition_byte
last_taken next mark edition count e w =
    rw (e, w) (edition_byte_lem (λ ending. take (last_length + length ending) (last_bytes next mark 2) ≡ to_bytes 4 next
    ++ (cond mark 1 0 ∷ ending)) edition refl refl)

module _ (key : SigningKey) (seed_long : length key.seed ≡ 16) (secret_long : length key.secret ≡ 16) where
  -- how long the frame is
  pub stored-long : length (stored_key key) ≡ 2 * (frame_length + length (edition_byte key.profile.edition)) + 1
  unfolding stored_key without_idle_mark
  stored-long = line-long (7 ∷ []) (key_bytes (without_idle_mark key)) ∙ omega (arith, key-bytes-long (without_idle_mark key) seed_long secret_long)

  -- the whole frame
  pub frame_written : (o : List ℕ) {o₁ o₂ last : List ℕ} {end : ℕ}
      → o₁ ≡ hex_of (front_bytes key.profile ++ key.seed ++ key.secret) ++ drop (2 * field_place next_field) o
      → last ≡ last_bytes key.counter.next (mark_counts (2 ^ key.profile.height) key.counter) key.profile.edition
      → end ≡ 2 * field_place next_field + length (line_of last) → o₂ ≡ take (2 * field_place next_field) o₁ ++ line_of last ++ drop end o₁
      → (end ≡ length (stored_key key))
      × (o₂ ≡ stored_key key ++ drop end o)
  unfolding stored_key without_idle_mark to_bytes
  frame_written o {end} e₁ l q e₂ =
      let front : List ℕ = front_bytes key.profile in
      let seeds : List ℕ = front ++ key.seed ++ key.secret in
      let last : List ℕ = last_bytes key.counter.next (mark_counts (2 ^ key.profile.height) key.counter) key.profile.edition in
      let long : 2 * length seeds ≡ 2 * field_place next_field = omega
      (arith, length-append (front ++ key.seed) key.secret, length-append front key.seed) in (
        omega (arith, stored-long, length-line_of last, ap (λ l. length (line_of l)) l),
        line-behind seeds last o (2 * field_place next_field) long e₁ (q ∙ rw l) (e₂ ∙ rw l)
            ∙ ap (λ l. line_of l ++ drop end o) (sym (key_parts (without_idle_mark key))),
      )

-- the two refusals, and the answer to a key that is written
module _ (key : SigningKey) (frame : List ℕ) where
  abbrev late : List (Bool × ℕ)
  late = (ltb (length frame) (length (stored_key key)), 6) ∷ []

  -- refused, nothing is written
  key-refused : {e : Refusal} {r : Result ℕ Refusal} → r ≡ Err e → code e ≡ write_key_code key frame → WritesKey key frame frame r
  unfolding bytes_written frame_after
  key-refused q number =
      let told = ap outcome_code q ∙ number in
      let some = refused-number q told in
      record { code = told; bytes = rw (q, some); written = rw some }

  pub profile-refused : {e : Refusal} {checked : Result (Unit {0}) Refusal} {r : Result ℕ Refusal} → checked ≡ Err e
      → outcome_code checked ≡ first_cause (profile_causes key.profile) → r ≡ Err e → WritesKey key frame frame r
  unfolding write_key_code
  profile-refused q o w = key-refused w (refused_first (profile_causes key.profile) late q o)

  pub granted-passed : write_key_code key frame ≡ 0 → first_cause (profile_causes key.profile) ≡ 0
  unfolding write_key_code
  granted-passed zero = (none-of-append (profile_causes key.profile) late (profile-numbered key.profile) zero).0

  -- what is left where nothing is refused
  pub granted-written : {frame' : List ℕ} {made : Result ℕ Refusal} → WritesKey key frame frame' made → write_key_code key frame ≡ 0
      → (result_unwrap_or made 0 ≡ length (stored_key key)) × (frame' ≡ stored_key key ++ drop (length (stored_key key)) frame)
  unfolding bytes_written frame_after
  granted-written w zero = (rw zero at w.bytes, rw zero at w.written)

  module _ (none : first_cause (profile_causes key.profile) ≡ 0) where
    code_then : write_key_code key frame ≡ first_cause late
    unfolding write_key_code
    code_then = none_then (profile_causes key.profile) late none (profile-numbered key.profile)

    pub no_room : {r : Result ℕ Refusal} → length frame < length (stored_key key) → r ≡ Err OutputTooShort → WritesKey key frame frame r
    no_room short q = key-refused q (sym (code_then ∙ rw (lt-ltb (length frame) (length (stored_key key)) short)))

    pub room-granted : length (stored_key key) ≤ length frame → write_key_code key frame ≡ 0
    room-granted room = code_then ∙ rw (le-ltb (length frame) (length (stored_key key)) room)

    pub key_written : {frame' : List ℕ} {end : ℕ} → length (stored_key key) ≤ length frame → end ≡ length (stored_key key)
        → frame' ≡ stored_key key ++ drop end frame
        → WritesKey key frame frame' (Ok end)
    unfolding bytes_written frame_after
    key_written room e w =
        let zero = room-granted room in
        record { code = sym zero; bytes = rw zero e; written = rw zero (w ∙ rw e) }
