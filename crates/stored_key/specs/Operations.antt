-- Document 02, point 5: what Write key and Read key answer and leave.
use Rattle.std.specs.Prelude.{◌≡◌, false, cond, List, [], ◌∷◌, ◌++◌, ℕ, ltb, eqb, length, drop, replicate, Result}
use Rattle.std.specs.Result.{result_unwrap_or}
use Rattle.refusal.specs.Code.{outcome_code, line_told, first_cause}
use Rattle.refusal.specs.declared.Refusal.{Refusal}
use Rattle.profile.specs.Checks.{profile_causes}
use Rattle.signing_key.specs.declared.SigningKey.{SigningKey}
use Rattle.stored_key.specs.KeyFrame.{stored_key, Stored, wrong_frame, stored, read_stored}

-- "Writing it gives the profile checks, then 6"
unfoldable pub write_key_code : SigningKey → (frame : List ℕ) → ℕ
write_key_code key frame = first_cause (profile_causes key.profile ++ ((ltb (length frame) (length (stored_key key)), 6) ∷ []))

-- "A writer of a sheet or frame … also gives the number of bytes written": 0 where it is refused
unfoldable pub bytes_written : SigningKey → (frame : List ℕ) → ℕ
bytes_written key frame = cond (eqb (write_key_code key frame) 0) (length (stored_key key)) 0

-- what the slice holds afterwards: the frame, and behind it what stood there; refused, what it held
unfoldable pub frame_after : SigningKey → (frame : List ℕ) → List ℕ
frame_after key frame = cond (eqb (write_key_code key frame) 0) (stored_key key ++ drop (length (stored_key key)) frame) frame

-- what Write key answers and leaves
pub record WritesKey (key : SigningKey) (frame frame' : List ℕ) (r : Result ℕ Refusal) : Type 0 where
  pub code : outcome_code r ≡ write_key_code key frame
  pub bytes : result_unwrap_or r 0 ≡ bytes_written key frame
  pub written : frame' ≡ frame_after key frame

-- the key of a refused answer: every number, byte and mark zero
abbrev pub no_key : SigningKey
no_key =
    record {
      profile = record { shape = record { chains = 0; width = 0; sum = 0 }; height = 0; edition = 0 };
      seed = replicate 16 0;
      secret = replicate 16 0;
      counter = record { next = 0; mark = false };
    }

-- "17 with 1": the code
unfoldable pub read_key_code : Stored → ℕ
read_key_code wrong_frame = 17
read_key_code (stored key) = 0

-- and the number of the line
unfoldable pub stored_line : Stored → ℕ
stored_line wrong_frame = 1
stored_line (stored key) = 0

-- the key that is answered
unfoldable pub key_of : Stored → SigningKey
key_of wrong_frame = no_key
key_of (stored key) = key

-- what Read key answers
pub record ReadsKey (frame : List ℕ) (r : Result SigningKey Refusal) : Type 0 where
  pub code : outcome_code r ≡ read_key_code (read_stored frame)
  pub line : line_told r ≡ stored_line (read_stored frame)
  pub key : result_unwrap_or r no_key ≡ key_of (read_stored frame)
