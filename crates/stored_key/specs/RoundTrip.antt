-- Document 02, point 5: what Write key and Read key are to each other. Of what the operations answer and leave, for every profile, in
-- either edition.
use Rattle.std.specs.Prelude.{◌≡◌, false, List, ◌++◌, ℕ, ◌^◌, ◌≤◌, ◌<◌, length, get_or, take, drop, Result}
use Rattle.std.specs.Result.{result_unwrap_or}
use Rattle.refusal.specs.Code.{outcome_code, line_told}
use Rattle.refusal.specs.declared.Refusal.{Refusal}
use Rattle.hex_lines.specs.Hex.{right}
use Rattle.frames.specs.Lines.{read_frame}
use Rattle.signing_key.specs.Counter.{mark_counts}
use Rattle.signing_key.specs.declared.SigningKey.{SigningKey}
use Rattle.stored_key.specs.KeyFields.{mark_field, byte_in}
use Rattle.stored_key.specs.KeyFrame.{key_frame, key_in, without_idle_mark}
use Rattle.stored_key.specs.Operations.{WritesKey, no_key, ReadsKey}

-- a key as memory holds it: two seeds of 16 bytes, and a next leaf of 32 bits
pub record Held (key : SigningKey) : Type 0 where
  pub seed_long : length key.seed ≡ 16
  pub seed_bytes : (i : ℕ) → get_or key.seed i 0 < 256
  pub secret_long : length key.secret ≡ 16
  pub secret_bytes : (i : ℕ) → get_or key.secret i 0 < 256
  pub next_fits : key.counter.next < 2 ^ 32

-- reading what was written gives the key, an idle mark as none
abbrev pub WrittenKeyIsRead : Type 0
WrittenKeyIsRead =
    (key : SigningKey) (frame frame' : List ℕ) (made : Result ℕ Refusal) → Held key → WritesKey key frame frame' made
    → outcome_code made ≡ 0
    → (found : Result SigningKey Refusal) → ReadsKey (take (result_unwrap_or made 0) frame') found
    → (outcome_code found ≡ 0) × (line_told found ≡ 0) × (result_unwrap_or found no_key ≡ without_idle_mark key)

-- the mark of a frame is idle: 01 stands there, and it does not count
unfoldable pub IdleIn : (frame : List ℕ) → Type 0
IdleIn frame =
    (bytes rest : List ℕ) × (read_frame key_frame frame ≡ right bytes rest) × (byte_in mark_field bytes ≡ 1)
    × (mark_counts (2 ^ (key_in bytes).profile.height) (key_in bytes).counter ≡ false)

-- writing what was read gives the same bytes unless the mark was idle: into a slice that is long enough
abbrev pub ReadKeyIsWritten : Type 0
ReadKeyIsWritten =
    (frame : List ℕ) (found : Result SigningKey Refusal) → ReadsKey frame found → outcome_code found ≡ 0 → (IdleIn frame → ⊥)
    → (slice slice' : List ℕ) (made : Result ℕ Refusal) → length frame ≤ length slice
    → WritesKey (result_unwrap_or found no_key) slice slice' made
    → (outcome_code made ≡ 0) × (result_unwrap_or made 0 ≡ length frame) × (slice' ≡ frame ++ drop (length frame) slice)
