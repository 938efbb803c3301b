-- Document 02, point 5: "The stored key is one frame as in the sheet, kind 07". It stands alone, without the sheet's first line.
use Rattle.std.specs.Prelude.{Bool, ◌&&◌, cond, List, [], ◌∷◌, ◌++◌, ℕ, ◌+◌, ◌^◌, ltb, eqb, length, get_or}
use Rattle.refusal.specs.Code.{first_cause}
use Rattle.octets.specs.Bytes.{from_bytes, to_bytes}
use Rattle.hex_lines.specs.Hex.{Line, wrong, right}
use Rattle.profile.specs.Checks.{profile_causes}
use Rattle.frames.specs.Frames.{Frame, framed, edition_byte}
use Rattle.frames.specs.Lines.{frame_line, read_frame}
use Rattle.signing_key.specs.Counter.{mark_counts}
use Rattle.signing_key.specs.Key.{recounted}
use Rattle.signing_key.specs.declared.SigningKey.{SigningKey}
use Rattle.stored_key.specs.KeyFields.{chains_field, width_field, height_field, sum_field, seed_field, secret_field, next_field, mark_field}
use Rattle.stored_key.specs.KeyFields.{key_length, field_in, byte_in}

-- "kind 07": behind it stand the fields, and one byte more in edition 2
abbrev pub key_frame : Frame
key_frame = framed (7 ∷ []) key_length (key_length + 1)

-- "l, w, h, s (2), public seed, secret seed, next leaf (4), mark (00 or 01)"; "frames 01 and 07 gain a last byte, 02, only for edition 2"
unfoldable pub key_bytes : SigningKey → List ℕ
key_bytes key =
    key.profile.shape.chains ∷ key.profile.shape.width ∷ key.profile.height
    ∷ (to_bytes 2 key.profile.shape.sum ++ key.seed ++ key.secret ++ to_bytes 4 key.counter.next
    ++ (cond key.counter.mark 1 0 ∷ edition_byte key.profile.edition))

-- a mark that does not count is "read, written and met as none"
unfoldable pub without_idle_mark : SigningKey → SigningKey
without_idle_mark key = recounted key (record { next = key.counter.next; mark = mark_counts (2 ^ key.profile.height) key.counter })

-- the frame of a key, as a line
unfoldable pub stored_key : SigningKey → List ℕ
stored_key key = frame_line key_frame (key_bytes (without_idle_mark key))

-- the key that the bytes behind the kind are, each field at its place
unfoldable pub key_in : (bytes : List ℕ) → SigningKey
key_in bytes =
    record {
      profile = record {
        shape = record {
          chains = byte_in chains_field bytes;
          width = byte_in width_field bytes;
          sum = from_bytes (field_in sum_field bytes);
        };
        height = byte_in height_field bytes;
        edition = cond (eqb (length bytes) (key_length + 1)) 2 1;
      };
      seed = field_in seed_field bytes;
      secret = field_in secret_field bytes;
      counter = record { next = from_bytes (field_in next_field bytes); mark = eqb (byte_in mark_field bytes) 1 };
    }

-- "mark (00 or 01)", the last byte 02 where there is one, a profile within its limits, and nothing behind the line: "a wrong one, one with
-- anything after it, or one with a profile outside the limits"
unfoldable pub is_right : (bytes rest : List ℕ) → Bool
is_right bytes rest =
    ltb (byte_in mark_field bytes) 2 && (eqb (get_or bytes key_length 2) 2 &&
    (eqb (first_cause (profile_causes (key_in bytes).profile)) 0 && eqb (length rest) 0))

-- what a frame is read as
pub data Stored : Type 0 where
  wrong_frame : Stored
  stored : SigningKey → Stored

-- the key in the bytes of a line, a mark that does not count as none
unfoldable pub key_on_line : Line → Stored
key_on_line wrong = wrong_frame
key_on_line (right bytes rest) = cond (is_right bytes rest) (stored (without_idle_mark (key_in bytes))) wrong_frame

-- what Read key finds: the first line of the slice is the frame, and nothing may stand behind it
unfoldable pub read_stored : (frame : List ℕ) → Stored
read_stored frame = key_on_line (read_frame key_frame frame)
