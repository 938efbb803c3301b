-- Bytes that stand as hex in a sheet, and those behind the fixed ones of frames, line after line.
use Rattle.std.specs.Prelude.{List, [], ◌∷◌, ◌++◌, ℕ, zero, suc, ◌+◌, ◌*◌, length}
use Rattle.std.specs.Option.{unwrap_or}
use Rattle.hex_lines.specs.inner.Digits.{byte_at}
use Rattle.frames.specs.Frames.{Frame}
use Rattle.frames.specs.inner.Size.{behind_frame}

-- n bytes from an index on; 0 where two characters are no byte
unfoldable pub bytes_in : (sheet : List ℕ) (at n : ℕ) → List ℕ
bytes_in sheet at zero = []
bytes_in sheet at (suc n) = unwrap_or (byte_at sheet at) 0 ∷ bytes_in sheet (at + 2) n

-- the bytes behind the fixed ones, frame after frame
unfoldable pub payloads : (sheet : List ℕ) (at : ℕ) → List Frame → List ℕ
payloads sheet at [] = []
payloads sheet at (f ∷ fs) = bytes_in sheet (at + 2 * length f.head) f.high ++ payloads sheet (behind_frame at f) fs
