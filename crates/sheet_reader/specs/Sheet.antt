-- Document 01, Read sheet: what any bytes are read as, and that these are the right sheets.
use Rattle.std.specs.Prelude.{◌≡◌, ◌↔◌, List, [], ◌∷◌, ◌++◌, ℕ, suc, ◌≤◌, ◌<◌, length, get_or}
use Rattle.refusal.specs.Code.{first_cause}
use Rattle.hex_lines.specs.Hex.{Line, wrong, right, line_of}
use Rattle.signature.specs.Signature.{signature_length}
use Rattle.profile.specs.Checks.{profile_causes}
use Rattle.profile.specs.declared.Profile.{Profile}
use Rattle.frames.specs.Frames.{SizesInLimits, Frame, first_frame, profile_frame, frames, text_frame}
use Rattle.frames.specs.Lines.{sheet_of, read_frame}

-- what a sheet is read as
pub data Reading : Type 0 where
  -- "the number, from 1, of the first line that is wrong or missing, or stands after the last frame"
  wrong_line : (line : ℕ) → Reading
  -- the signature and the text that its frames carry
  read : (signature text : List ℕ) → Reading

-- bytes in front of a signature
unfoldable pub in_front : List ℕ → Reading → Reading
in_front bytes (wrong_line n) = wrong_line n
in_front bytes (read signature text) = read (bytes ++ signature) text

-- a frame's bytes, and what stands behind its line
unfoldable pub followed : (line : ℕ) → Line → (List ℕ → Reading) → Reading
followed line wrong more = wrong_line line
followed line (right bytes rest) more = in_front bytes (more rest)

-- the text, and "nothing after"
unfoldable pub ended : (line : ℕ) → Line → Reading
ended line wrong = wrong_line line
ended line (right text []) = read [] text
ended line (right text (c ∷ rest)) = wrong_line (suc line)

-- the lines from the number `line` on: frames, and then the text
unfoldable pub read_frames : List Frame → (line : ℕ) → List ℕ → Reading
read_frames [] line sheet = ended line (read_frame text_frame sheet)
read_frames (f ∷ fs) line sheet = followed line (read_frame f sheet) (read_frames fs (suc line))

-- a whole sheet, its lines numbered from 1
unfoldable pub read_sheet : Profile → List ℕ → Reading
read_sheet p sheet = read_frames (frames p) 1 sheet

-- what a sheet can carry: a signature of the right length, and a text of 1 to 200 bytes
pub record Carried (p : Profile) (signature text : List ℕ) : Type 0 where
  pub signature_bytes : (i : ℕ) → get_or signature i 0 < 256
  pub text_bytes : (i : ℕ) → get_or text i 0 < 256
  pub whole : length signature ≡ signature_length p
  pub some_text : 1 ≤ length text
  pub short_text : length text ≤ 200

-- for every profile within these limits, in any edition: what is read is a right sheet, and each right sheet is read as what it carries
abbrev pub Exact : Type 0
Exact =
    (p : Profile) → SizesInLimits p → (sheet signature text : List ℕ)
    → (read_sheet p sheet ≡ read signature text) ↔ (Carried p signature text × (sheet ≡ sheet_of p signature text))

-- "17 with the number, from 1, of the first line that is wrong", where that is the profile's, behind the right first line;
-- document 02, point 6: its last byte, 02 or none, tells the edition
pub record ProfileLine : Type 0 where
  -- any line but the frame of the expected profile, whatever its last byte
  pub wrong_frame_lem : (p : Profile) (rest : List ℕ) → ((tail : List ℕ) → rest ≡ line_of (profile_frame p).head ++ tail → ⊥)
      → read_sheet p (line_of first_frame.head ++ rest) ≡ wrong_line 2
  -- so every sheet of another profile that passes its checks, and be it another in its edition alone
  pub other_profile : (p q : Profile) → first_cause (profile_causes p) ≡ 0 → first_cause (profile_causes q) ≡ 0 → (p ≡ q → ⊥)
      → (signature text : List ℕ) → read_sheet p (sheet_of q signature text) ≡ wrong_line 2
