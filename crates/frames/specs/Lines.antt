-- Document 01, Sheet: a frame as a line, the right sheet of a signature and a text, and what one line is read as.
use Rattle.std.specs.Prelude.{cond, List, [], ◌∷◌, ◌++◌, ℕ, eqb, length, take, drop}
use Rattle.hex_lines.specs.Hex.{Line, wrong, right, line_of, read_line}
use Rattle.profile.specs.Checks.{outside}
use Rattle.profile.specs.declared.Profile.{Profile}
use Rattle.frames.specs.Frames.{Frame, frames, text_frame}

-- "one frame a line": the fixed bytes, and those behind them
abbrev pub frame_line : Frame → (bytes : List ℕ) → List ℕ
frame_line f bytes = line_of (f.head ++ bytes)

-- the lines of frames, with the bytes behind the fixed ones taken from the front of `bytes`
unfoldable pub lines_of : List Frame → (bytes : List ℕ) → List ℕ
lines_of [] bytes = []
lines_of (f ∷ fs) bytes = frame_line f (take f.high bytes) ++ lines_of fs (drop f.high bytes)

-- the right sheet: the signature's bytes, in their order, through the frames, and then the text
unfoldable pub sheet_of : Profile → (signature text : List ℕ) → List ℕ
sheet_of p signature text = lines_of (frames p) signature ++ frame_line text_frame text

-- the bytes behind a head: "bad … kind, order, profile, chain or height" where the line begins otherwise
unfoldable pub without : (head : List ℕ) → Line → Line
without [] line = line
without (first ∷ head) wrong = wrong
without (first ∷ head) (right [] rest) = wrong
without (first ∷ head) (right (b ∷ bytes) rest) = cond (eqb b first) (without head (right bytes rest)) wrong

-- "bad … length": fewer than `low` or more than `high` bytes
unfoldable pub within : (low high : ℕ) → Line → Line
within low high wrong = wrong
within low high (right bytes rest) = cond (outside low high (length bytes)) wrong (right bytes rest)

-- the first line, as what stands in a frame behind its fixed bytes
unfoldable pub read_frame : Frame → List ℕ → Line
read_frame f sheet = within f.low f.high (without f.head (read_line sheet))
