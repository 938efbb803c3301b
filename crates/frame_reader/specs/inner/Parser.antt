-- What the frame parser answers, and where a frame may be taken.
use Rattle.std.specs.Prelude.{◌≡◌, Bool, cond, Option, Some, None, List, [], ℕ, ◌+◌, ◌*◌, ◌≤◌, leb, length, drop}
use Rattle.hex_lines.specs.Hex.{Line, wrong, right}
use Rattle.frames.specs.Frames.{framed}
use Rattle.frames.specs.Lines.{read_frame}
use Rattle.frame_reader.specs.Places.{start}
use Rattle.frame_reader.specs.declared.Place.{Place}

-- how many bytes a line has, where they are at most so many
unfoldable pub found_of : (most : ℕ) → Line → Option ℕ
found_of most wrong = None
found_of most (right bytes rest) = cond (leb (length bytes) most) (Some (length bytes)) None

-- whether the fixed bytes of a frame are found to stand from an index on: what its line is then read as behind them
abbrev pub HeadStands : (sheet : List ℕ) (at : ℕ) (head : List ℕ) (fixed : ℕ) (found : Bool) → Type 0
HeadStands sheet at head fixed found = (low high : ℕ)
    → read_frame (framed head low high) (drop at sheet) ≡ cond found (read_frame (framed [] low high) (drop (at + 2 * fixed) sheet)) wrong

-- the index behind a frame's line that begins at `at`
unfoldable pub step_of : (at fixed : ℕ) → Line → Option ℕ
step_of at fixed wrong = None
step_of at fixed (right bytes rest) = Some (at + 2 * (fixed + length bytes) + 1)

-- a place in a sheet: a line has at least its ending
abbrev pub Stands : (sheet : List ℕ) → Place → Type 0
Stands sheet here = (here.at ≤ length sheet) × (here.line ≤ here.at + 1)

-- a place where frame k may be taken: the first where reading begins
abbrev pub Due : (sheet : List ℕ) (k : ℕ) → Place → Type 0
Due sheet k here = Stands sheet here × (k ≡ 0 → here ≡ start)
