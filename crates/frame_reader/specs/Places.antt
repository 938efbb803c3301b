-- Document 01, Sheet: "The reader takes the sheet frame after frame, each call picking up behind the last": the places that it passes.
use Rattle.std.specs.Prelude.{Result, Ok, Err, List, ℕ, zero, suc, ◌+◌, ◌*◌, length, drop}
use Rattle.profile.specs.declared.Profile.{Profile}
use Rattle.hex_lines.specs.Hex.{Line, wrong, right}
use Rattle.frames.specs.Frames.{Frame, frame_at}
use Rattle.frames.specs.Lines.{read_frame}
use Rattle.frame_reader.specs.declared.Place.{Place}

-- where reading begins
abbrev pub start : Place
start = record { at = 0; line = 1 }

-- the place behind a line; a wrong line stays
unfoldable pub behind_line : Place → (fixed : ℕ) → Line → Result Place Place
behind_line here fixed wrong = Err here
behind_line here fixed (right bytes rest) = Ok (record { at = here.at + 2 * (fixed + length bytes) + 1; line = here.line + 1 })

-- the place once a frame is taken; behind a wrong line none is
unfoldable pub place_after : (sheet : List ℕ) → Frame → Result Place Place → Result Place Place
place_after sheet f (Ok here) = behind_line here (length f.head) (read_frame f (drop here.at sheet))
place_after sheet f (Err there) = Err there

-- the place before frame k, "each call picking up behind the last", or that of the first line that is wrong
unfoldable pub place_at : (sheet : List ℕ) → Profile → (k : ℕ) → Result Place Place
place_at sheet p zero = Ok start
place_at sheet p (suc k) = place_after sheet (frame_at p k) (place_at sheet p k)
