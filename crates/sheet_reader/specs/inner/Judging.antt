-- What a sheet is judged as, from a place of the reader on.
use Rattle.std.specs.Prelude.{Result, Ok, Err, List, ℕ, length, drop}
use Rattle.refusal.specs.declared.Refusal.{Refusal}
use Rattle.refusal.specs.declared.Refusal.TheVariants.{SheetLine}
use Rattle.frames.specs.Frames.{Frame}
use Rattle.frame_reader.specs.declared.Place.{Place}
use Rattle.sheet_reader.specs.Sheet.{Reading, wrong_line, read, read_frames}

-- what a sheet is read as from a place on, where these frames and the text are still to come
unfoldable pub read_at : (sheet : List ℕ) → Result Place Place → List Frame → Reading
read_at sheet (Ok here) fs = read_frames fs here.line (drop here.at sheet)
read_at sheet (Err there) fs = wrong_line there.line

-- the length of the text, or the cause that tells the wrong line
unfoldable pub judgement : Reading → Result ℕ Refusal
judgement (wrong_line n) = Err (SheetLine n)
judgement (read signature text) = Ok (length text)
