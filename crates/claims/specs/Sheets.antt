-- Document 02, point 1: "Reading a written sheet yields the same signature and text, writing what was read the same bytes". Of what the
-- operations answer and leave, for every profile, in either edition.
use Rattle.std.specs.Prelude.{◌≡◌, List, ◌++◌, ℕ, ◌≤◌, ◌<◌, length, get_or, take, drop, Result}
use Rattle.std.specs.Result.{result_unwrap_or}
use Rattle.refusal.specs.Code.{outcome_code, line_told}
use Rattle.refusal.specs.declared.Refusal.{Refusal}
use Rattle.profile.specs.declared.Profile.{Profile}
use Rattle.signature.specs.Signature.{signature_length}
use Rattle.sheet_reader.specs.Operations.{ReadsSheet}
use Rattle.sheet_writer.specs.Operations.{WritesSheet}

-- a list of bytes, as every slice of them is
abbrev pub AllBytes : List ℕ → Type 0
AllBytes l = (i : ℕ) → get_or l i 0 < 256

-- a call of Write sheet: the signature and the text, its slice before and after, and what it answers
pub record SheetWriting (p : Profile) : Type 0 where
  pub signature : List ℕ
  pub text : List ℕ
  pub slice : List ℕ
  pub slice' : List ℕ
  pub made : Result ℕ Refusal
  pub writes : WritesSheet p signature text slice slice' made

-- a call of Read sheet: the sheet, its slices before and after, and what it answers
pub record SheetReading (p : Profile) : Type 0 where
  pub sheet : List ℕ
  pub signature_slice : List ℕ
  pub text_slice : List ℕ
  pub signature_slice' : List ℕ
  pub text_slice' : List ℕ
  pub found : Result ℕ Refusal
  pub reads : ReadsSheet p sheet signature_slice text_slice signature_slice' text_slice' found

-- a reading that is granted, with this signature and text at the front of its slices
pub record Yields {p : Profile} (signature text : List ℕ) (r : SheetReading p) : Type 0 where
  pub granted : outcome_code r.found ≡ 0
  pub no_line : line_told r.found ≡ 0
  pub text_length : result_unwrap_or r.found 0 ≡ length text
  pub signature_read : r.signature_slice' ≡ signature ++ drop (length signature) r.signature_slice
  pub text_read : r.text_slice' ≡ text ++ drop (length text) r.text_slice

-- "Reading a written sheet yields the same signature and text": the bytes that Write sheet wrote, read into slices that are long enough
abbrev pub WrittenSheetIsRead : Type 0
WrittenSheetIsRead =
    (p : Profile) (w : SheetWriting p) → AllBytes w.signature → AllBytes w.text → outcome_code w.made ≡ 0
    → (r : SheetReading p) → r.sheet ≡ take (result_unwrap_or w.made 0) w.slice'
    → length w.signature ≤ length r.signature_slice → length w.text ≤ length r.text_slice
    → Yields w.signature w.text r

-- a writing that is granted, with this sheet at the front of its slice
pub record Gives {p : Profile} (sheet : List ℕ) (w : SheetWriting p) : Type 0 where
  pub granted : outcome_code w.made ≡ 0
  pub bytes : result_unwrap_or w.made 0 ≡ length sheet
  pub written : w.slice' ≡ sheet ++ drop (length sheet) w.slice

-- "writing what was read the same bytes": the signature and the text that Read sheet wrote, written into a slice that is long enough
abbrev pub ReadSheetIsWritten : Type 0
ReadSheetIsWritten =
    (p : Profile) (r : SheetReading p) → outcome_code r.found ≡ 0
    → (w : SheetWriting p) → w.signature ≡ take (signature_length p) r.signature_slice'
    → w.text ≡ take (result_unwrap_or r.found 0) r.text_slice' → length r.sheet ≤ length w.slice
    → Gives r.sheet w
