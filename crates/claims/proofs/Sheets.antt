-- What is written is read as it was, and what is read is written as it was: both by `exact`, since each operation looks at its sheet through `sheet_of` alone.
use mathlib.Core.Path.{◌≡◌, refl, sym, ap, ◌∙◌}
use mathlib.Core.List.{List, [], ◌∷◌}
use Prim.Native.Nat.{ℕ, ◌≤◌}
use native.Mathlib.Omega.{arith}
use borrow.Author.Tests.{le-ltb}
use lib.Dec.{ltb}
use lib.ListN.{length, take, drop}
use lib.Seq.{take_at}
use Rattle.std.specs.Result.{result_unwrap_or}
use Rattle.refusal.specs.Code.{first_cause}
use Rattle.refusal.proofs.Causes.{none_then, none-of-append}
use Rattle.profile.specs.Checks.{profile_causes}
use Rattle.profile.specs.declared.Profile.{Profile}
use Rattle.profile.proofs.Limits.{profile-numbered, profile-limits}
use Rattle.signature.specs.Signature.{signature_length}
use Rattle.frames.specs.Lines.{sheet_of}
use Rattle.sheet_reader.specs.Sheet.{Reading, wrong_line, read, read_sheet, Carried}
use Rattle.sheet_reader.specs.Operations.{line_in, signature_in, text_in, is_wrong, sheet_causes, sheet_code, ReadsSheet}
use Rattle.sheet_reader.proofs.Exactness.{exact}
use Rattle.sheet_writer.specs.Operations.{carried_causes, write_sheet_code, WritesSheet}
use Rattle.sheet_writer.proofs.WriteAnswer.{carried-numbered, carried_fit, fit_carried, room-granted}
use Rattle.claims.specs.Sheets.{SheetWriting, SheetReading, Yields, WrittenSheetIsRead, Gives, ReadSheetIsWritten}

-- a right sheet is read into slices that are long enough
right-read : (p : Profile) (signature text : List ℕ) (r : SheetReading p) → r.sheet ≡ sheet_of p signature text
    → first_cause (profile_causes p) ≡ 0 → Carried p signature text
    → length signature ≤ length r.signature_slice → length text ≤ length r.text_slice → Yields signature text r
unfolding sheet_code line_in signature_in text_in is_wrong
right-read p signature text r whole passed carried enough room =
    let sheet = sheet_of p signature text in
    let is_read : read_sheet p sheet ≡ read signature text = (exact p (profile-limits p passed) sheet signature text).1 (carried, refl) in
    let reads : ReadsSheet p sheet r.signature_slice r.text_slice r.signature_slice' r.text_slice' r.found = rw whole at r.reads in
    let code : sheet_code p sheet r.signature_slice r.text_slice ≡ 0 =
    none_then (profile_causes p) (sheet_causes p sheet r.signature_slice r.text_slice) passed (profile-numbered p)
    ∙ rw (is_read, le-ltb (length r.signature_slice) (signature_length p) (omega (arith, carried.whole)), le-ltb (length r.text_slice) (length text) room)
    in
    record {
      granted = reads.code ∙ code;
      no_line = reads.line ∙ rw code;
      text_length = reads.text_length ∙ rw (code, is_read);
      signature_read = reads.signature_written ∙ rw (code, is_read, ← carried.whole);
      text_read = reads.text_written ∙ rw (code, is_read);
    }

pub written-is-read : WrittenSheetIsRead
unfolding write_sheet_code
written-is-read p w signature_bytes text_bytes granted r same enough room =
    let signature = w.signature in
    let text = w.text in
    let whole = sheet_of p signature text in
    let none : write_sheet_code p signature text w.slice ≡ 0 = sym w.writes.code ∙ granted in
    let fit =
    carried_fit p signature text
    (none-of-append (carried_causes p signature text) ((ltb (length w.slice) (length whole), 6) ∷ []) (carried-numbered p signature text) none).0 in
    let long : result_unwrap_or w.made 0 ≡ length whole = w.writes.bytes ∙ rw none in
    let front : take (result_unwrap_or w.made 0) w.slice' ≡ whole =
    rw (w.writes.written, none, long) (take_at whole (drop (length whole) w.slice) (length whole) refl) in
    right-read p signature text r (same ∙ front) fit.passed
    (record {
      signature_bytes = signature_bytes;
      text_bytes = text_bytes;
      whole = fit.whole;
      some_text = fit.some_text;
      short_text = fit.short_text;
    })
    enough room

-- a signature and a text that a sheet can carry are written into a slice that is long enough
right-written : (p : Profile) (signature text : List ℕ) (w : SheetWriting p) → w.signature ≡ signature → w.text ≡ text
    → first_cause (profile_causes p) ≡ 0 → Carried p signature text → length (sheet_of p signature text) ≤ length w.slice
    → Gives (sheet_of p signature text) w
right-written p signature text w own-signature own-text passed carried room =
    let none =
    fit_carried p signature text (record { passed = passed; some_text = carried.some_text; short_text = carried.short_text; whole = carried.whole }) in
    let code = room-granted p signature text w.slice none room in
    let writes : WritesSheet p signature text w.slice w.slice' w.made = rw (own-signature, own-text) at w.writes in
    record { granted = writes.code ∙ code; bytes = writes.bytes ∙ rw code; written = writes.written ∙ rw code }

pub read-is-written : ReadSheetIsWritten
unfolding sheet_code is_wrong signature_in text_in
read-is-written p r granted w own-signature own-text room = by (read_sheet p r.sheet) refl
  where
    reads : ReadsSheet p r.sheet r.signature_slice r.text_slice r.signature_slice' r.text_slice' r.found
    reads = r.reads

    none : sheet_code p r.sheet r.signature_slice r.text_slice ≡ 0
    none = sym reads.code ∙ granted

    both : (first_cause (profile_causes p) ≡ 0) × (first_cause (sheet_causes p r.sheet r.signature_slice r.text_slice) ≡ 0)
    both = none-of-append (profile_causes p) (sheet_causes p r.sheet r.signature_slice r.text_slice) (profile-numbered p) none

    by : (found : Reading) → read_sheet p r.sheet ≡ found → Gives r.sheet w
    by (wrong_line n) q = let seventeen : ◌≡◌ {A = ℕ} 17 0 = rw q at both.1 in absurd (omega arith)
    by (read signature text) q =
        let right = (exact p (profile-limits p both.0) r.sheet signature text).0 q in
        let carried = right.0 in
        let front : take (signature_length p) r.signature_slice' ≡ signature =
        rw (reads.signature_written, none, q) (take_at signature (drop (signature_length p) r.signature_slice) (signature_length p) carried.whole) in
        let long : result_unwrap_or r.found 0 ≡ length text = reads.text_length ∙ rw (none, q) in
        let words : take (result_unwrap_or r.found 0) r.text_slice' ≡ text =
        rw (reads.text_written, none, q, long) (take_at text (drop (length text) r.text_slice) (length text) refl) in
        rw right.1
        (right-written p signature text w (own-signature ∙ front) (own-text ∙ words) both.0 carried (omega (arith, room, ap length right.1)))
