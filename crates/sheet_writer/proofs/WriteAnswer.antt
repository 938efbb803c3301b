-- What Write sheet answers and leaves: refused before the sheet's slice is looked at, refused by its length, and granted.
use mathlib.Core.Path.{◌≡◌, refl, sym, ap, ◌∙◌}
use mathlib.Core.Bool.{Bool, not}
use mathlib.Core.List.{List, [], ◌∷◌, ◌++◌}
use Prim.Native.Nat.{ℕ, ◌+◌, ◌*◌, ◌≤◌, ◌<◌}
use native.Mathlib.Omega.{arith}
use borrow.Author.Tests.{lt-ltb, le-ltb, eq-eqb, eqb-true, not-false}
use lib.Dec.{ltb, eqb}
use lib.ListN.{length, take, drop, length-append}
use Rattle.std.specs.Prelude.{Result, Ok, Err}
use Rattle.refusal.specs.Code.{code, outcome_code, first_cause}
use Rattle.refusal.specs.declared.Refusal.{Refusal}
use Rattle.refusal.specs.declared.Refusal.TheVariants.{OutputTooShort}
use Rattle.refusal.proofs.Causes.{Numbered, without-append, none_here, none_then, none-of-append, refused_first, refused-number}
use Rattle.lists.proofs.Joins.{written_behind}
use Rattle.profile.specs.Checks.{profile_causes}
use Rattle.profile.specs.declared.Profile.{Profile}
use Rattle.profile.proofs.Limits.{profile-numbered, inside, not_outside}
use Rattle.signature.specs.Signature.{outside_text, signature_length}
use Rattle.frames.specs.Frames.{frames, text_frame}
use Rattle.frames.specs.Lines.{frame_line, lines_of, sheet_of}
use Rattle.frames.specs.inner.Size.{behind_all}
use Rattle.frames.proofs.FrameLaws.{line-long}
use Rattle.frames.proofs.FrameList.{frames-total, length-lines}
use Rattle.sheet_writer.specs.Operations.{carried_causes, write_sheet_code, WritesSheet}

module _ (p : Profile) (signature message : List ℕ) where
  -- the causes behind those of the profile
  abbrev pub own : List (Bool × ℕ)
  own = (outside_text (length message), 16) ∷ (not (eqb (length signature) (signature_length p)), 13) ∷ []

  pub carried-numbered : Numbered (carried_causes p signature message)
  carried-numbered = without-append 0 (profile_causes p) own (profile-numbered p) (refl, (refl, tt))

  -- a profile, a text and a signature that none of these causes refuses
  pub record Fit : Type 0 where
    pub passed : first_cause (profile_causes p) ≡ 0
    pub some_text : 1 ≤ length message
    pub short_text : length message ≤ 200
    pub whole : length signature ≡ signature_length p

  pub carried_fit : first_cause (carried_causes p signature message) ≡ 0 → Fit
  unfolding outside_text
  carried_fit none =
      let same : Bool = eqb (length signature) (signature_length p) in
      let both = none-of-append (profile_causes p) own (profile-numbered p) none in
      let text = none_here (outside_text (length message)) 16 ((not same, 13) ∷ []) refl both.1 in
      let bytes = none_here (not same) 13 [] refl text.1 in
      let limits = not_outside 1 200 (length message) text.0 in
      record {
        passed = both.0;
        some_text = limits.0;
        short_text = limits.1;
        whole = eqb-true (length signature) (signature_length p) (not-false same bytes.0);
      }

  pub fit_carried : Fit → first_cause (carried_causes p signature message) ≡ 0
  unfolding outside_text
  fit_carried fit =
      none_then (profile_causes p) own fit.passed (profile-numbered p)
      ∙ rw (inside 1 200 (length message) fit.some_text fit.short_text, eq-eqb (length signature) (signature_length p) fit.whole)

  module _ (whole : length signature ≡ signature_length p) where
    length-frames-lines : length (lines_of (frames p) signature) ≡ behind_all 0 (frames p)
    length-frames-lines = omega (arith, length-lines (frames p) signature 0 (omega (arith, frames-total p, whole)))

    pub length-sheet : length (sheet_of p signature message) ≡ behind_all 0 (frames p) + 2 * length message + 3
    unfolding sheet_of
    length-sheet = length-append (lines_of (frames p) signature) (frame_line text_frame message)
        ∙ omega (arith, length-frames-lines, line-long text_frame.head message)

    -- the text's line behind those of the frames
    pub text_written : (sheet : List ℕ) {out out' : List ℕ} {at end : ℕ} → at ≡ behind_all 0 (frames p) → end ≡ at + length (frame_line text_frame message)
        → out ≡ lines_of (frames p) signature ++ drop at sheet
        → out' ≡ take at out ++ frame_line text_frame message ++ drop end out → (end ≡ length (sheet_of p signature message))
        × (out' ≡ sheet_of p signature message ++ drop end sheet)
    unfolding sheet_of
    text_written sheet {out} {out'} {at} {end} place q e w =
        let k : ℕ = length (frame_line text_frame message) in (
          omega (arith, length-sheet, line-long text_frame.head message),
          written_behind (lines_of (frames p) signature) (frame_line text_frame message) sheet at k (length-frames-lines ∙ sym place) e (w ∙ rw q) ∙ rw (← q),
        )

  module _ (sheet : List ℕ) where
    abbrev late : List (Bool × ℕ)
    late = (ltb (length sheet) (length (sheet_of p signature message)), 6) ∷ []

    -- refused, nothing is written
    sheet-refused : {e : Refusal} {r : Result ℕ Refusal} → r ≡ Err e → code e ≡ write_sheet_code p signature message sheet
        → WritesSheet p signature message sheet sheet r
    sheet-refused q number =
        let told = ap outcome_code q ∙ number in
        let some = refused-number q told in
        record { code = told; bytes = rw (q, some); written = rw some }

    -- by the profile, the text or the signature
    pub carried-refused : {e : Refusal} {checked : Result (Unit {0}) Refusal} {r : Result ℕ Refusal} → checked ≡ Err e
        → outcome_code checked ≡ first_cause (carried_causes p signature message) → r ≡ Err e → WritesSheet p signature message sheet sheet r
    unfolding write_sheet_code
    carried-refused q o told = sheet-refused told (refused_first (carried_causes p signature message) late q o)

    module _ (none : first_cause (carried_causes p signature message) ≡ 0) where
      code_then : write_sheet_code p signature message sheet ≡ first_cause late
      unfolding write_sheet_code
      code_then = none_then (carried_causes p signature message) late none carried-numbered

      pub no_room : {r : Result ℕ Refusal} → length sheet < length (sheet_of p signature message) → r ≡ Err OutputTooShort
          → WritesSheet p signature message sheet sheet r
      no_room short q = sheet-refused q (sym (code_then ∙ rw (lt-ltb (length sheet) (length (sheet_of p signature message)) short)))

      pub room-granted : length (sheet_of p signature message) ≤ length sheet → write_sheet_code p signature message sheet ≡ 0
      room-granted room = code_then ∙ rw (le-ltb (length sheet) (length (sheet_of p signature message)) room)

      pub sheet-written : {sheet' : List ℕ} {end : ℕ} → length (sheet_of p signature message) ≤ length sheet → end ≡ length (sheet_of p signature message)
          → sheet' ≡ sheet_of p signature message ++ drop end sheet → WritesSheet p signature message sheet sheet' (Ok end)
      sheet-written room e w =
          let zero = room-granted room in
          record { code = sym zero; bytes = rw zero e; written = rw zero (w ∙ rw e) }
