-- What Read sheet answers and leaves: refused by the profile, by a wrong line or by either slice, and granted.
use mathlib.Core.Path.{◌≡◌, refl, sym, ap, ◌∙◌}
use mathlib.Core.Bool.{Bool, false}
use mathlib.Core.List.{List, [], ◌∷◌, ◌++◌}
use Prim.Native.Nat.{ℕ, ◌+◌, ◌*◌, ◌≤◌, ◌<◌}
use borrow.Author.Tests.{lt-ltb, le-ltb, eqb-false}
use lib.Dec.{ltb, eqb, lit<, lit≤}
use lib.ListN.{length, drop}
use Rattle.std.specs.Prelude.{Result, Ok, Err}
use Rattle.refusal.specs.Code.{code, outcome_code, wrong_line_of, first_cause}
use Rattle.refusal.specs.declared.Refusal.{Refusal}
use Rattle.refusal.specs.declared.Refusal.TheVariants.{OutputTooShort, SheetLine}
use Rattle.refusal.proofs.Causes.{none_then, refused_first, refused-number, refused_avoids}
use Rattle.profile.specs.Checks.{profile_causes}
use Rattle.profile.specs.declared.Profile.{Profile}
use Rattle.profile.proofs.Limits.{profile-numbered, profile-without}
use Rattle.signature.specs.Signature.{signature_length}
use Rattle.frames.specs.Frames.{frames, text_frame}
use Rattle.frames.specs.inner.Size.{behind_all}
use Rattle.frames.proofs.FrameList.{frames-sized}
use Rattle.sheet_reader.specs.Sheet.{Reading, wrong_line, read, read_sheet}
use Rattle.sheet_reader.specs.Operations.{line_in, signature_in, text_in, is_wrong, sheet_causes, sheet_code, ReadsSheet}
use Rattle.sheet_reader.specs.inner.Judging.{judgement}
use Rattle.sheet_reader.specs.inner.Payload.{bytes_in, payloads}
use Rattle.sheet_reader.proofs.Exactness.{Apart, read-lines}
use Rattle.sheet_reader.proofs.PayloadLaws.{signature-here, text-here}

-- a cause of another code tells no line
no-line : (cause : Refusal) → eqb (code cause) 17 ≡ false → wrong_line_of cause ≡ 0
no-line (SheetLine line) e = absurd (eqb-false 17 17 e refl)
no-line _ e = refl

-- a sheet that is read, with so long a text
pub record Whole (p : Profile) (sheet : List ℕ) (n : ℕ) : Type 0 where
  pub signature : List ℕ
  pub text : List ℕ
  is_read : read_sheet p sheet ≡ read signature text
  pub long : n ≡ length text

-- such a sheet, taken apart
pub whole_apart : (p : Profile) (sheet : List ℕ) (n : ℕ) (w : Whole p sheet n) → Apart (frames p) sheet w.signature w.text
unfolding read_sheet
whole_apart p sheet n w = read-lines (frames p) 1 sheet w.signature w.text (frames-sized p) w.is_read

-- a sheet that is judged to be read is so, and one that isn't has that wrong line
pub judged-whole : (p : Profile) (sheet : List ℕ) {n : ℕ} {r : Result ℕ Refusal} → r ≡ judgement (read_sheet p sheet) → r ≡ Ok n → Whole p sheet n
unfolding judgement
judged-whole p sheet {n} told e = by (read_sheet p sheet) refl (sym e ∙ told)
  where
    by : (r : Reading) → read_sheet p sheet ≡ r → Ok n ≡ judgement r → Whole p sheet n
    by (wrong_line m) q e = cc
    by (read signature text) q e = let long : n ≡ length text = cc in record { signature = signature; text = text; is_read = q; long = long }

judged-wrong : (p : Profile) (sheet : List ℕ) {cause : Refusal} {r : Result ℕ Refusal} → r ≡ judgement (read_sheet p sheet) → r ≡ Err cause
    → (n : ℕ) × (read_sheet p sheet ≡ wrong_line n) × (cause ≡ SheetLine n)
unfolding judgement
judged-wrong p sheet {cause} told e = by (read_sheet p sheet) refl (sym e ∙ told)
  where
    by : (r : Reading) → read_sheet p sheet ≡ r → Err cause ≡ judgement r → (n : ℕ) × (read_sheet p sheet ≡ wrong_line n) × (cause ≡ SheetLine n)
    by (wrong_line m) q e = let same : cause ≡ SheetLine m = cc in (m, q, same)
    by (read signature text) q e = cc

module _ (p : Profile) (sheet signature message : List ℕ) where
  abbrev late : List (Bool × ℕ)
  late = sheet_causes p sheet signature message

  -- the profile is refused
  pub profile-refused : {cause : Refusal} {checked : Result (Unit {0}) Refusal} {r : Result ℕ Refusal} → checked ≡ Err cause
      → outcome_code checked ≡ first_cause (profile_causes p) → r ≡ Err cause → ReadsSheet p sheet signature message signature message r
  unfolding sheet_code
  profile-refused {cause} q o told =
      let number : code cause ≡ sheet_code p sheet signature message = refused_first (profile_causes p) late q o in
      let some = refused-number told (ap outcome_code told ∙ number) in
      let other : eqb (code cause) 17 ≡ false =
      refused_avoids (λ n. eqb n 17) (profile_causes p) (profile-without p 17 (lit≤ tt) (lit< tt)) q o in
      record {
        code = ap outcome_code told ∙ number;
        line = rw (told, no-line cause other, ← number, other);
        text_length = rw (told, some);
        signature_written = rw some;
        text_written = rw some;
      }

  module _ (none : first_cause (profile_causes p) ≡ 0) where
    code_then : sheet_code p sheet signature message ≡ first_cause late
    unfolding sheet_code
    code_then = none_then (profile_causes p) late none (profile-numbered p)

    -- refused by a line
    pub line-refused : {cause : Refusal} {judged r : Result ℕ Refusal} → judged ≡ judgement (read_sheet p sheet) → judged ≡ Err cause → r ≡ Err cause
        → ReadsSheet p sheet signature message signature message r
    unfolding line_in is_wrong
    line-refused {cause} told e answer =
        let wrong = judged-wrong p sheet told e in
        let seventeen : sheet_code p sheet signature message ≡ 17 = code_then ∙ rw wrong.1 in
        record {
          code = rw (answer, wrong.2, seventeen);
          line = rw (answer, wrong.2, seventeen, wrong.1);
          text_length = rw (answer, seventeen);
          signature_written = rw seventeen;
          text_written = rw seventeen;
        }

    -- of a sheet that is read
    module _ {n : ℕ} (w : Whole p sheet n) where
      abbrev narrow : List (Bool × ℕ)
      narrow = (ltb (length message) n, 6) ∷ []

      slices_left : sheet_code p sheet signature message ≡ first_cause ((ltb (length signature) (signature_length p), 6) ∷ narrow)
      unfolding is_wrong text_in
      slices_left = code_then ∙ rw (w.is_read, w.long)

      -- refused by a slice
      slice-refused : {r : Result ℕ Refusal} → sheet_code p sheet signature message ≡ 6 → r ≡ Err OutputTooShort
          → ReadsSheet p sheet signature message signature message r
      slice-refused six answer = record {
        code = rw (answer, six);
        line = rw (answer, six);
        text_length = rw (answer, six);
        signature_written = rw six;
        text_written = rw six;
      }

      pub signature-short : {r : Result ℕ Refusal} → length signature < signature_length p → r ≡ Err OutputTooShort
          → ReadsSheet p sheet signature message signature message r
      signature-short short = slice-refused (slices_left ∙ rw (lt-ltb (length signature) (signature_length p) short))

      module _ (enough : signature_length p ≤ length signature) where
        text_left : sheet_code p sheet signature message ≡ first_cause narrow
        text_left = slices_left ∙ rw (le-ltb (length signature) (signature_length p) enough)

        pub text-short : {r : Result ℕ Refusal} → length message < n → r ≡ Err OutputTooShort
            → ReadsSheet p sheet signature message signature message r
        text-short short = slice-refused (text_left ∙ rw (lt-ltb (length message) n short))

        pub sheet-granted : n ≤ length message → {at : ℕ} {signature' message' : List ℕ} → at ≡ behind_all 0 (frames p)
            → signature' ≡ payloads sheet 0 (frames p) ++ drop (signature_length p) signature
            → message' ≡ bytes_in sheet (at + 2 * length text_frame.head) n ++ drop n message
            → ReadsSheet p sheet signature message signature' message' (Ok n)
        unfolding signature_in text_in
        sheet-granted room place s m =
            let apart = whole_apart p sheet n w in
            let zero : sheet_code p sheet signature message ≡ 0 = text_left ∙ rw (le-ltb (length message) n room) in
            record {
              code = sym zero;
              line = rw zero;
              text_length = rw (zero, w.is_read) w.long;
              signature_written = rw (zero, w.is_read) (s ∙ rw (signature-here p sheet w.signature w.text apart));
              text_written = rw (zero, w.is_read) (m ∙ rw (place, w.long, text-here p sheet w.signature w.text apart));
            }
