-- Document 01, "Read sheet, for an expected profile".
use Rattle.std.specs.Prelude.{◌≡◌, Bool, true, false, cond, List, [], ◌∷◌, ◌++◌, ℕ, ltb, eqb, length, drop, Result}
use Rattle.std.specs.Result.{result_unwrap_or}
use Rattle.refusal.specs.Code.{outcome_code, line_told, first_cause}
use Rattle.refusal.specs.declared.Refusal.{Refusal}
use Rattle.profile.specs.Checks.{profile_causes}
use Rattle.profile.specs.declared.Profile.{Profile}
use Rattle.signature.specs.Signature.{signature_length}
use Rattle.sheet_reader.specs.Sheet.{Reading, wrong_line, read, read_sheet}

-- the wrong line's number; 0 where none is wrong
unfoldable pub line_in : Reading → ℕ
line_in (wrong_line n) = n
line_in (read signature text) = 0

-- "the signature bytes" that a sheet carries
unfoldable pub signature_in : Reading → List ℕ
signature_in (wrong_line n) = []
signature_in (read signature text) = signature

-- "the text" that it carries
unfoldable pub text_in : Reading → List ℕ
text_in (wrong_line n) = []
text_in (read signature text) = text

-- whether 17 holds: a line is wrong
unfoldable pub is_wrong : Reading → Bool
is_wrong (wrong_line n) = true
is_wrong (read signature text) = false

-- "17 …; 6 signature slice; 6 text slice": the causes behind those of the profile
abbrev pub sheet_causes : Profile → (sheet signature message : List ℕ) → List (Bool × ℕ)
sheet_causes p sheet signature message =
    (is_wrong (read_sheet p sheet), 17) ∷ (ltb (length signature) (signature_length p), 6)
    ∷ (ltb (length message) (length (text_in (read_sheet p sheet))), 6) ∷ []

-- "profile checks; 17 …; 6 signature slice; 6 text slice"
unfoldable pub sheet_code : Profile → (sheet signature message : List ℕ) → ℕ
sheet_code p sheet signature message = first_cause (profile_causes p ++ sheet_causes p sheet signature message)

-- what Read sheet answers and leaves: "17 with the number, from 1, of the first line"; "Success writes the signature bytes and
-- the text, and gives the text's length"
pub record ReadsSheet (p : Profile) (sheet signature message signature' message' : List ℕ) (r : Result ℕ Refusal) : Type 0 where
  pub code : outcome_code r ≡ sheet_code p sheet signature message
  pub line : line_told r ≡ cond (eqb (sheet_code p sheet signature message) 17) (line_in (read_sheet p sheet)) 0
  pub text_length : result_unwrap_or r 0 ≡ cond (eqb (sheet_code p sheet signature message) 0) (length (text_in (read_sheet p sheet))) 0
  pub signature_written : signature'
      ≡ cond (eqb (sheet_code p sheet signature message) 0)
      (signature_in (read_sheet p sheet) ++ drop (signature_length p) signature) signature
  pub text_written : message'
      ≡ cond (eqb (sheet_code p sheet signature message) 0)
      (text_in (read_sheet p sheet) ++ drop (length (text_in (read_sheet p sheet))) message) message
