-- Document 02, point 1: "a signature and its text written as the sheet that the reader takes".
use Rattle.std.specs.Prelude.{◌≡◌, Bool, not, cond, List, [], ◌∷◌, ◌++◌, ℕ, ltb, eqb, length, drop, Result}
use Rattle.std.specs.Result.{result_unwrap_or}
use Rattle.refusal.specs.Code.{outcome_code, first_cause}
use Rattle.refusal.specs.declared.Refusal.{Refusal}
use Rattle.profile.specs.Checks.{profile_causes}
use Rattle.profile.specs.declared.Profile.{Profile}
use Rattle.signature.specs.Signature.{outside_text, signature_length}
use Rattle.frames.specs.Lines.{sheet_of}

-- "Profile checks, 16, 13 …": those that do not look at the sheet's slice
abbrev pub carried_causes : Profile → (signature message : List ℕ) → List (Bool × ℕ)
carried_causes p signature message =
    profile_causes p ++ ((outside_text (length message), 16) ∷ (not (eqb (length signature) (signature_length p)), 13) ∷ [])

-- "Profile checks, 16, 13 and 6 apply in that order; 11 isn't tested"
unfoldable pub write_sheet_code : Profile → (signature message sheet : List ℕ) → ℕ
write_sheet_code p signature message sheet =
    first_cause (carried_causes p signature message ++ ((ltb (length sheet) (length (sheet_of p signature message)), 6) ∷ []))

-- what Write sheet answers and leaves: "A writer of a sheet or frame … also gives the number of bytes written"
pub record WritesSheet (p : Profile) (signature message sheet sheet' : List ℕ) (r : Result ℕ Refusal) : Type 0 where
  pub code : outcome_code r ≡ write_sheet_code p signature message sheet
  pub bytes : result_unwrap_or r 0 ≡ cond (eqb (write_sheet_code p signature message sheet) 0) (length (sheet_of p signature message)) 0
  pub written : sheet'
      ≡ cond (eqb (write_sheet_code p signature message sheet) 0)
      (sheet_of p signature message ++ drop (length (sheet_of p signature message)) sheet) sheet
