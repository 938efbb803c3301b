-- Document 01, Sheet: "one frame a line", and the frames in their order; document 02, point 6: the edition's byte.
use Rattle.std.specs.Prelude.{cond, List, [], ◌∷◌, ◌++◌, ℕ, zero, suc, ◌≤◌, eqb, get_or}
use Rattle.octets.specs.Bytes.{to_bytes}
use Rattle.profile.specs.Checks.{InLimits}
use Rattle.profile.specs.declared.Profile.{Profile}

-- a profile whose shape and height are within their limits; its edition may be any number
abbrev pub SizesInLimits : Profile → Type 0
SizesInLimits p = InLimits p.shape × (p.height ≤ 10)

-- a frame: its fixed bytes, "kind byte first", and behind them low to high bytes
pub record Frame : Type 0 where
  pub head : List ℕ
  pub low : ℕ
  pub high : ℕ

-- a frame of these fixed bytes and limits
abbrev pub framed : (head : List ℕ) (low high : ℕ) → Frame
framed head low high = record { head = head; low = low; high = high }

-- a frame with so many bytes behind the fixed ones
abbrev pub sized : (head : List ℕ) (size : ℕ) → Frame
sized head size = framed head size size

-- "The first line is exactly the six characters 474F31": those of the bytes 47, 4F, 31 (hex)
abbrev pub first_characters : List ℕ
first_characters = 52 ∷ 55 ∷ 52 ∷ 70 ∷ 51 ∷ 49 ∷ []

-- the first line as a frame: it is these bytes and no others
abbrev pub first_frame : Frame
first_frame = sized (71 ∷ 79 ∷ 49 ∷ []) 0

-- "frames 01 and 07 gain a last byte, 02, only for edition 2"
unfoldable pub edition_byte : (edition : ℕ) → List ℕ
edition_byte edition = cond (eqb edition 2) (2 ∷ []) []

-- "01 with l, w, h (1 byte each) and s (2 bytes)", and the edition's byte
unfoldable pub profile_frame : Profile → Frame
profile_frame p = sized (1 ∷ p.shape.chains ∷ p.shape.width ∷ p.height ∷ (to_bytes 2 p.shape.sum ++ edition_byte p.edition)) 0

-- "02 leaf (4)"
abbrev pub leaf_frame : Frame
leaf_frame = sized (2 ∷ []) 4

-- "03 R (16)"
abbrev pub randomizer_frame : Frame
randomizer_frame = sized (3 ∷ []) 16

-- "04 with chain (1) and value (16)", "05 with node height from 0 (1) and sibling (16), both kinds rising": n frames of a kind, from the
-- number k on
unfoldable pub numbered : (kind k n : ℕ) → List Frame
numbered kind k zero = []
numbered kind k (suc n) = sized (kind ∷ k ∷ []) 16 ∷ numbered kind (suc k) n

-- "l frames 04", "h frames 05": the frames in front of the text
unfoldable pub frames : Profile → List Frame
frames p = first_frame ∷ profile_frame p ∷ leaf_frame ∷ randomizer_frame ∷ (numbered 4 0 p.shape.chains ++ numbered 5 0 p.height)

-- "06 order text", "text outside 1 to 200 bytes" being wrong
abbrev pub text_frame : Frame
text_frame = framed (6 ∷ []) 1 200

-- frame k of a sheet, from 0: the first line, then the frames in their order, and behind them the text's
abbrev pub frame_at : Profile → (k : ℕ) → Frame
frame_at p k = get_or (frames p) k text_frame
