-- A small sheet by the definitions, in both editions: its first two lines and what it is read as; in edition 1 with a byte after it, cut behind a line and cut
-- before an ending;
-- and where the other edition is expected.
use mathlib.Core.Path.{◌≡◌, refl}
use mathlib.Core.List.{List, [], ◌∷◌, ◌++◌}
use Prim.Native.Nat.{ℕ}
use lib.ListN.{replicate, take, drop}
use Rattle.octets.specs.Bytes.{to_bytes}
use Rattle.hex_lines.specs.Hex.{hex_of, hex_digit, digit_of, behind, line_end, line_of, read_line}
use Rattle.profile.specs.declared.Profile.{Profile}
use Rattle.frames.specs.Frames.{first_characters, edition_byte, profile_frame, numbered, frames}
use Rattle.frames.specs.Lines.{lines_of, sheet_of, without, within, read_frame}
use Rattle.sheet_reader.specs.Sheet.{wrong_line, read, in_front, followed, ended, read_frames, read_sheet}

abbrev small : (edition : ℕ) → Profile
small edition = record { shape = record { chains = 2; width = 3; sum = 259 }; height = 1; edition = edition }

abbrev signature : List ℕ
signature = 1 ∷ 2 ∷ 3 ∷ 255 ∷ replicate 16 171 ++ replicate 16 0 ++ replicate 16 160 ++ replicate 16 11

abbrev text : List ℕ
text = 72 ∷ 10 ∷ []

abbrev sheet : (edition : ℕ) → List ℕ
sheet edition = sheet_of (small edition) signature text

-- the profile's line in edition 1
abbrev line : List ℕ
line = 48 ∷ 49 ∷ 48 ∷ 50 ∷ 48 ∷ 51 ∷ 48 ∷ 49 ∷ 48 ∷ 49 ∷ 48 ∷ 51 ∷ []

-- 010203010103 is the profile's line, with 02 behind it in edition 2: s = 259 is 01 03 (hex)
example : (take 7 (sheet 1) ≡ first_characters ++ (line_end ∷ []))
    × (take 13 (drop 7 (sheet 1)) ≡ line ++ (line_end ∷ []))
    × (read_sheet (small 1) (sheet 1) ≡ read signature text)
    × (read_sheet (small 1) (sheet 1 ++ (line_end ∷ [])) ≡ wrong_line 9)
    × (read_sheet (small 1) (take 66 (sheet 1)) ≡ wrong_line 5)
    × (read_sheet (small 1) (take 65 (sheet 1)) ≡ wrong_line 4)
    × (take 15 (drop 7 (sheet 2)) ≡ line ++ (48 ∷ 50 ∷ line_end ∷ []))
    × (read_sheet (small 2) (sheet 2) ≡ read signature text)
    × (read_sheet (small 1) (sheet 2) ≡ wrong_line 2)
    × (read_sheet (small 2) (sheet 1) ≡ wrong_line 2)
unfolding read_sheet read_frames ended followed in_front read_frame within without read_line behind digit_of sheet_of lines_of frames numbered profile_frame edition_byte
    to_bytes line_of hex_of hex_digit
example = (refl, refl, refl, refl, refl, refl, refl, refl, refl, refl)
