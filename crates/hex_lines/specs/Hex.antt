-- Document 01, Sheet: "Upper-case hex, one frame a line, each line ended by the byte 0A (hex)".
use Rattle.std.specs.Prelude.{cond, List, [], ◌∷◌, ◌++◌, ℕ, ◌+◌, ◌-◌, ◌*◌, ◌/◌, ◌%◌, ltb, leb, eqb}

-- the character of a digit: 0 to 9 from 30 (hex) on, A to F from 41 (hex) on
unfoldable pub hex_digit : ℕ → ℕ
hex_digit d = cond (ltb d 10) (48 + d) (55 + d)

-- the characters of bytes, two for each
unfoldable pub hex_of : List ℕ → List ℕ
hex_of [] = []
hex_of (b ∷ bytes) = hex_digit (b / 16) ∷ hex_digit (b % 16) ∷ hex_of bytes

-- the byte that ends a line
abbrev pub line_end : ℕ
line_end = 10

-- a frame's bytes as a line
unfoldable pub line_of : List ℕ → List ℕ
line_of bytes = hex_of bytes ++ (line_end ∷ [])

-- the digit that a character is; 16 where it is none
unfoldable pub digit_of : ℕ → ℕ
digit_of c = cond (ltb c 48) 16 (cond (leb c 57) (c - 48) (cond (ltb c 65) 16 (cond (leb c 70) (c - 55) 16)))

-- what a line is read as
pub data Line : Type 0 where
  -- no line ending, a character that is no digit, or half a byte
  wrong : Line
  -- the bytes of the line, and what stands behind its ending
  right : (bytes rest : List ℕ) → Line

-- a byte in front of a line
unfoldable pub behind : (byte : ℕ) → Line → Line
behind b wrong = wrong
behind b (right bytes rest) = right (b ∷ bytes) rest

-- the first line of the characters
unfoldable pub read_line : List ℕ → Line
read_line [] = wrong
read_line (c ∷ []) = cond (eqb c line_end) (right [] []) wrong
read_line (c ∷ d ∷ more) =
    cond (eqb c line_end) (right [] (d ∷ more))
    (cond (ltb (digit_of c) 16) (cond (ltb (digit_of d) 16) (behind (16 * digit_of c + digit_of d) (read_line more)) wrong) wrong)
