-- Document 01, The listing program: "It reads one line from standard input".
use Rattle.std.specs.Prelude.{Bool, false, ◌||◌, cond, List, [], ◌∷◌, ◌++◌, ℕ, ◌-◌, ltb, eqb, length, take}
use Rattle.hex_lines.specs.Hex.{line_end}
use Rattle.listing.specs.declared.input.Input.{Input}

-- whether 0A (hex) stands among the bytes
unfoldable pub has_ending : List ℕ → Bool
has_ending [] = false
has_ending (c ∷ more) = eqb c line_end || has_ending more

-- how many bytes are still to be read behind these: none behind an ending, and eleven in all, which are the characters of five bytes and
-- the ending
unfoldable pub to_read : (line : List ℕ) → ℕ
to_read line = cond (has_ending line) 0 (11 - length line)

-- what was read
abbrev pub line_read : Input → List ℕ
line_read i = take i.long i.bytes

-- how many bytes are still to be read: none once the input has ended
unfoldable pub left_of : Input → ℕ
left_of i = cond i.ended 0 (to_read (line_read i))

-- what is read of an input, byte by byte, with the line that was read before in front
unfoldable pub read_of : (line input : List ℕ) → List ℕ
read_of line [] = line
read_of line (c ∷ more) = cond (ltb 0 (to_read line)) (read_of (line ++ (c ∷ [])) more) line
