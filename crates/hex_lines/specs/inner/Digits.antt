-- A line as the reader takes it: two characters at a time, and then its ending.
use Rattle.std.specs.Prelude.{◌≡◌, Bool, true, false, cond, Option, Some, None, List, [], ◌∷◌, ◌++◌, ℕ, ◌+◌, ◌*◌, ltb, eqb}
use Rattle.std.specs.Prelude.{length, get_or, take, drop}
use Rattle.hex_lines.specs.Hex.{digit_of, Line, wrong, right, read_line}

-- the digit that a character is
abbrev pub digit_in : (c : ℕ) → Option ℕ
digit_in c = cond (ltb (digit_of c) 16) (Some (digit_of c)) None

-- the byte that two characters are
unfoldable pub byte_of : (c d : ℕ) → Option ℕ
byte_of c d = cond (ltb (digit_of c) 16) (cond (ltb (digit_of d) 16) (Some (16 * digit_of c + digit_of d)) None) None

-- the byte that stands from index `at` on; none where the characters end before
unfoldable pub byte_at : (chars : List ℕ) (at : ℕ) → Option ℕ
byte_at chars at = cond (ltb (length chars) (at + 2)) None (byte_of (get_or chars at 0) (get_or chars (at + 1) 0))

-- whether a line is right and has exactly n bytes
unfoldable pub has_bytes : (n : ℕ) → Line → Bool
has_bytes n wrong = false
has_bytes n (right bytes rest) = eqb (length bytes) n

-- a byte in front of what follows it; where there is none, what stood there stays
unfoldable pub or_kept : Option ℕ → (next old : List ℕ) → List ℕ
or_kept None next old = old
or_kept (Some b) next old = b ∷ next

-- what a slice holds once bytes are read into it from index `at` on: those up to the first that is wrong, and behind them
-- what stood there
unfoldable pub read_into : (chars : List ℕ) (at : ℕ) (old : List ℕ) → List ℕ
read_into chars at [] = []
read_into chars at (o ∷ old) = or_kept (byte_at chars at) (read_into chars (at + 2) old) (o ∷ old)

-- what a slice holds once something is written between two of its indices
abbrev pub between : (old : List ℕ) (from : ℕ) (new : List ℕ) (to : ℕ) → List ℕ
between old from new to = take from old ++ new ++ drop to old

-- what reading a line into a slice that held `old` answers, and what the slice then holds
pub record ReadsLine (chars : List ℕ) (at : ℕ) (old new : List ℕ) (r : Bool) : Type 0 where
  pub told : r ≡ has_bytes (length old) (read_line (drop at chars))
  pub bytes : r ≡ true → read_line (drop at chars) ≡ right new (drop (at + 2 * length old + 1) chars)
  pub left : new ≡ read_into chars at old
