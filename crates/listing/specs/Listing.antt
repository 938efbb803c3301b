-- Document 01, The listing program.
use Rattle.std.specs.Prelude.{◌≡◌, cond, ◌&&◌, List, [], ◌∷◌, ◌++◌, ℕ, min, eqb, length, get_or, drop, Result, Ok, Err}
use Rattle.refusal.specs.Code.{code, first_cause}
use Rattle.refusal.specs.declared.Refusal.{Refusal}
use Rattle.refusal.specs.declared.Refusal.TheVariants.{SheetLine}
use Rattle.octets.specs.Bytes.{from_bytes, to_bytes}
use Rattle.lists.specs.Joined.{join_to}
use Rattle.hex_lines.specs.Hex.{line_of, Line, wrong, right, read_line}
use Rattle.profile.specs.declared.Shape.{Shape}
use Rattle.counts.specs.Counts.{count}
use Rattle.counts.specs.Table.{table_after}
use Rattle.counts.specs.Operations.{count_causes}
use Rattle.codewords.specs.Operations.{row_of}
use Rattle.listing.specs.Input.{read_of}

-- "kind 10 (hex): l, w (1 byte each), s (2)"
unfoldable pub request_of : (bytes : List ℕ) → Result Shape Refusal
request_of bytes =
    cond (eqb (length bytes) 5 && eqb (get_or bytes 0 0) 16)
    (Ok (record { chains = get_or bytes 1 0; width = get_or bytes 2 0; sum = from_bytes (drop 3 bytes) }))
    (Err (SheetLine 1))

-- "It reads one line from standard input": what stands behind the line is not looked at
unfoldable pub request_in : Line → Result Shape Refusal
request_in wrong = Err (SheetLine 1)
request_in (right bytes rest) = request_of bytes

-- "kind 11 (hex), number (2 bytes), l lengths (1 each)"
unfoldable pub row_line : Shape → (number : ℕ) → List ℕ
row_line shape n = line_of (17 ∷ to_bytes 2 n ++ row_of shape n)

-- "prints a line for each number up to the first 256"
unfoldable pub row_lines : Shape → List ℕ
row_lines shape = join_to (row_line shape) (min (count shape) 256)

-- "A refusal prints 1F and its number in one hex byte"
unfoldable pub refusal_line : (code : ℕ) → List ℕ
refusal_line n = line_of (31 ∷ n ∷ [])

-- "Its work slice has 16,000 words"
unfoldable pub table_words : ℕ
table_words = 16000

-- the causes of Count
unfoldable pub listing_code : Shape → ℕ
listing_code shape = first_cause (count_causes shape table_words)

-- "a malformed line prints 1F11": it is the first line, and 11 (hex) the number of its cause
unfoldable pub answer_to : Result Shape Refusal → List ℕ
answer_to (Err cause) = refusal_line (code cause)
answer_to (Ok shape) = cond (eqb (listing_code shape) 0) (row_lines shape) (refusal_line (listing_code shape))

-- all that is printed
unfoldable pub listing_of : (input : List ℕ) → List ℕ
listing_of input = answer_to (request_in (read_line input))

-- what the work slice then holds: what Count leaves there, and after a malformed line what stood there
unfoldable pub work_after : Result Shape Refusal → (work : List ℕ) → List ℕ
work_after (Err cause) work = work
work_after (Ok shape) work = table_after (listing_code shape) shape work

-- what is printed of a line that was read, and what the slices hold afterwards
pub record Lists (line work work' out out' : List ℕ) (given : ℕ) : Type 0 where
  pub length_given : given ≡ length (listing_of line)
  pub printed : out' ≡ listing_of line ++ drop given out
  pub table : work' ≡ work_after (request_in (read_line line)) work

-- "It reads one line from standard input": what is not read of an input changes nothing
abbrev pub FirstEleven : Type 0
FirstEleven = (input : List ℕ) → listing_of (read_of [] input) ≡ listing_of input

-- "Input 1003030003 prints in full": the input, with its ending
abbrev pub example_input : List ℕ
example_input = 49 ∷ 48 ∷ 48 ∷ 51 ∷ 48 ∷ 51 ∷ 48 ∷ 48 ∷ 48 ∷ 51 ∷ 10 ∷ []

-- what it prints, line by line
abbrev pub example_listing : List ℕ
example_listing =
    line_of (17 ∷ 0 ∷ 0 ∷ 0 ∷ 1 ∷ 2 ∷ [])
    ++ line_of (17 ∷ 0 ∷ 1 ∷ 0 ∷ 2 ∷ 1 ∷ [])
    ++ line_of (17 ∷ 0 ∷ 2 ∷ 1 ∷ 0 ∷ 2 ∷ [])
    ++ line_of (17 ∷ 0 ∷ 3 ∷ 1 ∷ 1 ∷ 1 ∷ [])
    ++ line_of (17 ∷ 0 ∷ 4 ∷ 1 ∷ 2 ∷ 0 ∷ [])
    ++ line_of (17 ∷ 0 ∷ 5 ∷ 2 ∷ 0 ∷ 1 ∷ [])
    ++ line_of (17 ∷ 0 ∷ 6 ∷ 2 ∷ 1 ∷ 0 ∷ [])

-- the listing of that input is that
abbrev pub Example : Type 0
Example = listing_of example_input ≡ example_listing
