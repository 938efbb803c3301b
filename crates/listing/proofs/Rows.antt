-- The lines of the rows: how long they are, what stands in one, and a loop that prints one after another.
use mathlib.Core.Path.{◌≡◌, refl, sym, ap, ◌∙◌}
use mathlib.Core.List.{List, [], ◌∷◌, ◌++◌, append-nil}
use Prim.Native.Nat.{ℕ, ◌+◌, ◌*◌, ◌/◌, ◌%◌, ◌^◌, ◌≤◌, ◌<◌, min}
use native.Mathlib.Nat.{mul-le-mul, mul-suc}
use native.Mathlib.Numerals.{add-three}
use native.Mathlib.Omega.{arith}
use lib.ListN.{length, get_or, take, drop, replicate, length-append}
use lib.Seq.{take_at}
use Rattle.octets.specs.Bytes.{to_bytes}
use Rattle.lists.specs.Joined.{join_to}
use Rattle.numbers.specs.Number.{value}
use Rattle.octets.proofs.ByteLaws.{length-to_bytes}
use Rattle.lists.proofs.Joins.{length-join_to, write_next, write_long}
use Rattle.hex_lines.specs.Hex.{line_of}
use Rattle.hex_lines.proofs.Writing.{length-line_of}
use Rattle.profile.specs.declared.Shape.{Shape}
use Rattle.counts.specs.Counts.{count}
use Rattle.codewords.specs.Operations.{row_of}
use Rattle.codewords.proofs.CodewordLaws.{codeword_valid}
use Rattle.listing.specs.Listing.{row_line, row_lines}

-- a number of one word in five
pub one_word : (n : ℕ) → value (n ∷ 0 ∷ 0 ∷ 0 ∷ 0 ∷ []) ≡ n
unfolding value
one_word n = omega arith

-- a number below 2 ^ 32 is its least word
pub least-word : (ws : List ℕ) → value ws < 2 ^ 32 → get_or ws 0 0 ≡ value ws
unfolding value
least-word [] h = refl
least-word (w ∷ ws) h = omega arith

-- a number below the count has a row of l lengths
row_long : (shape : Shape) (n : ℕ) → n < count shape → length (row_of shape n) ≡ shape.chains
unfolding count
row_long shape n h = (codeword_valid shape.width shape.chains shape.sum n h).lengths.chains

bytes-long : (shape : Shape) (n : ℕ) → n < count shape → length (17 ∷ to_bytes 2 n ++ row_of shape n) ≡ shape.chains + 3
bytes-long shape n h = omega (arith, length-append (to_bytes 2 n) (row_of shape n), length-to_bytes 2 n, row_long shape n h)

-- the characters of a row's line
abbrev pub line_length : Shape → ℕ
line_length shape = 2 * (shape.chains + 3) + 1

pub line-long : (shape : Shape) (n : ℕ) → n < count shape → length (row_line shape n) ≡ line_length shape
unfolding row_line
line-long shape n h = length-line_of (17 ∷ to_bytes 2 n ++ row_of shape n) ∙ rw (bytes-long shape n h)

-- the row behind the kind and the number
module _ (shape : Shape) (n : ℕ) {m : ℕ} {row' : List ℕ} (same : m ≡ n) (below : n < count shape) (small : n < 256)
    (placed : row' ≡ row_of shape m ++ drop shape.chains (replicate 40 0)) where
  row_bytes : take (shape.chains + 3) (17 ∷ n / 256 ∷ n % 256 ∷ (row' ++ [])) ≡ 17 ∷ to_bytes 2 n ++ row_of shape n
  unfolding to_bytes
  row_bytes =
      let high : n / 256 % 256 ≡ n / 256 = omega arith in
      let low : n / 1 % 256 ≡ n % 256 = omega arith in
      let row = take_at (row_of shape n) (drop shape.chains (replicate 40 0)) shape.chains (row_long shape n below) in
      rw (append-nil, add-three, placed, same, row, high, low)

  pub row_printed : line_of (take (shape.chains + 3) (17 ∷ n / 256 ∷ n % 256 ∷ (row' ++ []))) ≡ row_line shape n
  unfolding row_line
  row_printed = ap line_of row_bytes

-- the first lines are in the slice o, and o goes on behind them
abbrev pub Printed : Shape → (n : ℕ) (o out : List ℕ) → Type 0
Printed shape n o out = out ≡ take 0 o ++ join_to (row_line shape) n ++ drop (0 + line_length shape * n) o

-- where the next line begins
next_index : (k n : ℕ) {at long r : ℕ} → r ≡ at + long → at ≡ k * n → long ≡ k → r ≡ k * (n + 1)
next_index k n e start same = omega (arith, mul-suc k n)

module _ (shape : Shape) (lines : ℕ) (o : List ℕ) (few : shape.chains ≤ 40) (first : lines ≡ min (count shape) 256) (room : 22272 ≤ length o) where
  each : (n : ℕ) → n < lines → length (row_line shape n) ≡ line_length shape
  each n h = line-long shape n (omega arith)

  fits : 0 + line_length shape * lines ≤ length o
  fits = let all : line_length shape * lines ≤ 87 * 256 = mul-le-mul {n₂ = 87} {m₂ = 256} (omega arith) (omega arith) in omega arith

  -- there is room for another line
  pub line-room : (n : ℕ) → n < lines → line_length shape * n + 87 ≤ length o
  line-room n h = let before : line_length shape * n ≤ 87 * 255 = mul-le-mul {n₂ = 87} {m₂ = 255} (omega arith) (omega arith) in omega arith

  pub keeps_length : (n : ℕ) {out : List ℕ} → n ≤ lines → Printed shape n o out → length out ≡ length o
  keeps_length n h e = write_long (row_line shape) (line_length shape) lines each 0 o fits n h e

  pub printed-next : (n at r : ℕ) {out out' : List ℕ} → n < lines → at ≡ line_length shape * n → Printed shape n o out
      → r ≡ at + length (row_line shape n) → out' ≡ take at out ++ row_line shape n ++ drop r out
      → (r ≡ line_length shape * (n + 1)) × Printed shape (n + 1) o out'
  printed-next n at r h start e next w =
      let k = line_length shape in
      let long : length (row_line shape n) ≡ k = each n h in
      let here : 0 + k * n ≡ at = omega arith in
      let past : 0 + k * n + k ≡ r = omega arith in
      (next_index k n next start long, write_next (row_line shape) k lines each 0 o fits n h refl e (rw (past, here) w))

  pub printed-all : (n at : ℕ) {out : List ℕ} → n ≤ lines → lines ≤ n → at ≡ line_length shape * n → Printed shape n o out
      → (at ≡ length (row_lines shape)) × (out ≡ row_lines shape ++ drop at o)
  unfolding row_lines
  printed-all n at low high end e =
      let all : lines ≡ n = omega arith in
      let here : 0 + line_length shape * n ≡ at = omega arith in
      rw (← first, all)
      (end ∙ sym (length-join_to (row_line shape) (line_length shape) n (λ c h. each c (omega arith))), e ∙ rw here)
