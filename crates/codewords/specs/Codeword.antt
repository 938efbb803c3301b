-- Document 01, Counts and rows: which row belongs to a number, and which number to a row.
use Rattle.std.specs.Prelude.{◌≡◌, cond, ◌⊎◌, List, [], ◌∷◌, ℕ, zero, suc, ◌+◌, ◌-◌, ◌<◌, ◌≤◌, ltb, length, get_or}
use Rattle.counts.specs.Counts.{sum_to, share, D}

-- a length, and what is left of the number
pub record Placed : Type 0 where
  pub digit : ℕ
  pub number : ℕ

-- "the skipped counts are taken off one by one, and the search for a length ends at the first share that holds the number":
-- from the length j on, with tries left, where f j is the share of the length j
unfoldable pub place : (ℕ → ℕ) → (tries j n : ℕ) → Placed
place f zero j n = record { digit = j; number = n }
place f (suc tries) j n = cond (ltb n (f j)) (record { digit = j; number = n }) (place f tries (suc j) (n - f j))

-- the row of i lengths with sum t that has the number n: "then the sum still to be spread falls by that length"
unfoldable pub codeword : (w i t n : ℕ) → List ℕ
codeword w zero t n = []
codeword w (suc i) t n =
    let p = place (share (D w i) t) w 0 n in
    p.digit ∷ codeword w i (t - p.digit) p.number

-- the number of a row with sum t: "numbered from 0 in dictionary order, first length most significant"
unfoldable pub rank : (w t : ℕ) → List ℕ → ℕ
rank w t [] = 0
rank w t (a ∷ row) = sum_to (share (D w (length row)) t) a + rank w (t - a) row

-- the sum of a row's lengths
unfoldable pub total : List ℕ → ℕ
total [] = 0
total (a ∷ row) = a + total row

-- "l lengths from 0 to w − 1"
pub record IsRow (w l : ℕ) (row : List ℕ) : Type 0 where
  pub chains : length row ≡ l
  pub digits : (c : ℕ) → c < l → get_or row c 0 < w

-- "Every row of l lengths from 0 to w − 1 with sum s"
pub record IsCodeword (w l s : ℕ) (row : List ℕ) : Type 0 where
  pub lengths : IsRow w l row
  pub sum : total row ≡ s

-- "no chain in the first one's signature stands higher than the same chain in the second's", and document 02, point 13: "at most another at
-- each place"
abbrev pub AtMost : (l : ℕ) (xs ys : List ℕ) → Type 0
AtMost l xs ys = (c : ℕ) → c < l → get_or xs c 0 ≤ get_or ys c 0

-- "in dictionary order, first length most significant"
abbrev pub Before : List ℕ → List ℕ → Type 0
Before [] ys = ⊥
Before (a ∷ xs) [] = ⊥
Before (a ∷ xs) (b ∷ ys) = (a < b) ⊎ ((a ≡ b) × Before xs ys)
