-- What documents 00 and 01 claim of numbers and their rows.
use Rattle.std.specs.Prelude.{◌≡◌, ◌↔◌, List, ℕ, ◌<◌}
use Rattle.profile.specs.declared.Shape.{Shape}
use Rattle.counts.specs.Counts.{count}
use Rattle.counts.specs.Operations.{count_code}
use Rattle.codewords.specs.Codeword.{IsCodeword, AtMost, Before}
use Rattle.codewords.specs.Operations.{row_of, rank_code}

-- "Under one profile, two message numbers below the count are equal exactly when no chain in the first one's signature stands
-- higher than the same chain in the second's": a chain stands at the length that the number's row has at the chain's place
abbrev pub Incomparable : Type 0
Incomparable =
    (shape : Shape) (m n : ℕ) → m < count shape → n < count shape
    → (m ≡ n) ↔ AtMost shape.chains (row_of shape m) (row_of shape n)

-- "Every row of l lengths from 0 to w − 1 with sum s belongs to exactly one number below the count"
abbrev pub Complete : Type 0
Complete =
    (shape : Shape) (row : List ℕ) → IsCodeword shape.width shape.chains shape.sum row
    → (n : ℕ) × (n < count shape) × (row_of shape n ≡ row) × ((m : ℕ) → m < count shape → row_of shape m ≡ row → m ≡ n)

-- "Rows of l lengths with sum s are numbered from 0 in dictionary order, first length most significant"
abbrev pub Ordered : Type 0
Ordered = (shape : Shape) (m n : ℕ) → m < count shape → n < count shape → (m < n) ↔ Before (row_of shape m) (row_of shape n)

-- "So, past 5, refused exactly if no number has that row": Gather, where 1, 2, 3 and 5 refuse nothing
abbrev pub RankExact : Type 0
RankExact =
    (shape : Shape) (row work : List ℕ) → count_code shape work ≡ 0
    → (rank_code shape row work ≡ 0) ↔ ((n : ℕ) × (n < count shape) × (row_of shape n ≡ row))
