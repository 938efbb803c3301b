-- Document 02, point 13: the largest code of its length.
use Rattle.std.specs.Prelude.{◌≡◌, List, [], ◌∷◌, ◌++◌, ℕ, zero, suc, ◌-◌, ◌*◌, ◌/◌, ◌≤◌, ◌<◌, length, get_or}
use Rattle.lists.specs.Distinct.{Distinct}
use Rattle.profile.specs.declared.Shape.{Shape}
use Rattle.counts.specs.Counts.{count}
use Rattle.codewords.specs.Codeword.{IsRow, AtMost}
use Rattle.codewords.specs.Operations.{row_of}

-- a code: a "list of distinct rows of l lengths from 0 to w − 1, in which no row is at most another at each place"; another is a row that
-- is not the same
pub record Antichain (w l : ℕ) (rows : List (List ℕ)) : Type 0 where
  pub lengths : (i : ℕ) → i < length rows → IsRow w l (get_or rows i [])
  pub distinct : Distinct [] rows
  pub incomparable : (i j : ℕ) → i < length rows → j < length rows
      → (get_or rows i [] ≡ get_or rows j [] → ⊥) → AtMost l (get_or rows i []) (get_or rows j []) → ⊥

-- the rows of the numbers 0 to n − 1
unfoldable pub rows_below : Shape → ℕ → List (List ℕ)
rows_below shape zero = []
rows_below shape (suc n) = rows_below shape n ++ (row_of shape n ∷ [])

-- "no code with as many chains signs more numbers"
pub record LargestCode : Type 0 where
  -- "For s the whole part of l × (w − 1) / 2, every list … has at most count members": for every l and w, also outside the limits
  pub bound : (shape : Shape) (rows : List (List ℕ)) → shape.sum ≡ shape.chains * (shape.width - 1) / 2
      → Antichain shape.width shape.chains rows → length rows ≤ count shape
  -- the rows of a shape, whatever its sum, are such a list with count members: those of the sum above reach the bound
  pub reached : (shape : Shape)
      → Antichain shape.width shape.chains (rows_below shape (count shape)) × (length (rows_below shape (count shape)) ≡ count shape)
