-- Document 01, Counts and rows: the table in the work slice.
use Rattle.std.specs.Prelude.{◌≡◌, Bool, ◌||◌, cond, List, [], ◌∷◌, ◌++◌, ℕ, zero, suc, ◌+◌, ◌*◌, ltb, eqb, take, drop}
use Rattle.numbers.specs.Number.{to_words}
use Rattle.profile.specs.Checks.{profile_causes}
use Rattle.profile.specs.declared.Shape.{Shape}
use Rattle.profile.specs.declared.Profile.{Profile}
use Rattle.counts.specs.Counts.{D}

-- f 0, …, f (n − 1), "five words each"
unfoldable pub cells : (ℕ → ℕ) → ℕ → List ℕ
cells f zero = []
cells f (suc n) = cells f n ++ to_words 5 (f n)

-- the first n rows of the table: "row i after row i − 1", each of s + 1 numbers
unfoldable pub rows : (w s n : ℕ) → List ℕ
rows w s zero = []
rows w s (suc n) = rows w s n ++ cells (D w n) (s + 1)

-- "The table has (l + 1) × (s + 1) numbers"
unfoldable pub table_length : Shape → ℕ
table_length shape = 5 * ((shape.chains + 1) * (shape.sum + 1))

-- the work slice with the table in it; "Words … past the named length never change"
unfoldable pub with_table : Shape → List ℕ → List ℕ
with_table shape work = rows shape.width shape.sum (shape.chains + 1) ++ drop (table_length shape) work

-- "profile checks, 5" (Reveal, Recover, Sign, Check)
unfoldable pub table_causes : Profile → (words : ℕ) → List (Bool × ℕ)
table_causes p words = profile_causes p ++ ((ltb words (table_length p.shape), 5) ∷ [])

-- "Every refusal leaves all lent slices untouched, except that 7 and 15 leave the table in the work slice, as every success with a work
-- slice does"; document 02, point 3: 19 "with the table left in the work slice"
abbrev pub leaves_table : (code : ℕ) → Bool
leaves_table code = eqb code 0 || eqb code 7 || eqb code 15 || eqb code 19

-- what a work slice holds after a call with a code
unfoldable pub table_after : (code : ℕ) → Shape → (work : List ℕ) → List ℕ
table_after code shape work = cond (leaves_table code) (with_table shape work) work

-- a work slice that begins with the table
unfoldable pub Holds : Shape → (work : List ℕ) → Type 0
Holds shape work = take (table_length shape) work ≡ rows shape.width shape.sum (shape.chains + 1)
