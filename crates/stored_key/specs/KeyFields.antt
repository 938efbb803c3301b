-- The fields of a stored key behind its kind, document 02, point 5: "l, w, h, s (2), public seed, secret seed, next leaf (4), mark (00 or
-- 01)". Where each stands, and how many bytes they have together, follows from this list.
use Rattle.std.specs.Prelude.{List, [], ◌∷◌, ℕ, ◌+◌, get_or, take, drop}

-- how many bytes each field has, in their order
abbrev pub field_sizes : List ℕ
field_sizes = 1 ∷ 1 ∷ 1 ∷ 2 ∷ 16 ∷ 16 ∷ 4 ∷ 1 ∷ []

-- the fields by their numbers in the list: "l"
abbrev pub chains_field : ℕ
chains_field = 0

-- "w"
abbrev pub width_field : ℕ
width_field = 1

-- "h"
abbrev pub height_field : ℕ
height_field = 2

-- "s (2)"
abbrev pub sum_field : ℕ
sum_field = 3

-- "public seed"
abbrev pub seed_field : ℕ
seed_field = 4

-- "secret seed"
abbrev pub secret_field : ℕ
secret_field = 5

-- "next leaf (4)"
abbrev pub next_field : ℕ
next_field = 6

-- "mark (00 or 01)"
abbrev pub mark_field : ℕ
mark_field = 7

-- how many bytes fields have together
abbrev pub bytes_of : List ℕ → ℕ
bytes_of [] = 0
bytes_of (n ∷ more) = n + bytes_of more

-- where a field begins: behind the bytes of those before it
abbrev pub offset : (field : ℕ) → ℕ
offset field = bytes_of (take field field_sizes)

-- how many bytes the fields have; behind them stands the edition's byte, where there is one
abbrev pub key_length : ℕ
key_length = bytes_of field_sizes

-- the bytes of a field
abbrev pub field_in : (field : ℕ) (bytes : List ℕ) → List ℕ
field_in field bytes = take (get_or field_sizes field 0) (drop (offset field) bytes)

-- the byte of a field that has one
abbrev pub byte_in : (field : ℕ) (bytes : List ℕ) → ℕ
byte_in field bytes = get_or bytes (offset field) 0
