-- Document 02, point 2: comparing two numbers of five words, least word first.
use Rattle.std.specs.Prelude.{◌≡◌, ℕ, zero, suc, ◌-◌, ◌^◌, ◌<◌, cond, List, [], ◌∷◌, ◌++◌, length, ◌==◌, nat_lt, slice_index}
use Rattle.std.proofs.Math.Option.{Option, none, some}
use Rattle.numbers.specs.Number.{value}
use Rattle.std.specs.declared.cmp.Ordering.{Ordering}
use Rattle.std.specs.declared.cmp.Ordering.TheVariants.{Less, Equal, Greater}
use Rattle.numbers.specs.declared.number.Compared.{Compared}

-- the number of an order: 0 the first is less, 1 equal, 2 the first is greater
abbrev pub order_code : Ordering → ℕ
order_code Less = 0
order_code Equal = 1
order_code Greater = 2

-- the order of two numbers
abbrev pub order_of : ℕ → ℕ → ℕ
order_of m n = cond (nat_lt m n) 0 (cond (nat_lt n m) 2 1)

-- The walk over the k lowest places, as the places whose words are looked at: from the highest down, one more pair a step, and no further
-- than the first
-- two words that differ.
unfoldable pub walk_below : ℕ → (a b : List ℕ) → List ℕ
walk_below zero a b = []
walk_below (suc i) a b = i ∷ cond (slice_index a i == slice_index b i) (walk_below i a b) []

-- the walk that comparing two numbers makes
abbrev pub walk : (a b : List ℕ) → List ℕ
walk a b = walk_below 5 a b

-- of the words at the k lowest places, the highest place at which they differ, from 0, or none
unfoldable pub highest_below : ℕ → (a b : List ℕ) → Option ℕ
highest_below zero a b = none
highest_below (suc i) a b = cond (slice_index a i == slice_index b i) (highest_below i a b) (some i)

-- "the highest word that differs"
abbrev pub highest_differing : (a b : List ℕ) → Option ℕ
highest_differing a b = highest_below 5 a b

-- "the number of word pairs looked at …: 5 less that word's place from 0, or 5 when none differs"
abbrev pub pairs_looked : Option ℕ → ℕ
pairs_looked (some place) = 5 - place
pairs_looked none = 5

-- the order that is found at that word
abbrev pub order_at : Option ℕ → (a b : List ℕ) → ℕ
order_at (some place) a b = order_of (slice_index a place) (slice_index b place)
order_at none a b = 1

-- what comparing two numbers gives: the order of their values, and the pairs looked at
pub record Compares (a b : List ℕ) (r : Compared) : Type 0 where
  pub order : order_code r.order ≡ order_of (value a) (value b)
  pub looked : r.looked ≡ pairs_looked (highest_differing a b)

-- where the walk ends, and how many pairs it has
pub record WalkEnds : Type 0 where
  -- "shall end at the highest word that differs": its last pair is of that word
  pub ends : (a b : List ℕ) (place : ℕ) → highest_differing a b ≡ some place → (before : List ℕ) × (walk a b ≡ before ++ (place ∷ []))
  -- the document's formula
  pub counted : (a b : List ℕ) → length (walk a b) ≡ pairs_looked (highest_differing a b)

-- the order found at the highest word that differs is the order of the values
abbrev pub HighestDecides : Type 0
HighestDecides =
    (a b : List ℕ) → length a ≡ 5 → length b ≡ 5 → ((i : ℕ) → slice_index a i < 2 ^ 32) → ((i : ℕ) → slice_index b i < 2 ^ 32)
    → order_at (highest_differing a b) a b ≡ order_of (value a) (value b)
