-- Every row lies on one chain, here of rows whose sums rise one by one (de Bruijn, Tengbergen, Kruyswijk). The chain's name and the row's place on it come by
-- recursion on the row; of two rows on one chain one is at most the other, and every chain has a row of the middle sum.
use mathlib.Core.Path.{◌≡◌, refl, sym, ap, ◌∙◌}
use mathlib.Core.Logic.{◌⊎◌, inl, inr, ⊎_elim}
use mathlib.Core.List.{List, [], ◌∷◌}
use Prim.Native.Nat.{ℕ, zero, suc, ◌+◌, ◌-◌, ◌*◌, ◌/◌, ◌≤◌, ◌<◌, min, max}
use native.Mathlib.Nat.{le_refl, le_of_lt, suc-mul}
use native.Mathlib.Omega.{arith}
use lib.ListN.{length, get_or}
use Rattle.lists.proofs.Numbers.{lt_or_le}
use Rattle.codewords.specs.Codeword.{total, IsRow, IsCodeword, AtMost}

-- the last place of the chain with a name; the first is 0
unfoldable last : (w : ℕ) → List ℕ → ℕ
last w [] = 0
last w (j ∷ name) = last w name + (w - 1) - 2 * j

record Located : Type 0 where
  name : List ℕ
  place : ℕ

-- where a row lies
unfoldable locate : (w : ℕ) → List ℕ → Located
locate w [] = record { name = []; place = 0 }
locate w (t ∷ row) =
    let tail = locate w row in
    let j = min t (last w tail.name - tail.place) in
    record { name = j ∷ tail.name; place = tail.place + t - j }

abbrev name_of : (w : ℕ) → List ℕ → List ℕ
name_of w row = (locate w row).name

abbrev place_of : (w : ℕ) → List ℕ → ℕ
place_of w row = (locate w row).place

-- the row at a place: up to the place last − j of the others' chain these rise, from there on the first length does
unfoldable row_at : (w : ℕ) (name : List ℕ) (place : ℕ) → List ℕ
row_at w [] k = []
row_at w (j ∷ name) k = max j (k + 2 * j - last w name) ∷ row_at w name (min k (last w name - j))

-- a name of a chain
abbrev IsName : (w : ℕ) → List ℕ → Type 0
IsName w [] = Unit {0}
IsName w (j ∷ name) = (j < w) × (j ≤ last w name) × IsName w name

-- a lower place has a row that is at most that of a higher one
rising : (w : ℕ) (name : List ℕ) (k m : ℕ) → k ≤ m → (c : ℕ) → get_or (row_at w name k) c 0 ≤ get_or (row_at w name m) c 0
unfolding row_at
rising w [] k m low c = le_refl _
rising w (j ∷ name) k m low zero = omega arith
rising w (j ∷ name) k m low (suc c) = rising w name _ _ (omega arith) c

length-row_at : (w : ℕ) (name : List ℕ) (k : ℕ) → length (row_at w name k) ≡ length name
unfolding row_at
length-row_at w [] k = refl
length-row_at w (j ∷ name) k = ap suc (length-row_at w name _)

-- the lengths of a row on a chain are below w
below-row_at : (w : ℕ) (name : List ℕ) (k : ℕ) → IsName w name → k ≤ last w name → (c : ℕ) → c < length name → get_or (row_at w name k) c 0 < w
unfolding row_at last
below-row_at w [] k is within c h = absurd (omega arith)
below-row_at w (j ∷ name) k is within zero h = omega (arith, is.0, is.1)
below-row_at w (j ∷ name) k is within (suc c) h = below-row_at w name _ is.2 (omega arith) c (omega arith)

-- each place has a sum one more than the place before
total-row_at : (w : ℕ) (name : List ℕ) (k : ℕ) → IsName w name → k ≤ last w name → total (row_at w name k) ≡ total name + k
unfolding row_at last total
total-row_at w [] k is within = omega arith
total-row_at w (j ∷ name) k is within = omega (arith, is.0, is.1, total-row_at w name (min k (last w name - j)) is.2 (omega arith))

-- the sums of a chain lie as far below the middle as above it
symmetric : (w : ℕ) (name : List ℕ) → IsName w name → last w name + 2 * total name ≡ length name * (w - 1)
unfolding last total
symmetric w [] is = omega arith
symmetric w (j ∷ name) is = omega (arith, is.0, is.1, symmetric w name is.2, suc-mul (length name) (w - 1))

-- the first length j of a name, with m the last place of the others: what `locate` makes of the row at the place k
module _ (j k m : ℕ) (low : j ≤ m) where
  same_first : min (max j (k + 2 * j - m)) (m - min k (m - j)) ≡ j
  same_first = omega arith

  same_place : min k (m - j) + max j (k + 2 * j - m) - j ≡ k
  same_place = omega arith

-- the row at a place lies there
locate-row_at : (w : ℕ) (name : List ℕ) (k : ℕ) → IsName w name → k ≤ last w name → locate w (row_at w name k) ≡ record { name = name; place = k }
unfolding locate row_at last
locate-row_at w [] k is within = ap (λ place. record { name = []; place = place }) (omega arith)
locate-row_at w (j ∷ name) k is within =
    rw (locate-row_at w name (min k (last w name - j)) is.2 (omega arith), same_first j k (last w name) is.1, same_place j k (last w name) is.1)

-- a row's first length t, with the others at the place i of m: what `row_at` makes of where the row lies
module _ (t i m j : ℕ) (within : i ≤ m) (first : j ≡ min t (m - i)) where
  row_first : max j (i + t - j + 2 * j - m) ≡ t
  row_first = omega arith

  row_behind : min (i + t - j) (m - j) ≡ i
  row_behind = omega arith

  row_within : (w : ℕ) → t < w → i + t - j ≤ m + (w - 1) - 2 * j
  row_within w below = omega arith

-- a row is the one at its place
record Lies (w : ℕ) (row : List ℕ) : Type 0 where
  named : IsName w (name_of w row)
  within : place_of w row ≤ last w (name_of w row)
  here : row_at w (name_of w row) (place_of w row) ≡ row

lies : (w : ℕ) (row : List ℕ) → ((c : ℕ) → c < length row → get_or row c 0 < w) → Lies w row
unfolding locate row_at last
lies w [] below = record { named = tt; within = le_refl _; here = refl }
lies w (t ∷ row) below =
    let tail = lies w row (λ c h. below (suc c) (omega arith)) in
    let i = place_of w row in
    let m = last w (name_of w row) in
    let t-below : t < w = below 0 (omega arith) in
    record {
      named = (omega arith, omega arith, tail.named);
      within = row_within t i m (min t (m - i)) tail.within refl w t-below;
      here = rw (row_first t i m (min t (m - i)) tail.within refl, row_behind t i m (min t (m - i)) tail.within refl, tail.here);
    }

-- the row with the sum s on the chain of a row
pub middle : (w s : ℕ) → List ℕ → List ℕ
middle w s row = row_at w (name_of w row) (s - total (name_of w row))

module _ (w l s : ℕ) (half : s ≡ l * (w - 1) / 2) where
  -- every chain has one
  record Passes (row : List ℕ) : Type 0 where
    lying : Lies w row
    long : length (name_of w row) ≡ l
    from : total (name_of w row) ≤ s
    upto : s - total (name_of w row) ≤ last w (name_of w row)

  passes : (row : List ℕ) → IsRow w l row → Passes row
  passes row is =
      let name = name_of w row in
      let lying = lies w row (λ c h. is.digits c (omega arith)) in
      let long : length name ≡ l = sym (length-row_at w name (place_of w row)) ∙ ap length lying.here ∙ is.chains in
      let sums : last w name + 2 * total name ≡ l * (w - 1) = symmetric w name lying.named ∙ ap (λ n. n * (w - 1)) long in
      record { lying = lying; long = long; from = omega arith; upto = omega arith }

  pub middle-codeword : (row : List ℕ) → IsRow w l row → IsCodeword w l s (middle w s row)
  unfolding middle
  middle-codeword row is =
      let name = name_of w row in
      let has = passes row is in
      let k = s - total name in
      record {
        lengths = record {
          chains = length-row_at w name k ∙ has.long;
          digits =
              λ c h. below-row_at w name k has.lying.named has.upto c (omega (arith, has.long));
        };
        sum = omega (arith, total-row_at w name k has.lying.named has.upto, has.from);
      }

  -- it tells the chain's name
  name-of-middle : (row : List ℕ) → IsRow w l row → name_of w (middle w s row) ≡ name_of w row
  unfolding middle
  name-of-middle row is =
      let has = passes row is in
      ap (λ x. x.name) (locate-row_at w (name_of w row) (s - total (name_of w row)) has.lying.named has.upto)

  -- so two rows that have the same are on one chain, and one of them is at most the other
  pub same-middle : (xs ys : List ℕ) → IsRow w l xs → IsRow w l ys → middle w s xs ≡ middle w s ys → AtMost l xs ys ⊎ AtMost l ys xs
  same-middle xs ys is_x is_y same =
      let name = name_of w ys in
      let one_name : name_of w xs ≡ name = sym (name-of-middle xs is_x) ∙ ap (name_of w) same ∙ name-of-middle ys is_y in
      let x-here : row_at w name (place_of w xs) ≡ xs = ap (λ n. row_at w n (place_of w xs)) (sym one_name) ∙ (passes xs is_x).lying.here in
      let y-here = (passes ys is_y).lying.here in
      ⊎_elim (λ less. inl (λ c h. rw (x-here, y-here) at (rising w name (place_of w xs) (place_of w ys) (le_of_lt less) c)))
      (λ over. inr (λ c h. rw (x-here, y-here) at (rising w name (place_of w ys) (place_of w xs) over c))) (lt_or_le (place_of w xs) (place_of w ys))
