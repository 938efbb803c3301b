-- A number below the count names a codeword, whose number it is; the number of a codeword is below the count.
use mathlib.Core.Path.{◌≡◌, refl, sym, ap, ◌∙◌}
use mathlib.Core.Logic.{◌⊎◌, inl, inr}
use mathlib.Core.List.{List, [], ◌∷◌}
use Prim.Native.Nat.{ℕ, zero, suc, ◌+◌, ◌-◌, ◌<◌, ◌≤◌}
use native.Mathlib.Nat.{zero-add, add-zero, not-suc-le-zero, le_of_suc-le-suc}
use native.Mathlib.Omega.{arith}
use borrow.Author.Tests.{lt-ltb, le-ltb}
use lib.ListN.{length, get_or}
use Rattle.lists.proofs.Numbers.{lt_or_le}
use Rattle.counts.specs.Counts.{sum_to, share, D}
use Rattle.counts.proofs.CountLaws.{share-low, share-high, sum_term}
use Rattle.codewords.specs.Codeword.{Placed, place, codeword, rank, total, IsCodeword}

-- a share that holds the number ends the search
pub place_here : (f : ℕ → ℕ) (tries j n : ℕ) → n < f j → 0 < tries → place f tries j n ≡ record { digit = j; number = n }
unfolding place
place_here f zero j n holds more = absurd (omega arith)
place_here f (suc tries) j n holds more = rw (lt-ltb n (f j) holds)

-- any other is taken off
pub place-next : (f : ℕ → ℕ) (tries j n : ℕ) → f j ≤ n → place f (suc tries) j n ≡ place f tries (suc j) (n - f j)
unfolding place
place-next f tries j n over = rw (le-ltb n (f j) over)

-- a length from `first` to the limit whose share holds what is left of n when the shares before it are taken off
pub record Found (f : ℕ → ℕ) (first limit n : ℕ) (placed : Placed) : Type 0 where
  pub from : first ≤ placed.digit
  pub below : placed.digit < limit
  pub split : n ≡ sum_to f placed.digit + placed.number
  pub holds : placed.number < f placed.digit

-- a search that has taken off the shares before j
place_finds : (f : ℕ → ℕ) (tries j n : ℕ) → sum_to f j + n < sum_to f (j + tries) → Found f j (j + tries) (sum_to f j + n) (place f tries j n)
unfolding sum_to
place_finds f zero j n within = absurd (omega (arith, rw add-zero at within))
place_finds f (suc tries) j n within = by (lt_or_le n (f j)) (place_finds f tries (suc j) (n - f j))
  where
    limit : suc j + tries ≡ j + suc tries
    limit = omega arith

    by : (n < f j) ⊎ (f j ≤ n)
        → (sum_to f j + f j + (n - f j) < sum_to f (suc j + tries)
        → Found f (suc j) (suc j + tries) (sum_to f j + f j + (n - f j)) (place f tries (suc j) (n - f j)))
        → Found f j (j + suc tries) (sum_to f j + n) (place f (suc tries) j n)
    by (inl here) next =
        rw (place_here f (suc tries) j n here (omega arith)) (record { from = omega arith; below = omega arith; split = refl; holds = here })
    by (inr over) next =
        let taken : sum_to f j + f j + (n - f j) ≡ sum_to f j + n = omega arith in
        let found = next (rw (taken, limit) within) in
        rw (place-next f tries j n over)
        (record { from = omega arith; below = omega arith; split = sym taken ∙ found.split; holds = found.holds })

-- a search from the start
place_found : (f : ℕ → ℕ) (w n : ℕ) → n < sum_to f w → Found f 0 w n (place f w 0 n)
unfolding sum_to
place_found f w n within = simp zero-add at (place_finds f w 0 n (simp zero-add within))

-- the first length of the codeword with the number n, and the number of the others
pub record First (w i t n : ℕ) (placed : Placed) : Type 0 where
  pub below : placed.digit < w
  pub within : placed.digit ≤ t
  pub split : n ≡ sum_to (share (D w i) t) placed.digit + placed.number
  pub rest : placed.number < D w i (t - placed.digit)

pub first : (w i t n : ℕ) → n < D w (suc i) t → First w i t n (place (share (D w i) t) w 0 n)
unfolding D
first w i t n h =
    let placed = place (share (D w i) t) w 0 n in
    let found = place_found (share (D w i) t) w n h in
    let within : placed.digit ≤ t = by placed found (lt_or_le t placed.digit) in
    record { below = found.below; within = within; split = found.split; rest = rw (share-low (D w i) t placed.digit within) at found.holds }
  where
    by : (placed : Placed) → Found (share (D w i) t) 0 w n placed → (t < placed.digit) ⊎ (placed.digit ≤ t) → placed.digit ≤ t
    by placed found (inl past) = absurd (omega (arith, share-high (D w i) t placed.digit past))
    by placed found (inr within) = within

-- no lengths: only the sum 0 has a count above 0, and it is 1
none_left : (w t n : ℕ) → n < D w 0 t → (t ≡ 0) × (n ≡ 0)
unfolding D
none_left w zero n h = (refl, omega arith)
none_left w (suc t) n h = absurd (omega arith)

-- a length in front of a codeword
prepend : {w i t a : ℕ} {row : List ℕ} → a < w → a ≤ t → IsCodeword w i (t - a) row → IsCodeword w (suc i) t (a ∷ row)
unfolding total
prepend {w} {i} {t} {a} {row} below within is = record { lengths = record { chains = ap suc is.lengths.chains; digits = digits }; sum = omega arith }
  where
    digits : (c : ℕ) → c < suc i → get_or (a ∷ row) c 0 < w
    digits zero h = below
    digits (suc c) h = is.lengths.digits c (le_of_suc-le-suc h)

-- the number n names a codeword
pub codeword_valid : (w i t n : ℕ) → n < D w i t → IsCodeword w i t (codeword w i t n)
unfolding codeword total
codeword_valid w zero t n h = record { lengths = record { chains = refl; digits = λ c none. absurd (not-suc-le-zero none) }; sum = sym (none_left w t n h).0 }
codeword_valid w (suc i) t n h =
    let head = first w i t n h in
    prepend head.below head.within (codeword_valid w i _ _ head.rest)

-- the number of the codeword with the number n
pub rank-codeword : (w i t n : ℕ) → n < D w i t → rank w t (codeword w i t n) ≡ n
unfolding codeword rank
rank-codeword w zero t n h = omega (arith, (none_left w t n h).1)
rank-codeword w (suc i) t n h =
    let head = first w i t n h in
    rw ((codeword_valid w i _ _ head.rest).lengths.chains, rank-codeword w i _ _ head.rest) (sym head.split)

-- the first length of a codeword, and the others
pub record Front (w t a : ℕ) (row : List ℕ) : Type 0 where
  pub below : a < w
  pub within : a ≤ t
  pub rest : IsCodeword w (length row) (t - a) row

pub front : {w i t a : ℕ} {row : List ℕ} → IsCodeword w i t (a ∷ row) → Front w t a row
unfolding total
front is =
    record {
      below = is.lengths.digits 0 (omega arith);
      within = omega arith;
      rest = record { lengths = record { chains = refl; digits = λ c h. is.lengths.digits (suc c) (omega arith) }; sum = omega arith };
    }

-- the number of a row whose first length is below b is below the shares before b
pub rank_below : {w t a : ℕ} {row : List ℕ} (b : ℕ) → Front w t a row → rank w (t - a) row < D w (length row) (t - a) → a < b
    → rank w t (a ∷ row) < sum_to (share (D w (length row)) t) b
unfolding rank
rank_below {w} {t} {a} {row} b part own less =
    omega (arith, share-low (D w (length row)) t a part.within, sum_term (share (D w (length row)) t) a b less)

-- the number of a codeword is below the count
pub rank_lt : (w i t : ℕ) (row : List ℕ) → IsCodeword w i t row → rank w t row < D w i t
unfolding rank D total
rank_lt w i t [] is = rw (← is.lengths.chains, ← is.sum) (omega arith)
rank_lt w i t (a ∷ row) is =
    let part = front is in
    rw (← is.lengths.chains) (rank_below w part (rank_lt w (length row) (t - a) row part.rest) part.below)
