-- The search for a length, step by step, and the codeword that grows by the lengths found.
use mathlib.Core.Path.{◌≡◌, ◌∙◌, ap, sym}
use mathlib.Core.Bool.{true, false}
use mathlib.Core.Logic.{⊎_elim}
use mathlib.Core.List.{List, ◌∷◌, ◌++◌, append_assoc}
use Prim.Native.Nat.{ℕ, zero, suc, ◌+◌, ◌-◌, ◌^◌, ◌<◌, ◌≤◌}
use native.Mathlib.Nat.{add-zero, add-suc, lt_of_le_of_lt, sub-le}
use native.Mathlib.Numerals.{add-one}
use native.Mathlib.Omega.{arith}
use borrow.Author.Tests.{ltb-true, ltb-false}
use lib.Dec.{ltb}
use lib.ListN.{length, take, set}
use lib.Seq.{take-suc-set}
use Rattle.numbers.specs.Number.{value, to_words}
use Rattle.numbers.proofs.NumberLaws.{value_to_words_5}
use Rattle.lists.proofs.Numbers.{lt_or_le}
use Rattle.counts.specs.Counts.{sum_to, share, D}
use Rattle.counts.proofs.CountLaws.{sum_to_mono, share-low, share-high, D-small}
use Rattle.codewords.specs.Codeword.{place, codeword}
use Rattle.codewords.proofs.CodewordLaws.{place_here, place-next, first}

-- shares past the sum add nothing
past : (f : ℕ → ℕ) (t j n : ℕ) → t < j → sum_to (share f t) (j + n) ≡ sum_to (share f t) j
unfolding sum_to
past f t j zero h = rw add-zero
past f t j (suc n) h = rw (add-suc j n, share-high f t (j + n) (omega arith), past f t j n h) (add-zero (sum_to (share f t) j))

-- while the skipped shares are not all, the length is one that can be placed
pub still : (f : ℕ → ℕ) (t w j n m : ℕ) → sum_to (share f t) j + m ≡ n → n < sum_to (share f t) w → (j < w) × (j ≤ t)
still f t w j n m e h =
    let below : j < w = ⊎_elim (λ l. l) (λ g. absurd (omega (arith, sum_to_mono (share f t) w j g))) (lt_or_le j w) in
    let rest : j + (w - j) ≡ w = omega arith in
    let within : j ≤ t =
    ⊎_elim (λ l. absurd (omega (arith, rw rest at (past f t j (w - j) l)))) (λ g. g) (lt_or_le t j) in
    (below, within)

-- a share is taken off
module _ (f : ℕ → ℕ) (w j m : ℕ) (room : j < w) (more : f j ≤ m) where
  pub skipped : sum_to f (j + 1) + (m - f j) ≡ sum_to f j + m
  unfolding sum_to
  skipped = rw add-one (omega arith)

  pub searched : place f (w - j) j m ≡ place f (w - (j + 1)) (j + 1) (m - f j)
  searched =
      let left : w - j ≡ suc (w - (j + 1)) = omega arith in
      rw (left, add-one) (place-next f (w - suc j) j m more)

-- a share holds the number
pub found : (f : ℕ → ℕ) (w j m : ℕ) → j < w → m < f j → place f (w - j) j m ≡ record { digit = j; number = m }
found f w j m room h = place_here f (w - j) j m h (omega arith)

-- the codeword of i + 1 lengths from the length found
module _ (w i t n j m : ℕ) (e : place (share (D w i) t) w 0 n ≡ record { digit = j; number = m }) where
  codeword-next : codeword w (suc i) t n ≡ j ∷ codeword w i (t - j) m
  unfolding codeword
  codeword-next = rw e

  pub number-next : n < D w (suc i) t → m < D w i (t - j)
  number-next h = rw e at (first w i t n h).rest

  -- the length is written behind those that are there
  pub row_next : (row whole : List ℕ) (k : ℕ) → k < length row → take k row ++ codeword w (suc i) t n ≡ whole
      → take (k + 1) (set row k j) ++ codeword w i (t - j) m ≡ whole
  row_next row whole k h p =
      rw (add-one k, take-suc-set row k j h, append_assoc) (ap (λ l. take k row ++ l) (sym codeword-next) ∙ p)

-- a number of the table that is read, compared and taken off
module _ (w i t j : ℕ) (one : 1 ≤ w) (narrow : w ≤ 16) (few : i ≤ 40) (within : j ≤ t) (n s : List ℕ) (p : s ≡ to_words 5 (D w i (t - j))) where
  share-is : value s ≡ share (D w i) t j
  share-is = ap value p ∙ value_to_words_5 (D w i (t - j)) (D-small w i (t - j) one narrow few) ∙ sym (share-low (D w i) t j within)

  pub holds : ltb (value n) (value s) ≡ true → value n < share (D w i) t j
  holds e = rw share-is at (ltb-true (value n) (value s) e)

  pub too_small : ltb (value n) (value s) ≡ false → share (D w i) t j ≤ value n
  too_small e = rw share-is at (ltb-false (value n) (value s) e)

  pub taken_off : (r : List ℕ) → value n < 2 ^ 160 → r ≡ to_words 5 (value n - value s) → value r ≡ value n - share (D w i) t j
  taken_off r small e =
      ap value e ∙ value_to_words_5 (value n - value s) (lt_of_le_of_lt (sub-le (value n) (value s)) small) ∙ ap (λ k. value n - k) share-is
