-- Codewords are numbered in dictionary order, each has one number, and no codeword is at most another at each place.
use mathlib.Core.Path.{◌≡◌, refl, sym, ap, ◌∙◌}
use mathlib.Core.Logic.{◌⊎◌, inl, inr, ⊎_elim, ◌↔◌}
use mathlib.Core.List.{List, [], ◌∷◌}
use Prim.Native.Nat.{ℕ, suc, ◌-◌, ◌<◌, ◌≤◌}
use native.Mathlib.Nat.{eq-or-lt_of_le, le_refl}
use native.Mathlib.Omega.{arith}
use lib.ListN.{length}
use Rattle.lists.proofs.Numbers.{lt_or_le}
use Rattle.counts.specs.Counts.{sum_to, share, D, count}
use Rattle.codewords.specs.Codeword.{Before, codeword, rank, total, IsCodeword, AtMost}
use Rattle.codewords.specs.Operations.{RankUnrank}
use Rattle.codewords.proofs.CodewordLaws.{codeword_valid, rank-codeword, front, rank_below, rank_lt}

-- one row is before the other, or they are the same
abbrev Compared : List ℕ → List ℕ → Type 0
Compared xs ys = Before xs ys ⊎ (xs ≡ ys) ⊎ Before ys xs

compared : (xs ys : List ℕ) → length xs ≡ length ys → Compared xs ys
compared [] [] long = inr (inl refl)
compared [] (b ∷ ys) long = absurd (omega arith)
compared (a ∷ xs) [] long = absurd (omega arith)
compared (a ∷ xs) (b ∷ ys) long = by (lt_or_le a b) (compared xs ys (omega arith))
  where
    at_most : (b ≡ a) ⊎ (b < a) → Compared xs ys → Compared (a ∷ xs) (b ∷ ys)
    at_most (inr more) others = inr (inr (inl more))
    at_most (inl e) (inl before) = inl (inr (sym e, before))
    at_most (inl e) (inr (inl same)) = inr (inl (cc))
    at_most (inl e) (inr (inr after)) = inr (inr (inr (e, after)))

    by : (a < b) ⊎ (b ≤ a) → Compared xs ys → Compared (a ∷ xs) (b ∷ ys)
    by (inl less) others = inl (inl less)
    by (inr over) others = at_most (eq-or-lt_of_le over) others

-- the earlier codeword has the smaller number
before-rank : (w i t : ℕ) (xs ys : List ℕ) → IsCodeword w i t xs → IsCodeword w i t ys → Before xs ys → rank w t xs < rank w t ys
unfolding rank
before-rank w i t [] ys is_x is_y before = absurd before
before-rank w i t (a ∷ xs) [] is_x is_y before = absurd before
before-rank w i t (a ∷ xs) (b ∷ ys) is_x is_y (inl less) =
    let part = front is_x in
    let long : length ys ≡ length xs = omega arith in
    let below : rank w t (a ∷ xs) < sum_to (share (D w (length xs)) t) b = rank_below b part (rank_lt w (length xs) (t - a) xs part.rest) less in
    rw long (omega arith)
before-rank w i t (a ∷ xs) (b ∷ ys) is_x is_y (inr later) =
    let long : length ys ≡ length xs = omega arith in
    let rest-x : IsCodeword w (length xs) (t - b) xs = rw later.0 at (front is_x).rest in
    let rest-y : IsCodeword w (length xs) (t - b) ys = rw long at (front is_y).rest in
    rw (later.0, long) (omega (arith, before-rank w (length xs) (t - b) xs ys rest-x rest-y later.1))

-- two codewords with one number are the same
pub rank_injective : (w i t : ℕ) (xs ys : List ℕ) → IsCodeword w i t xs → IsCodeword w i t ys → rank w t xs ≡ rank w t ys → xs ≡ ys
rank_injective w i t xs ys is_x is_y same =
    ⊎_elim (λ before. absurd (omega (arith, before-rank w i t xs ys is_x is_y before)))
    (⊎_elim (λ e. e) (λ after. absurd (omega (arith, before-rank w i t ys xs is_y is_x after))))
    (compared xs ys (omega arith))

-- the codeword with the number of a codeword
codeword-rank : (w i t : ℕ) (row : List ℕ) → IsCodeword w i t row → codeword w i t (rank w t row) ≡ row
codeword-rank w i t row is =
    let below = rank_lt w i t row is in
    rank_injective w i t (codeword w i t (rank w t row)) row (codeword_valid w i t _ below) is (rank-codeword w i t _ below)

pub rank_unrank : RankUnrank
unfolding count
rank_unrank =
    record {
      ranked = λ shape n below. rank-codeword shape.width shape.chains shape.sum n below;
      unranked = λ shape row is. (rank_lt shape.width shape.chains shape.sum row is, codeword-rank shape.width shape.chains shape.sum row is);
    }

-- the sum of a row that is at most another at each place
total_le : (xs ys : List ℕ) → length xs ≡ length ys → AtMost (length xs) xs ys → total xs ≤ total ys
unfolding total
total_le [] ys long most = omega arith
total_le (a ∷ xs) [] long most = absurd (omega arith)
total_le (a ∷ xs) (b ∷ ys) long most = omega (arith, most 0 (omega arith), total_le xs ys (omega arith) (λ c h. most (suc c) (omega arith)))

-- it is the same, where the sums are
same_total : (xs ys : List ℕ) → length xs ≡ length ys → AtMost (length xs) xs ys → total xs ≡ total ys → xs ≡ ys
unfolding total
same_total [] [] long most same = refl
same_total [] (b ∷ ys) long most same = absurd (omega arith)
same_total (a ∷ xs) [] long most same = absurd (omega arith)
same_total (a ∷ xs) (b ∷ ys) long most same =
    let head : a ≤ b = most 0 (omega arith) in
    let others : AtMost (length xs) xs ys = λ c h. most (suc c) (omega arith) in
    let below : total xs ≤ total ys = total_le xs ys (omega arith) others in
    let first : a ≡ b = omega arith in
    rw (first, same_total xs ys (omega arith) others (omega arith))

-- two numbers below the count, and their codewords
module _ (w i t m n : ℕ) (m-below : m < D w i t) (n-below : n < D w i t) where
  -- a codeword has one number
  pub codeword_injective : codeword w i t m ≡ codeword w i t n → m ≡ n
  codeword_injective same = sym (rank-codeword w i t m m-below) ∙ ap (rank w t) same ∙ rank-codeword w i t n n-below

  -- Claim 1: a codeword is at most another at each place only where the two are one
  pub incomparable : (m ≡ n) ↔ AtMost i (codeword w i t m) (codeword w i t n)
  incomparable =
      let is_m = codeword_valid w i t m m-below in
      let is-n = codeword_valid w i t n n-below in
      let one : AtMost i (codeword w i t m) (codeword w i t n) → codeword w i t m ≡ codeword w i t n =
      λ most. same_total (codeword w i t m) (codeword w i t n) (omega arith) (λ c h. most c (omega (arith, is_m.lengths.chains))) (omega arith) in
      (λ same. rw same (λ c h. le_refl _), λ most. codeword_injective (one most))

  before-number : Before (codeword w i t m) (codeword w i t n) → m < n
  before-number before =
      rw (rank-codeword w i t m m-below, rank-codeword w i t n n-below)
      at (before-rank w i t (codeword w i t m) (codeword w i t n) (codeword_valid w i t m m-below) (codeword_valid w i t n n-below) before)

-- the numbers' order is that of the codewords
pub order : (w i t m n : ℕ) → m < D w i t → n < D w i t → (m < n) ↔ Before (codeword w i t m) (codeword w i t n)
order w i t m n m-below n-below =
    let long = (codeword_valid w i t m m-below).lengths.chains ∙ sym (codeword_valid w i t n n-below).lengths.chains in
    (λ less. by less (compared (codeword w i t m) (codeword w i t n) long), before-number w i t m n m-below n-below)
  where
    by : m < n → Compared (codeword w i t m) (codeword w i t n) → Before (codeword w i t m) (codeword w i t n)
    by less (inl before) = before
    by less (inr (inl same)) = absurd (omega (arith, codeword_injective w i t m n m-below n-below same))
    by less (inr (inr after)) = absurd (omega (arith, before-number w i t n m n-below m-below after))

-- Claim 2: each codeword has a number below the count
pub complete : (w i t : ℕ) (row : List ℕ) → IsCodeword w i t row → (n : ℕ) × (n < D w i t) × (codeword w i t n ≡ row)
complete w i t row is = (rank w t row, rank_lt w i t row is, codeword-rank w i t row is)
