-- The largest code of its length: on each chain of rows stands one row of the middle sum, and at most one of a code.
use mathlib.Core.Path.{◌≡◌, refl, sym, ap, ◌∙◌}
use mathlib.Core.Logic.{⊎_elim}
use mathlib.Core.List.{List, [], ◌∷◌, map}
use Prim.Native.Nat.{ℕ, zero, suc, ◌-◌, ◌*◌, ◌/◌, ◌≤◌, ◌<◌}
use native.Mathlib.Nat.{eq-or-lt_of_le, le_of_suc-le-suc, le_refl, lt_trans}
use native.Mathlib.Omega.{arith}
use lib.ListN.{length, get_or, length-append, length-map, get_or-map, get_or-append}
use lib.Seq.{get_or_at}
use Rattle.lists.specs.Distinct.{Distinct}
use Rattle.lists.proofs.DistinctLaws.{pigeonhole, distinct-map}
use Rattle.profile.specs.declared.Shape.{Shape}
use Rattle.counts.specs.Counts.{count}
use Rattle.codewords.specs.Codeword.{rank, AtMost}
use Rattle.codewords.specs.Operations.{row_of}
use Rattle.codewords.proofs.CodewordLaws.{rank_lt}
use Rattle.codewords.proofs.OrderLaws.{rank_injective, incomparable}
use Rattle.codewords.proofs.RowLaws.{row_valid}
use Rattle.claims.specs.Largest.{Antichain, rows_below, LargestCode}
use Rattle.claims.proofs.SymmetricChains.{middle, middle-codeword, same-middle}

module _ (p : Shape) (rows : List (List ℕ)) (half : p.sum ≡ p.chains * (p.width - 1) / 2) (code : Antichain p.width p.chains rows) where
  abbrev w : ℕ
  w = p.width

  abbrev l : ℕ
  l = p.chains

  abbrev s : ℕ
  s = p.sum

  apart : Distinct [] rows
  apart = code.distinct

  -- the number of the row of the middle sum on a row's chain
  number : List ℕ → ℕ
  number row = rank w s (middle w s row)

  number-below : (i : ℕ) → i < length rows → number (get_or rows i []) < count p
  unfolding count number
  number-below i h = rank_lt w l s _ (middle-codeword w l s half (get_or rows i []) (code.lengths i h))

  -- no two rows have the same number: they would be on one chain, and one of them at most the other
  number-apart : (i j : ℕ) → i < j → j < length rows → number (get_or rows i []) ≡ number (get_or rows j []) → ⊥
  unfolding number
  number-apart i j less h-j same =
      let h-i = lt_trans less h-j in
      let xs = get_or rows i [] in
      let ys = get_or rows j [] in
      let is_x = code.lengths i h-i in
      let is_y = code.lengths j h-j in
      let one = rank_injective w l s (middle w s xs) (middle w s ys) (middle-codeword w l s half xs is_x) (middle-codeword w l s half ys is_y) same in
      let other = apart i j less h-j in
      ⊎_elim (λ most. code.incomparable i j h-i h-j other most) (λ most. code.incomparable j i h-j h-i (λ e. other (sym e)) most)
      (same-middle w l s half xs ys is_x is_y one)

  bound : length rows ≤ count p
  bound =
      let long = length-map rows number in
      rw long at (pigeonhole (count p) (number []) (map number rows) (distinct-map number [] rows number-apart)
      (λ i h. rw (get_or-map number rows i []) (number-below i (rw long at h))))

length-rows : (p : Shape) (n : ℕ) → length (rows_below p n) ≡ n
unfolding rows_below
length-rows p zero = refl
length-rows p (suc n) = length-append (rows_below p n) (row_of p n ∷ []) ∙ omega (arith, length-rows p n)

-- each place has the row of its number
row_there : (p : Shape) (n i : ℕ) → i < n → get_or (rows_below p n) i [] ≡ row_of p i
unfolding rows_below
row_there p zero i h = absurd (omega arith)
row_there p (suc n) i h =
    ⊎_elim (λ e. get_or_at (rows_below p n) (row_of p n) [] [] i (length-rows p n ∙ sym e) ∙ ap (row_of p) (sym e))
    (λ less. get_or-append (rows_below p n) (row_of p n ∷ []) [] i (omega (arith, length-rows p n)) ∙ row_there p n i less)
    (eq-or-lt_of_le (le_of_suc-le-suc h))

-- the rows of a shape are a code, by demand 3's first sentence
module _ (p : Shape) where
  abbrev all : List (List ℕ)
  all = rows_below p (count p)

  below : (i : ℕ) → i < length all → i < count p
  below i h = omega (arith, length-rows p (count p))

  there : (i : ℕ) → i < length all → get_or all i [] ≡ row_of p i
  there i h = row_there p (count p) i (below i h)

  one_place : (i j : ℕ) → i < length all → j < length all → AtMost p.chains (get_or all i []) (get_or all j []) → i ≡ j
  unfolding count
  one_place i j h-i h-j most = (incomparable p.width p.chains p.sum i j (below i h-i) (below j h-j)).1 (rw (there i h-i, there j h-j) at most)

  rows_code : Antichain p.width p.chains all
  rows_code =
      record {
        lengths = λ i h. rw (there i h) (row_valid p i (below i h)).lengths;
        distinct = λ i j less h same. absurd (omega (arith, one_place i j (lt_trans less h) h (rw same (λ c within. le_refl _))));
        incomparable = λ i j h-i h-j other most. other (ap (λ n. get_or all n []) (one_place i j h-i h-j most));
      }

pub largest-code : LargestCode
largest-code = record { bound = bound; reached = λ p. (rows_code p, length-rows p (count p)) }
