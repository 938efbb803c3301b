-- The next number of a row, from the number before it and the row above.
use mathlib.Core.Path.{◌≡◌, ◌∙◌, ap}
use mathlib.Core.List.{List}
use Prim.Native.Nat.{ℕ, suc, ◌+◌, ◌-◌, ◌*◌, ◌^◌, ◌<◌, ◌≤◌}
use native.Mathlib.Nat.{suc-mul, mul-le-mul}
use native.Mathlib.Omega.{arith}
use lib.ListN.{take, drop}
use Rattle.numbers.specs.Number.{value}
use Rattle.numbers.proofs.NumberLaws.{value_to_words_5}
use Rattle.counts.specs.Counts.{share, D}
use Rattle.counts.specs.Table.{rows}
use Rattle.counts.proofs.CountLaws.{share-low, share-high, D-window, D-small, D-sum-small}
use Rattle.counts.proofs.TableLaws.{cell_of}

-- a row's start is one row behind that of the row above
pub row_start : (i s : ℕ) → 0 < i → i * (s + 1) ≡ (i - 1) * (s + 1) + (s + 1)
row_start i s h = let e : i ≡ suc (i - 1) = omega arith in ap (λ k. k * (s + 1)) e ∙ suc-mul (i - 1) (s + 1)

-- a row's start is small
pub row_small : (i s : ℕ) → i ≤ 41 → s ≤ 600 → i * (s + 1) ≤ 24641
row_small i s hi hs = mul-le-mul {n₂ = 41} {m₂ = 601} hi (omega arith)

-- a row i below the first, and a place t
module _ (w i t : ℕ) (one : 1 ≤ w) (narrow : w ≤ 16) (some : 0 < i) (few : i ≤ 40) where
  lower : i ≡ suc (i - 1)
  lower = omega arith

  -- a number of the row above, read from a work slice that holds the rows above i
  pub above : (s u : ℕ) (table : List ℕ) → take (5 * (i * (s + 1))) table ≡ rows w s i → u ≤ s
      → value (take 5 (drop (5 * ((i - 1) * (s + 1) + u)) table)) ≡ D w (i - 1) u
  above s u table e h =
      ap value (cell_of w s i (i - 1) u table e (omega arith) (omega arith)) ∙ value_to_words_5 (D w (i - 1) u) (D-small w (i - 1) u one narrow (omega arith))

  slides : D w i t + share (D w (i - 1)) t w ≡ share (D w i) t 1 + D w (i - 1) t
  slides = rw (← lower) at (D-window w (i - 1) t one)

  -- the number before, and the one above, which comes into the window
  module _ (before up : ℕ) (p : before ≡ share (D w i) t 1) (q : up ≡ D w (i - 1) t) where
    pub grown-fits : before + up < 2 ^ 160
    grown-fits = rw (p, q) (rw (← lower) at (D-sum-small w (i - 1) t narrow (omega arith)))

    -- nothing falls out of the window yet
    pub grown : (r : ℕ) → t < w → r ≡ before + up → r ≡ D w i t
    grown r h e = omega (arith, slides, share-high (D w (i - 1)) t w h)

    -- a number falls out of it
    module _ (out sum : ℕ) (h : w ≤ t) (e : out ≡ D w (i - 1) (t - w)) (f : sum ≡ before + up) where
      whole : D w i t + out ≡ sum
      whole = omega (arith, slides, share-low (D w (i - 1)) t w h)

      pub out_within : out ≤ sum
      out_within = omega (arith, whole)

      pub shrunk : (r : ℕ) → r + out ≡ sum → r ≡ D w i t
      shrunk r g = omega (arith, whole)
