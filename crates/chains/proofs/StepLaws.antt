-- The steps that the checker makes along a row, one chain after the other.
use mathlib.Core.Path.{◌≡◌, refl}
use mathlib.Core.List.{List, ◌∷◌}
use Prim.Native.Nat.{ℕ, zero, suc, ◌+◌, ◌-◌, ◌<◌}
use native.Mathlib.Numerals.{add-one}
use native.Mathlib.Omega.{arith}
use lib.ListN.{get_or}
use Rattle.chains.specs.Leaves.{steps_to}

module _ (w : ℕ) where
  -- those of the chains so far, with those of the next
  pub steps_next : (row : List ℕ) (c : ℕ) → steps_to w row (c + 1) ≡ steps_to w row c + (w - 1 - get_or row c 0)
  unfolding steps_to
  steps_next row c = rw add-one

  -- those of the first chain, with those of the others
  pub steps_front : (a : ℕ) (row : List ℕ) (l : ℕ) → steps_to w (a ∷ row) (suc l) ≡ (w - 1 - a) + steps_to w row l
  unfolding steps_to
  steps_front a row zero = omega arith
  steps_front a row (suc l) = omega (arith, steps_front a row l)

  -- rows that agree as far as there are chains
  pub steps_cong : (row other : List ℕ) (l : ℕ) → ((c : ℕ) → c < l → get_or row c 0 ≡ get_or other c 0) → steps_to w row l ≡ steps_to w other l
  unfolding steps_to
  steps_cong row other zero same = refl
  steps_cong row other (suc l) same = rw (steps_cong row other l (λ c h. same c (omega arith)), same l (omega arith))
