-- Lists without repetition: their images, and how long they can be.
use mathlib.Core.Path.{◌≡◌, refl, sym, ◌∙◌}
use mathlib.Core.Bool.{Bool, true, false, cond}
use mathlib.Core.List.{List, map}
use Prim.Native.Nat.{ℕ, zero, suc, ◌≤◌, ◌<◌, zero-le, suc-le-suc}
use native.Mathlib.Nat.{le_refl}
use native.Mathlib.Omega.{arith}
use borrow.Author.Tests.{eqb-true, eqb-false}
use lib.Dec.{eqb}
use lib.ListN.{length, get_or, length-map, get_or-map}
use Rattle.lists.specs.Distinct.{Distinct}

-- k different numbers below n: where one of the first k − 1 is n − 1, the last stands in for it, and the others are below n − 1
numbers-below : (n k : ℕ) (f : ℕ → ℕ) → ((i : ℕ) → i < k → f i < n) → ((i j : ℕ) → i < j → j < k → f i ≡ f j → ⊥) → k ≤ n
numbers-below n zero f below apart = zero-le
numbers-below zero (suc k) f below apart = absurd (omega (arith, below k (le_refl _)))
numbers-below (suc n) (suc k) f below apart = suc-le-suc (numbers-below n k g g-below g-apart)
  where
    or_last : Bool → ℕ → ℕ
    or_last here i = cond here (f k) (f i)

    g : ℕ → ℕ
    g i = or_last (eqb (f i) n) i

    g-below : (i : ℕ) → i < k → g i < n
    g-below i h = by (eqb (f i) n) refl
      where
        by : (here : Bool) → eqb (f i) n ≡ here → or_last here i < n
        by true test =
            let other : f k ≡ n → ⊥ = λ e. apart i k h (le_refl _) (eqb-true (f i) n test ∙ sym e) in
            omega (arith, below k (le_refl _), other)
        by false test = omega (arith, below i (omega arith), eqb-false (f i) n test)

    g-apart : (i j : ℕ) → i < j → j < k → g i ≡ g j → ⊥
    g-apart i j less h = by (eqb (f i) n) (eqb (f j) n) refl refl
      where
        by : (a b : Bool) → eqb (f i) n ≡ a → eqb (f j) n ≡ b → or_last a i ≡ or_last b j → ⊥
        by true true at_i at_j same = apart i j less (omega arith) (eqb-true (f i) n at_i ∙ sym (eqb-true (f j) n at_j))
        by true false at_i at_j same = apart j k h (le_refl _) (sym same)
        by false true at_i at_j same = apart i k (omega arith) (le_refl _) same
        by false false at_i at_j same = apart i j less (omega arith) same

-- a list of different numbers below n has at most n members
pub pigeonhole : (n d : ℕ) (l : List ℕ) → Distinct d l → ((i : ℕ) → i < length l → get_or l i d < n) → length l ≤ n
pigeonhole n d l apart below = numbers-below n (length l) (λ i. get_or l i d) below apart

-- a list's image has no repetition, where the function takes no two of its places to the same
pub distinct-map : {A B : Type 0} (f : A → B) (d : A) (l : List A) → ((i j : ℕ) → i < j → j < length l → f (get_or l i d) ≡ f (get_or l j d) → ⊥)
    → Distinct (f d) (map f l)
distinct-map f d l injective i j less h same = injective i j less (rw (length-map l f) at h) (sym (get_or-map f l i d) ∙ same ∙ get_or-map f l j d)
