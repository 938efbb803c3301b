-- Lists: a part, its length and its elements written out, an element that is there, and elements that are all below a bound.
use mathlib.Core.Path.{◌≡◌, refl, sym, ap, ◌∙◌}
use mathlib.Core.Bool.{Bool, true, false, ◌&&◌}
use mathlib.Core.List.{List, [], ◌∷◌, ◌++◌}
use Prim.Native.Nat.{ℕ, zero, suc, ◌+◌, ◌^◌, ◌≤◌, ◌<◌}
use native.Mathlib.Nat.{add-zero}
use native.Mathlib.Numerals.{add-one, add-two}
use native.Mathlib.Omega.{arith}
use lib.Dec.{T, ltb, ltb→lt}
use lib.ListN.{length, get_or, take, drop, length-drop}
use lib.Seq.{drop-cons, get_or-drop, length-take-le, take-length}
use mir.Syntax.{Width}
use mir.Val.{Fits, bits}

and_left : (a b : Bool) → T (a && b) → T a
and_left true b t = tt
and_left false b t = t

and_right : (a b : Bool) → T (a && b) → T b
and_right true b t = t
and_right false b t = absurd t

-- n values of f, from f k on
abbrev listed : {A : Type 0} → (ℕ → A) → ℕ → ℕ → List A
listed f k zero = []
listed f k (suc n) = f k ∷ listed f (k + 1) n

module _ {A : Type 0} (d : A) (l : List A) (at : ℕ) where
  part-from : (k n : ℕ) → at + k + n ≤ length l → take n (drop (at + k) l) ≡ listed (λ j. get_or l (at + j) d) k n
  part-from k zero h = refl
  part-from k (suc n) h =
      let next : at + (k + 1) ≡ suc (at + k) = omega arith in
      rw (drop-cons l (at + k) d (omega arith), ← next, part-from (k + 1) n (omega arith))

  -- the n elements from index `at` on
  part : (n : ℕ) → at + n ≤ length l → take n (drop at l) ≡ listed (λ j. get_or l (at + j) d) 0 n
  part n h = rw add-zero at (part-from 0 n (omega arith))

  pub part_4 : at + 4 ≤ length l → take 4 (drop at l) ≡ get_or l at d ∷ get_or l (at + 1) d ∷ get_or l (at + 2) d ∷ get_or l (at + 3) d ∷ []
  part_4 h = part 4 h ∙ rw add-zero

  pub part_5 : at + 5 ≤ length l → take 5 (drop at l) ≡ get_or l at d ∷ get_or l (at + 1) d ∷ get_or l (at + 2) d ∷ get_or l (at + 3) d ∷ get_or l (at + 4) d ∷ []
  part_5 h = part 5 h ∙ rw add-zero

  -- two elements in front of what is behind them
  pub drop-two : at + 2 ≤ length l → drop at l ≡ get_or l at d ∷ get_or l (at + 1) d ∷ drop (at + 2) l
  drop-two h = rw (drop-cons l at d (omega arith), add-one, add-two, drop-cons l (suc at) d (omega arith))

-- a list of five, written out
pub five : {A : Type 0} (d : A) (l : List A) → length l ≡ 5 → l ≡ get_or l 0 d ∷ get_or l 1 d ∷ get_or l 2 d ∷ get_or l 3 d ∷ get_or l 4 d ∷ []
five d l long = sym (ap (λ k. take k l) (sym long) ∙ take-length l) ∙ part_5 d l 0 (omega arith)

pub length_part : {A : Type 0} (l : List A) (at n : ℕ) → at + n ≤ length l → length (take n (drop at l)) ≡ n
length_part l at n h = length-take-le n (drop at l) (omega (arith, length-drop at l))

-- an element other than the default is there
pub get_or-within : (l : List ℕ) (i : ℕ) → 0 < get_or l i 0 → i < length l
get_or-within [] i h = absurd (omega arith)
get_or-within (x ∷ l) zero h = omega arith
get_or-within (x ∷ l) (suc i) h = omega (arith, get_or-within l i h)

pub get_or_only : (x i : ℕ) → i < length (x ∷ []) → get_or (x ∷ []) i 0 ≡ x
get_or_only x zero h = refl
get_or_only x (suc i) h = absurd (omega arith)

-- every element is below m
abbrev pub Below : ℕ → List ℕ → Type 0
Below m l = (i : ℕ) → get_or l i 0 < m

-- the same as a test, for a list that is written out
abbrev all_below : ℕ → List ℕ → Bool
all_below m [] = ltb 0 m
all_below m (x ∷ xs) = ltb x m && all_below m xs

pub below-by_test : (m : ℕ) (l : List ℕ) → T (all_below m l) → Below m l
below-by_test m [] t i = ltb→lt 0 m t
below-by_test m (x ∷ xs) t zero = ltb→lt x m (and_left (ltb x m) (all_below m xs) t)
below-by_test m (x ∷ xs) t (suc i) = below-by_test m xs (and_right (ltb x m) (all_below m xs) t) i

-- the elements of an array or a slice, each of which fits its type
pub below-fits : (w : Width) (l : List ℕ) → ((i : ℕ) → Fits w (get_or l i 0)) → Below (2 ^ bits w) l
below-fits w l h i = (h i).fits

-- of lists joined and cut
pub below_cons : (m x : ℕ) (l : List ℕ) → x < m → Below m l → Below m (x ∷ l)
below_cons m x l h p zero = h
below_cons m x l h p (suc i) = p i

pub below-append : (m : ℕ) (a b : List ℕ) → Below m a → Below m b → Below m (a ++ b)
below-append m [] b p q = q
below-append m (x ∷ a) b p q = below_cons m x (a ++ b) (p 0) (below-append m a b (λ j. p (suc j)) q)

pub below-behind : (m : ℕ) (a b : List ℕ) → Below m (a ++ b) → Below m b
below-behind m [] b p = p
below-behind m (x ∷ a) b p = below-behind m a b (λ j. p (suc j))

pub below-take : (m n : ℕ) (l : List ℕ) → 0 < m → Below m l → Below m (take n l)
below-take m zero l h p = λ i. h
below-take m (suc n) [] h p = λ i. h
below-take m (suc n) (x ∷ l) h p = below_cons m x (take n l) (p 0) (below-take m n l h (λ j. p (suc j)))

pub below-drop : (m n : ℕ) (l : List ℕ) → Below m l → Below m (drop n l)
below-drop m n l p i = rw get_or-drop (p (n + i))
