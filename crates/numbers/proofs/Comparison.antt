-- A comparison of numbers in words, least first: the highest words that differ decide, and the walk down from the highest words ends there.
use Rattle.std.proofs.Common.{◌≡◌, ℕ, zero, suc, ◌+◌, ◌^◌, ◌<◌, ◌≤◌, Bool, true, false, eqb, ◌⊎◌, List, [], ◌∷◌, ◌++◌, length, get_or, drop, sym, refl, ap, ◌∙◌, inl, inr, le_of_eq, le_refl, le_of_suc-le-suc, not-suc-le-zero, le_of_lt, arith, drop_of_length-le, drop-cons, le-ltb, lt-ltb, eq-eqb, ne_eqb, eqb-true}
use mathlib.Core.Option.{Option, none, some}
use borrow.Author.Tests.{eqb-false}
use Rattle.std.specs.Ordering.{nat_cmp}
use Rattle.std.proofs.lemmas.Grind.{common_steps}
use Rattle.numbers.specs.Number.{value}
use Rattle.numbers.specs.Order.{order_code, order_of, order_at, walk_below, highest_below, highest_differing, pairs_looked, WalkEnds, HighestDecides}
use Rattle.lists.proofs.Lists.{Below}
use Rattle.lists.proofs.Numbers.{lt_or_le}

-- the three orders
pub order_below : {m n : ℕ} → m < n → order_of m n ≡ 0
order_below {m} {n} less = rw (lt-ltb m n less)

pub order_equal : {m n : ℕ} → m ≡ n → order_of m n ≡ 1
order_equal {m} {n} same = rw (same, le-ltb n n (le_refl n))

pub order-above : {m n : ℕ} → n < m → order_of m n ≡ 2
order-above {m} {n} more = rw (le-ltb m n (le_of_lt more), lt-ltb n m more)

-- what `cmp` answers is the order
pub order_of_cmp : (m n : ℕ) → order_code (nat_cmp m n) ≡ order_of m n
order_of_cmp m n = grind (arith, common_steps)

-- below place 0 no words differ
pub highest-none : (a b : List ℕ) → highest_below 0 a b ≡ none
unfolding highest_below
highest-none a b = refl

-- where the words at place i are the same, the highest that differ are below it; else they are the highest
pub highest-lower : (a b : List ℕ) (i : ℕ) → get_or a i 0 ≡ get_or b i 0 → highest_below (suc i) a b ≡ highest_below i a b
unfolding highest_below
highest-lower a b i same = rw (eq-eqb _ _ same)

pub highest-here : (a b : List ℕ) (i : ℕ) → (get_or a i 0 ≡ get_or b i 0 → ⊥) → highest_below (suc i) a b ≡ some i
unfolding highest_below
highest-here a b i differ = rw (ne_eqb _ _ differ)

-- the walk below place 0 looks at no words
pub walk_none : (a b : List ℕ) → length (walk_below 0 a b) ≡ 0
unfolding walk_below
walk_none a b = refl

-- where the words at place i are the same, it looks at one pair more than the walk below; else at this pair alone
pub walk-lower : (a b : List ℕ) (i : ℕ) → get_or a i 0 ≡ get_or b i 0 → walk_below (suc i) a b ≡ i ∷ walk_below i a b
unfolding walk_below
walk-lower a b i same = rw (eq-eqb _ _ same)

pub walk_here : (a b : List ℕ) (i : ℕ) → (get_or a i 0 ≡ get_or b i 0 → ⊥) → walk_below (suc i) a b ≡ i ∷ []
unfolding walk_below
walk_here a b i differ = rw (ne_eqb _ _ differ)

-- the place where the walk has ended, or 0 where it found none
down : Option ℕ → ℕ
down (some place) = place
down none = 0

module _ (a b : List ℕ) where
  -- over the k lowest places the walk ends at `place`
  abbrev EndsAt : (k place : ℕ) → Type 0
  EndsAt k place = (before : List ℕ) × (walk_below k a b ≡ before ++ (place ∷ []))

  ends-below : (k place : ℕ) → highest_below k a b ≡ some place → EndsAt k place
  ends-below zero place found = absurd (never (sym (highest-none a b) ∙ found))
    where
      never : none ≡ some place → ⊥
      never same = let z : ◌≡◌ {A = ℕ} 0 1 = cc in omega arith
  ends-below (suc i) place found = by (eqb (get_or a i 0) (get_or b i 0)) refl (ends-below i place)
    where
      by : (t : Bool) → eqb (get_or a i 0) (get_or b i 0) ≡ t → (highest_below i a b ≡ some place → EndsAt i place) → EndsAt (suc i) place
      by true test lower =
          let same = eqb-true _ _ test in
          let rest = lower (sym (highest-lower a b i same) ∙ found) in
          (i ∷ rest.0, walk-lower a b i same ∙ ap (λ l. i ∷ l) rest.1)
      by false test lower =
          let differ = eqb-false _ _ test in
          let here : some i ≡ some place = sym (highest-here a b i differ) ∙ found in
          let same : i ≡ place = cc in
          ([], walk_here a b i differ ∙ ap (λ n. n ∷ []) same)

  -- each pair looked at is one place down from k
  counted-below : (k : ℕ) → length (walk_below k a b) + down (highest_below k a b) ≡ k
  unfolding down
  counted-below zero = rw (walk_none a b, highest-none a b)
  counted-below (suc i) = by (eqb (get_or a i 0) (get_or b i 0)) refl (counted-below i)
    where
      by : (t : Bool) → eqb (get_or a i 0) (get_or b i 0) ≡ t → length (walk_below i a b) + down (highest_below i a b) ≡ i
          → length (walk_below (suc i) a b) + down (highest_below (suc i) a b) ≡ suc i
      by true test lower =
          let same = eqb-true _ _ test in
          rw (walk-lower a b i same, highest-lower a b i same) (omega arith)
      by false test lower =
          let differ = eqb-false _ _ test in
          rw (walk_here a b i differ, highest-here a b i differ) (omega arith)

pub walk_ends : WalkEnds
unfolding down
walk_ends = record { ends = λ a b place. ends-below a b 5 place; counted = λ a b. by (highest_differing a b) (counted-below a b 5) }
  where
    by : {n : ℕ} (place : Option ℕ) → n + down place ≡ 5 → n ≡ pairs_looked place
    by (some place) sum = omega arith
    by none sum = omega arith

-- of two numbers whose words above i agree, the one with the smaller word at i is the smaller
value_less : (xs ys : List ℕ) (i : ℕ) → Below (2 ^ 32) xs → i < length xs → drop (suc i) xs ≡ drop (suc i) ys → get_or xs i 0 < get_or ys i 0 → value xs < value ys
unfolding value
value_less [] ys i words long above less = absurd (not-suc-le-zero long)
value_less (x ∷ xs) [] i words long above less = absurd (not-suc-le-zero less)
value_less (x ∷ xs) (y ∷ ys) zero words long above less = omega (arith, ap value above)
value_less (x ∷ xs) (y ∷ ys) (suc i) words long above less =
    omega (arith, words 0, value_less xs ys i (λ j. words (suc j)) (le_of_suc-le-suc long) above less)

module _ (a b : List ℕ) (long-a : length a ≡ 5) (long-b : length b ≡ 5) (words-a : Below (2 ^ 32) a) (words-b : Below (2 ^ 32) b) where
  -- of two numbers whose words above i agree and whose words at i differ, these have the order of the values
  at_difference : (i : ℕ) → i < 5 → drop (suc i) a ≡ drop (suc i) b → (get_or a i 0 ≡ get_or b i 0 → ⊥)
      → order_of (get_or a i 0) (get_or b i 0) ≡ order_of (value a) (value b)
  at_difference i within above differ = by (lt_or_le (get_or a i 0) (get_or b i 0))
    where
      by : (get_or a i 0 < get_or b i 0) ⊎ (get_or b i 0 ≤ get_or a i 0) → order_of (get_or a i 0) (get_or b i 0) ≡ order_of (value a) (value b)
      by (inl less) = order_below less ∙ sym (order_below (value_less a b i words-a (omega arith) above less))
      by (inr not-less) =
          let more : get_or b i 0 < get_or a i 0 = omega (arith, differ) in
          order-above more ∙ sym (order-above (value_less b a i words-b (omega arith) (sym above) more))

  -- of two numbers whose words from place k on agree, the highest that differ below k decide
  decided : (k : ℕ) → k ≤ 5 → drop k a ≡ drop k b → order_at (highest_below k a b) a b ≡ order_of (value a) (value b)
  decided zero few above = rw (highest-none a b) (sym (order_equal (ap value above)))
  decided (suc i) few above =
      by (eqb (get_or a i 0) (get_or b i 0)) refl
      (λ same. decided i (omega arith) (rw (drop-cons a i 0 (omega arith), drop-cons b i 0 (omega arith), same, above)))
    where
      by : (t : Bool) → eqb (get_or a i 0) (get_or b i 0) ≡ t → (get_or a i 0 ≡ get_or b i 0 → order_at (highest_below i a b) a b ≡ order_of (value a) (value b))
          → order_at (highest_below (suc i) a b) a b ≡ order_of (value a) (value b)
      by true test lower = rw (highest-lower a b i (eqb-true _ _ test)) (lower (eqb-true _ _ test))
      by false test lower = rw (highest-here a b i (eqb-false _ _ test)) (at_difference i few above (eqb-false _ _ test))

pub highest_decides : HighestDecides
highest_decides a b long-a long-b words-a words-b =
    decided a b long-a long-b words-a words-b 5 (le_refl 5) (drop_of_length-le a (le_of_eq long-a) ∙ sym (drop_of_length-le b (le_of_eq long-b)))
