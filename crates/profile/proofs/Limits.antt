-- What the checks of a profile tell: a shape that passes is within its limits, and so are the height and the edition of a profile. The number of leaves, and a
-- leaf's, fit a word.
use mathlib.Core.Path.{◌≡◌, refl, sym, ◌∙◌}
use mathlib.Core.Bool.{Bool, true, false, ◌||◌, true≢false}
use mathlib.Core.List.{List, [], ◌∷◌}
use Prim.Native.Nat.{ℕ, ◌+◌, ◌-◌, ◌*◌, ◌^◌, ◌<◌, ◌≤◌}
use native.Mathlib.Nat.{le_trans, mul-le-mul, pow-le-pow_right}
use native.Mathlib.Omega.{arith}
use borrow.Author.Tests.{lt-ltb, le-ltb, lt-leb, ltb-true, ltb-false, leb-false, ne_eqb}
use lib.Dec.{ltb, leb, lit<}
use Rattle.refusal.specs.Code.{first_cause}
use Rattle.refusal.proofs.Causes.{Without, Numbered, without-append, smaller_number, none_here, none-of-append}
use Rattle.profile.specs.Checks.{outside, shape_causes, InLimits, profile_causes, leaf_beyond, counted_leaves}
use Rattle.profile.specs.declared.Shape.{Shape}
use Rattle.profile.specs.declared.Profile.{Profile}

pub outside_low : (low high x : ℕ) → x < low → outside low high x ≡ true
outside_low low high x below = rw (lt-ltb x low below)

pub outside_high : (low high x : ℕ) → low ≤ x → high < x → outside low high x ≡ true
outside_high low high x some above = rw (le-ltb x low some, lt-ltb high x above)

pub inside : (low high x : ℕ) → low ≤ x → x ≤ high → outside low high x ≡ false
inside low high x some few = rw (le-ltb x low some, le-ltb high x few)

pub not_outside : (low high x : ℕ) → outside low high x ≡ false → (low ≤ x) × (x ≤ high)
not_outside low high x e = by (ltb x low) (ltb high x) refl refl e
  where
    by : (a b : Bool) → ltb x low ≡ a → ltb high x ≡ b → (a || b) ≡ false → (low ≤ x) × (x ≤ high)
    by false false below above either = (ltb-false x low below, ltb-false high x above)
    by false true below above either = let z : ◌≡◌ {A = Bool} true false = either in absurd (true≢false z)
    by true b below above either = absurd (true≢false either)

pub shape-numbered : (shape : Shape) → Numbered (shape_causes shape)
unfolding shape_causes
shape-numbered shape = (refl, (refl, (refl, tt)))

shape-without : (shape : Shape) (k : ℕ) → 4 ≤ k → Without k (shape_causes shape)
unfolding shape_causes
shape-without shape k h = (smaller_number 1 k (omega arith), (smaller_number 2 k (omega arith), (smaller_number 3 k (omega arith), tt)))

-- a shape that passes its checks is within its limits
pub in_limits : (shape : Shape) → first_cause (shape_causes shape) ≡ 0 → InLimits shape
unfolding shape_causes
in_limits shape e =
    let last : List (Bool × ℕ) = (outside 0 (shape.chains * (shape.width - 1)) shape.sum, 3) ∷ [] in
    let first = none_here (outside 1 40 shape.chains) 1 ((outside 2 16 shape.width, 2) ∷ last) refl e in
    let second = none_here (outside 2 16 shape.width) 2 last refl first.1 in
    let third = none_here (outside 0 (shape.chains * (shape.width - 1)) shape.sum) 3 [] refl second.1 in
    let l = not_outside 1 40 shape.chains first.0 in
    let w = not_outside 2 16 shape.width second.0 in
    let s = not_outside 0 (shape.chains * (shape.width - 1)) shape.sum third.0 in
    record { some_chain = l.0; few_chains = l.1; wide = w.0; narrow = w.1; reached = s.1 }

module _ (p : Profile) where
  -- the causes behind those of the shape
  abbrev pub others : List (Bool × ℕ)
  others = (outside 0 10 p.height, 4) ∷ (outside 1 2 p.edition, 22) ∷ []

  pub profile-numbered : Numbered (profile_causes p)
  unfolding profile_causes
  profile-numbered = without-append 0 (shape_causes p.shape) others (shape-numbered p.shape) (refl, (refl, tt))

  pub profile-without : (k : ℕ) → 5 ≤ k → k < 22 → Without k (profile_causes p)
  unfolding profile_causes
  profile-without k low high =
      without-append k (shape_causes p.shape) others (shape-without p.shape k (omega arith)) (smaller_number 4 k low, (ne_eqb 22 k (λ z. omega arith), tt))

  -- where a profile passes its checks, its shape does, its height is within its limits, and its edition is 1 or 2
  pub record Passed : Type 0 where
    pub shaped : first_cause (shape_causes p.shape) ≡ 0
    pub low : p.height ≤ 10
    pub named : (1 ≤ p.edition) × (p.edition ≤ 2)

  pub profile-passed : first_cause (profile_causes p) ≡ 0 → Passed
  unfolding profile_causes
  profile-passed e =
      let last : List (Bool × ℕ) = (outside 1 2 p.edition, 22) ∷ [] in
      let both = none-of-append (shape_causes p.shape) others (shape-numbered p.shape) e in
      let height = none_here (outside 0 10 p.height) 4 last refl both.1 in
      let edition = none_here (outside 1 2 p.edition) 22 [] refl height.1 in
      record { shaped = both.0; low = (not_outside 0 10 p.height height.0).1; named = not_outside 1 2 p.edition edition.0 }

  pub profile-limits : first_cause (profile_causes p) ≡ 0 → InLimits p.shape × (p.height ≤ 10)
  profile-limits e = let passed = profile-passed e in (in_limits p.shape passed.shaped, passed.low)

-- the largest sum: 40 chains of 15
pub sum-small : (shape : Shape) → InLimits shape → shape.sum ≤ 600
sum-small shape limits = le_trans limits.reached (mul-le-mul {n₂ = 40} {m₂ = 15} limits.few_chains (omega arith))

-- a leaf of the tree
pub leaf_within : (h leaf : ℕ) → leaf_beyond h leaf ≡ false → leaf < 2 ^ h
unfolding leaf_beyond
leaf_within h leaf e = leb-false (2 ^ h) leaf e

-- the leaves counted: they are 2^h for a height below 32, and past every 32-bit leaf otherwise, as 2^h is
pub counted-few : (h : ℕ) → h < 32 → counted_leaves h ≡ 2 ^ h
unfolding counted_leaves
counted-few h low = rw (lt-ltb h 32 low)

pub counted-most : (h : ℕ) → 32 ≤ h → counted_leaves h ≡ 2 ^ 32
unfolding counted_leaves
counted-most h high = rw (le-ltb h 32 high)

pub counted-leaves : (h leaf : ℕ) → leaf < 2 ^ 32 → (leb (counted_leaves h) leaf ≡ leb (2 ^ h) leaf) × (ltb (counted_leaves h) leaf ≡ ltb (2 ^ h) leaf)
counted-leaves h leaf word = by (ltb h 32) refl
  where
    by : (low : Bool) → ltb h 32 ≡ low → (leb (counted_leaves h) leaf ≡ leb (2 ^ h) leaf) × (ltb (counted_leaves h) leaf ≡ ltb (2 ^ h) leaf)
    by true e = rw (counted-few h (ltb-true h 32 e)) (refl, refl)
    by false e =
        let high = ltb-false h 32 e in
        let large : 2 ^ 32 ≤ 2 ^ h = pow-le-pow_right {n = 2} (lit< tt) high in
        rw (counted-most h high)
        (lt-leb (2 ^ 32) leaf word ∙ sym (lt-leb (2 ^ h) leaf (omega arith)), le-ltb (2 ^ 32) leaf (omega arith) ∙ sym (le-ltb (2 ^ h) leaf (omega arith)))

-- a tree has at most 1,024 leaves, so the number behind a leaf's fits a word
pub leaves-few : (h : ℕ) → h ≤ 10 → 2 ^ h ≤ 1024
leaves-few h low = pow-le-pow_right {n = 2} (lit< tt) {i = h} {j = 10} low

pub next_fits : (leaf h : ℕ) → h ≤ 10 → leaf < 2 ^ h → leaf + 1 < 2 ^ 32
next_fits leaf h low below = omega (arith, leaves-few h low)
