-- Document 01, Profile, and "Profile checks: 1 l, 2 w, 3 s, 4 h outside its range"; document 02, point 6: the edition.
use Rattle.std.specs.Prelude.{Bool, ◌||◌, cond, List, [], ◌∷◌, ◌++◌, ℕ, ◌-◌, ◌*◌, ◌^◌, ◌≤◌, ltb, leb}
use Rattle.profile.specs.declared.Shape.{Shape}
use Rattle.profile.specs.declared.Profile.{Profile}

-- below the low limit or above the high one
abbrev pub outside : ℕ → ℕ → ℕ → Bool
outside low high x = ltb x low || ltb high x

-- "l chains, 1 to 40. Width w, 2 to 16 … Sum s, 0 to l × (w − 1)"
unfoldable pub shape_causes : Shape → List (Bool × ℕ)
shape_causes shape =
    (outside 1 40 shape.chains, 1) ∷ (outside 2 16 shape.width, 2)
    ∷ (outside 0 (shape.chains * (shape.width - 1)) shape.sum, 3) ∷ []

-- the same as facts: the shape is within its limits
pub record InLimits (shape : Shape) : Type 0 where
  pub some_chain : 1 ≤ shape.chains
  pub few_chains : shape.chains ≤ 40
  pub wide : 2 ≤ shape.width
  pub narrow : shape.width ≤ 16
  pub reached : shape.sum ≤ shape.chains * (shape.width - 1)

-- "Tree height h, 0 to 10"; "A profile names edition 1 or 2 … 22 when the edition is neither, after 4"
unfoldable pub profile_causes : Profile → List (Bool × ℕ)
profile_causes p = shape_causes p.shape ++ ((outside 0 10 p.height, 4) ∷ (outside 1 2 p.edition, 22) ∷ [])

-- 2^h, as far as a 32-bit leaf tells: the code counts leaves in 64 bits
unfoldable pub counted_leaves : (h : ℕ) → ℕ
counted_leaves h = cond (ltb h 32) (2 ^ h) (2 ^ 32)

-- 11: "leaf not below 2^h"
unfoldable pub leaf_beyond : (h leaf : ℕ) → Bool
leaf_beyond h leaf = leb (2 ^ h) leaf
