-- Arrivals that the window allows, as pairs of orders: none comes behind one whose leaf is 32 or more above its own.
use mathlib.Core.List.{List, [], ◌∷◌, map}
use mathlib.Core.Logic.{◌⊎◌, inl, inr}
use Prim.Native.Nat.{ℕ, suc, ◌+◌, ◌<◌, ◌≤◌, suc-le-suc}
use native.Mathlib.Nat.{le_of_suc-le-suc}
use native.Mathlib.Omega.{arith}
use lib.ListN.{length, get_or}
use Rattle.lists.proofs.Numbers.{lt_or_le}
use Rattle.lists.proofs.Pairs.{each-place, Pairs}
use Rattle.claims.specs.Arrivals.{InTime}
use Rattle.claims.specs.Orders.{Issued, leaf_of}

-- of two orders, by their places: the leaf of the earlier is less than 32 above that of the later
abbrev pub InTimeAfter : Issued → Issued → Type 0
InTimeAfter earlier later = leaf_of earlier < leaf_of later + 32

pub in_time_pairs : (xs : List Issued) → InTime (map leaf_of xs) → Pairs InTimeAfter xs
in_time_pairs [] t = tt
in_time_pairs (x ∷ xs) t = (
  each-place leaf_of (λ n. leaf_of x < n + 32) xs (λ i h. by i h (lt_or_le (leaf_of x) (get_or (map leaf_of xs) i 0 + 32))),
  in_time_pairs xs (λ i j h k far. le_of_suc-le-suc (t (suc i) (suc j) (suc-le-suc h) (suc-le-suc k) far)),
)
  where
    by : (i : ℕ) → i < length (map leaf_of xs) → (leaf_of x < get_or (map leaf_of xs) i 0 + 32) ⊎ (get_or (map leaf_of xs) i 0 + 32 ≤ leaf_of x)
        → leaf_of x < get_or (map leaf_of xs) i 0 + 32
    by i h (inl near) = near
    by i h (inr far) = absurd (omega (arith, t (suc i) 0 (suc-le-suc h) (omega arith) far))
