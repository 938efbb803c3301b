-- A source of leaves: calls that hand a state on and may issue something with a leaf. Where each call's leaves are above those issued before, no leaf comes
-- twice.
use mathlib.Core.Path.{◌≡◌, refl}
use mathlib.Core.List.{List, [], ◌∷◌, ◌++◌, append_assoc}
use Prim.Native.Nat.{ℕ, ◌+◌, ◌<◌, ◌≤◌}
use native.Mathlib.Nat.{le_refl}
use native.Mathlib.Omega.{arith}
use lib.ListN.{length}
use Rattle.lists.proofs.Pairs.{Each, each_imply, Pairs, pairs_imply, Apart}
use Rattle.claims.specs.Orders.{given_along, state_along, Along}

module _ {Item : Type 0} (leaf_of : Item → ℕ) (Good : Item → Type 0) where
  -- all items are good, and their leaves rise: from n on, and below m
  abbrev pub Rises : ℕ → List Item → ℕ → Type 0
  Rises n [] m = n ≤ m
  Rises n (x ∷ more) m = (n ≤ leaf_of x) × Good x × Rises (leaf_of x + 1) more m

  rises_from : (k n m : ℕ) (xs : List Item) → k ≤ n → Rises n xs m → Rises k xs m
  rises_from k n m [] h r = omega arith
  rises_from k n m (x ∷ xs) h r = (omega (arith, r.0), r.1, r.2)

  rises_append : (n m k : ℕ) (xs ys : List Item) → Rises n xs m → Rises m ys k → Rises n (xs ++ ys) k
  rises_append n m k [] ys r q = rises_from n m k ys r q
  rises_append n m k (x ∷ xs) ys r q = (r.0, r.1, rises_append (leaf_of x + 1) m k xs ys r.2 q)

  rises_least : (n m : ℕ) (xs : List Item) → Rises n xs m → Each (λ x. n ≤ leaf_of x) xs
  rises_least n m [] r = tt
  rises_least n m (x ∷ xs) r =
      (r.0, each_imply (λ y. leaf_of x + 1 ≤ leaf_of y) (λ y. n ≤ leaf_of y) (λ y h. omega (arith, r.0)) xs (rises_least (leaf_of x + 1) m xs r.2))

  pub rises_pairs : (n m : ℕ) (xs : List Item) → Rises n xs m → Pairs (λ x y. leaf_of x < leaf_of y) xs
  rises_pairs n m [] r = tt
  rises_pairs n m (x ∷ xs) r = (
    each_imply (λ y. leaf_of x + 1 ≤ leaf_of y) (λ y. leaf_of x < leaf_of y) (λ y h. omega arith) xs (rises_least (leaf_of x + 1) m xs r.2),
    rises_pairs (leaf_of x + 1) m xs r.2,
  )

  pub rises_good : (n m : ℕ) (xs : List Item) → Rises n xs m → Each Good xs
  rises_good n m [] r = tt
  rises_good n m (x ∷ xs) r = (r.1, rises_good (leaf_of x + 1) m xs r.2)

  -- no two have the same leaf
  pub rises_apart : (n m : ℕ) (xs : List Item) → Rises n xs m → Pairs (Apart leaf_of) xs
  rises_apart n m xs r = pairs_imply (λ x y. leaf_of x < leaf_of y) (Apart leaf_of) (λ x y h same. omega arith) xs (rises_pairs n m xs r)

  -- where every leaf is below a limit, there are no more of them than from n up to it
  pub rises_few : (limit : ℕ) → ((x : Item) → Good x → leaf_of x < limit) → (n m : ℕ) (xs : List Item) → n ≤ limit → Rises n xs m → n + length xs ≤ limit
  rises_few limit low n m [] h r = omega arith
  rises_few limit low n m (x ∷ xs) h r =
      let below = low x r.1 in
      omega (arith, r.0, rises_few limit low (leaf_of x + 1) m xs (omega arith) r.2)

  -- the source: a state from which leaves from n on may come, and what a call that is allowed does to it
  module _ {State Call : Type 0} (after : State → Call → State) (gives : State → Call → List Item) (allowed : State → Call → Type 0) (From : State → ℕ → Type 0)
      (step : (s : State) (n : ℕ) → From s n → (c : Call) → allowed s c → (m : ℕ) × Rises n (gives s c) m × From (after s c) m) where
    pub issued_rises : (s : State) (n : ℕ) → From s n → (calls : List Call) → Along after allowed s calls → (m : ℕ) × Rises n (given_along after gives s calls) m
    unfolding given_along Along
    issued_rises s n from [] all = (n, le_refl n)
    issued_rises s n from (c ∷ calls) all =
        let now = step s n from c all.0 in
        let rest = issued_rises (after s c) now.0 now.2 calls all.1 in
        (rest.0, rises_append n now.0 rest.0 (gives s c) (given_along after gives (after s c) calls) now.1 rest.1)

    -- and the state that is handed back last is one of its states
    pub still-from : (s : State) (n : ℕ) → From s n → (calls : List Call) → Along after allowed s calls → (m : ℕ) × From (state_along after s calls) m
    unfolding state_along Along
    still-from s n from [] all = (n, from)
    still-from s n from (c ∷ calls) all = let now = step s n from c all.0 in still-from (after s c) now.0 now.2 calls all.1

-- one list of calls behind another
module _ {State Call : Type 0} (after : State → Call → State) where
  pub given_behind : {Item : Type 0} (gives : State → Call → List Item) (s : State) (first more : List Call)
      → given_along after gives s (first ++ more) ≡ given_along after gives s first ++ given_along after gives (state_along after s first) more
  unfolding given_along state_along
  given_behind gives s [] more = refl
  given_behind gives s (c ∷ first) more = rw (given_behind gives (after s c) first more, append_assoc)

  pub along_behind : (allowed : State → Call → Type 0) (s : State) (first more : List Call) → Along after allowed s first
      → Along after allowed (state_along after s first) more → Along after allowed s (first ++ more)
  unfolding Along state_along
  along_behind allowed s [] more a b = b
  along_behind allowed s (c ∷ first) more a b = (a.0, along_behind allowed (after s c) first more a.1 b)

-- where every call is allowed, so is every list
pub always : {State Call : Type 0} (after : State → Call → State) (s : State) (calls : List Call) → Along after (λ s c. Unit {0}) s calls
unfolding Along
always after s [] = tt
always after s (c ∷ calls) = (tt, always after (after s c) calls)
