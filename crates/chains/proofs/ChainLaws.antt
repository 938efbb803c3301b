-- Walks along a chain: one step more, one walk after another, and the length of every value.
use mathlib.Core.Path.{◌≡◌, sym, ◌∙◌}
use mathlib.Core.List.{List}
use Prim.Native.Nat.{ℕ, zero, suc, ◌+◌, ◌-◌, ◌≤◌}
use native.Mathlib.Nat.{zero-add, add-zero, add-suc, add_assoc, sub-zero}
use native.Mathlib.Omega.{arith}
use lib.ListN.{length}
use Rattle.tweak.specs.Tweak.{chain_step_address, chain_start_address, tweaked_hash}
use Rattle.tweak.specs.declared.Domain.{Domain}
use Rattle.tweak.proofs.TweakLaws.{length_tweaked}
use Rattle.chains.specs.Chains.{chain_head, walked, chain_value}

module _ (d : Domain) (leaf chain : ℕ) where
  -- a turn of the loop that walks
  pub walked_next : (low k : ℕ) (first v next : List ℕ) → low ≤ k → v ≡ walked d leaf chain low (k - low) first
      → next ≡ tweaked_hash d (chain_step_address d leaf chain k) v → next ≡ walked d leaf chain low (k + 1 - low) first
  unfolding walked
  walked_next low k first v next h p q =
      let one : k + 1 - low ≡ suc (k - low) = omega arith in
      let here : low + (k - low) ≡ k = omega arith in
      q ∙ rw (one, here, p)

  -- a walk from a to b and then from b to c is the walk from a to c
  walked_add : (low m n : ℕ) (value : List ℕ)
      → walked d leaf chain low (m + n) value ≡ walked d leaf chain (low + m) n (walked d leaf chain low m value)
  unfolding walked
  walked_add low m zero value = rw add-zero
  walked_add low m (suc n) value = rw (add-suc m n, walked_add low m n value, ← add_assoc low m n)

  -- every value has 16 bytes
  pub length-walked : (low n : ℕ) (value : List ℕ) → length value ≡ 16 → length (walked d leaf chain low n value) ≡ 16
  unfolding walked
  length-walked low zero value e = e
  length-walked low (suc n) value e = length_tweaked d (chain_step_address d leaf chain (low + n)) (walked d leaf chain low n value)

  module _ (secret : List ℕ) where
    pub length-value : (height : ℕ) → length (chain_value d secret leaf chain height) ≡ 16
    unfolding chain_value chain_head
    length-value height = length-walked 0 height _ (length_tweaked d (chain_start_address d leaf chain) secret)

    -- a walk from the chain's start
    pub value-at : (height : ℕ) {start r : List ℕ} → start ≡ chain_head d leaf chain secret → r ≡ walked d leaf chain 0 (height - 0) start
        → r ≡ chain_value d secret leaf chain height
    unfolding chain_value
    value-at height s e = e ∙ rw (sub-zero, s)

    -- from the height a on to the height b
    pub walked_on : (a b : ℕ) → a ≤ b → walked d leaf chain a (b - a) (chain_value d secret leaf chain a) ≡ chain_value d secret leaf chain b
    unfolding chain_value
    walked_on a b h =
        let all : a + (b - a) ≡ b = omega arith in
        sym (rw (zero-add, all) at (walked_add 0 a (b - a) (chain_head d leaf chain secret)))
