-- The values shown of a leaf's chains, the leaf key recovered from them and the steps go by as many lengths of a row as there are chains, whatever stands
-- behind.
use mathlib.Core.Path.{◌≡◌, ap, sym, ◌∙◌}
use mathlib.Core.List.{List}
use Prim.Native.Nat.{ℕ, ◌-◌, ◌*◌, ◌<◌}
use lib.ListN.{get_or, take, drop}
use lib.Seq.{get_or-take}
use Rattle.lists.proofs.Joins.{join_to_cong}
use Rattle.tweak.specs.declared.Domain.{Domain}
use Rattle.chains.specs.Chains.{walked, chain_value}
use Rattle.chains.specs.Leaves.{revealed, key_of_tops, recovered, steps_left}
use Rattle.chains.specs.declared.Chains.{Chains}
use Rattle.chains.proofs.StepLaws.{steps_cong}

module _ (chains : Chains) (row : List ℕ) {front : List ℕ} (placed : take chains.count row ≡ front) where
  -- a length of the row
  at : (c : ℕ) → c < chains.count → get_or row c 0 ≡ get_or front c 0
  at c h = sym (get_or-take chains.count row c 0 h) ∙ ap (λ (xs : List ℕ). get_or xs c 0) placed

  pub revealed-front : (d : Domain) (secret : List ℕ) (leaf : ℕ) → revealed d chains secret leaf row ≡ revealed d chains secret leaf front
  unfolding revealed
  revealed-front d secret leaf = join_to_cong _ _ chains.count (λ c h. ap (chain_value d secret leaf c) (at c h))

  pub recovered-front : (d : Domain) (values : List ℕ) (leaf : ℕ) → recovered d chains leaf row values ≡ recovered d chains leaf front values
  unfolding recovered
  recovered-front d values leaf =
      let up : ℕ → ℕ → List ℕ = λ c k. walked d leaf c k (chains.width - 1 - k) (take 16 (drop (16 * c) values)) in
      ap (key_of_tops d leaf) (join_to_cong _ _ chains.count (λ c h. ap (up c) (at c h)))

  pub steps-left-front : steps_left chains row ≡ steps_left chains front
  steps-left-front = steps_cong chains.width row front chains.count at
