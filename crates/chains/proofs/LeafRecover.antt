-- What a signature shows of a leaf: how long it is, and that the checker's walks from it end at the tops, so that it gives the leaf key back.
use mathlib.Core.Path.{◌≡◌, ap, ◌∙◌}
use mathlib.Core.List.{List, [], append-nil}
use Prim.Native.Nat.{ℕ, ◌-◌, ◌*◌, ◌<◌, ◌≤◌}
use lib.ListN.{length, get_or}
use Rattle.lists.specs.Joined.{join_to}
use Rattle.lists.proofs.Joins.{join_to_cong, length-join_to, part-join_to}
use Rattle.tweak.specs.declared.Domain.{Domain}
use Rattle.chains.specs.Chains.{walked}
use Rattle.chains.specs.Leaves.{shown_value, revealed, key_of_tops, top_value, leaf_key, reached_top, recovered}
use Rattle.chains.specs.declared.Chains.{Chains}
use Rattle.chains.proofs.ChainLaws.{length-value, walked_on}

module _ (d : Domain) (chains : Chains) (secret : List ℕ) (leaf : ℕ) (row : List ℕ) where
  pub length-revealed : length (revealed d chains secret leaf row) ≡ 16 * chains.count
  unfolding revealed
  length-revealed = length-join_to (shown_value d secret leaf row) 16 chains.count (λ c _. length-value d leaf c secret (get_or row c 0))

  module _ (low : (c : ℕ) → c < chains.count → get_or row c 0 ≤ chains.width - 1) where
    -- the checker's walk along one chain
    top : (c : ℕ) → c < chains.count
        → reached_top d chains leaf row (join_to (shown_value d secret leaf row) chains.count) c ≡ top_value d chains secret leaf c
    top c h =
        let each : (i : ℕ) → i < chains.count → length (shown_value d secret leaf row i) ≡ 16 = λ i _. length-value d leaf i secret (get_or row i 0) in
        ap (walked d leaf c (get_or row c 0) (chains.width - 1 - get_or row c 0))
        (rw append-nil at (part-join_to (shown_value d secret leaf row) 16 chains.count each c [] h))
        ∙ walked_on d leaf c secret (get_or row c 0) (chains.width - 1) (low c h)

    pub recovered-revealed : recovered d chains leaf row (revealed d chains secret leaf row) ≡ leaf_key d chains secret leaf
    unfolding recovered revealed leaf_key
    recovered-revealed = ap (key_of_tops d leaf) (join_to_cong _ _ chains.count top)
