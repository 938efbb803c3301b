-- Document 01, Chains and leaves: the values that a signature shows, and the leaf key.
use Rattle.std.specs.Prelude.{List, ℕ, zero, suc, ◌+◌, ◌-◌, ◌*◌, get_or, take, drop}
use Rattle.lists.specs.Joined.{join_to}
use Rattle.profile.specs.declared.Shape.{Shape}
use Rattle.profile.specs.declared.Profile.{Profile}
use Rattle.tweak.specs.Tweak.{leaf_key_address, tweaked_hash}
use Rattle.tweak.specs.declared.Domain.{Domain}
use Rattle.chains.specs.Chains.{walked, chain_value}
use Rattle.chains.specs.declared.Chains.{Chains}

-- the chains of a shape: "l chains … Width w"
abbrev pub chains_of : Shape → Chains
chains_of shape = record { count = shape.chains; width = shape.width }

-- "A signature shows chain c at the height that the row gives at place c"
abbrev pub shown_value : Domain → (secret : List ℕ) (leaf : ℕ) (row : List ℕ) (c : ℕ) → List ℕ
shown_value d secret leaf row c = chain_value d secret leaf c (get_or row c 0)

-- the l values shown, joined
unfoldable pub revealed : Domain → Chains → (secret : List ℕ) (leaf : ℕ) (row : List ℕ) → List ℕ
revealed d chains secret leaf row = join_to (shown_value d secret leaf row) chains.count

-- "the type 1 hash of the l tops joined"
unfoldable pub key_of_tops : Domain → (leaf : ℕ) (tops : List ℕ) → List ℕ
key_of_tops d leaf tops = tweaked_hash d (leaf_key_address d leaf) tops

-- a top is the value at the height w − 1
abbrev pub top_value : Domain → Chains → (secret : List ℕ) (leaf c : ℕ) → List ℕ
top_value d chains secret leaf c = chain_value d secret leaf c (chains.width - 1)

-- "The leaf key"
unfoldable pub leaf_key : Domain → Chains → (secret : List ℕ) (leaf : ℕ) → List ℕ
leaf_key d chains secret leaf = key_of_tops d leaf (join_to (top_value d chains secret leaf) chains.count)

-- the leaf key under a profile
abbrev pub leaf_key_of : Domain → Profile → (secret : List ℕ) (leaf : ℕ) → List ℕ
leaf_key_of d p secret leaf = leaf_key d (chains_of p.shape) secret leaf

-- "The checker steps on to w − 1": the top of the chain c, from values of which its own stands at the height that the row gives
abbrev pub reached_top : Domain → Chains → (leaf : ℕ) (row values : List ℕ) (c : ℕ) → List ℕ
reached_top d chains leaf row values c =
    walked d leaf c (get_or row c 0) (chains.width - 1 - get_or row c 0) (take 16 (drop (16 * c) values))

-- the leaf key that the checker finds
unfoldable pub recovered : Domain → Chains → (leaf : ℕ) (row values : List ℕ) → List ℕ
recovered d chains leaf row values = key_of_tops d leaf (join_to (reached_top d chains leaf row values) chains.count)

-- the checker's steps along the first chains of a row
unfoldable pub steps_to : (w : ℕ) (row : List ℕ) (chains : ℕ) → ℕ
steps_to w row zero = 0
steps_to w row (suc c) = steps_to w row c + (w - 1 - get_or row c 0)

-- the checker's steps along all chains
abbrev pub steps_left : Chains → (row : List ℕ) → ℕ
steps_left chains row = steps_to chains.width row chains.count
