-- Document 01, Chains and leaves: the values of a chain.
use Rattle.std.specs.Prelude.{List, ℕ, zero, suc, ◌+◌}
use Rattle.tweak.specs.Tweak.{chain_step_address, chain_start_address, tweaked_hash}
use Rattle.tweak.specs.declared.Domain.{Domain}

-- "A chain starts as the tweaked hash, type 5, of the secret seed (16 bytes)"
unfoldable pub chain_head : Domain → (leaf chain : ℕ) (secret : List ℕ) → List ℕ
chain_head d leaf chain secret = tweaked_hash d (chain_start_address d leaf chain) secret

-- "Height k + 1 is the tweaked hash, type 0, of height k": n steps from the value at the height `low` on
unfoldable pub walked : Domain → (leaf chain low n : ℕ) (value : List ℕ) → List ℕ
walked d leaf chain low zero value = value
walked d leaf chain low (suc n) value = tweaked_hash d (chain_step_address d leaf chain (low + n)) (walked d leaf chain low n value)

-- the value of a chain at a height
unfoldable pub chain_value : Domain → (secret : List ℕ) (leaf chain height : ℕ) → List ℕ
chain_value d secret leaf chain height = walked d leaf chain 0 height (chain_head d leaf chain secret)
