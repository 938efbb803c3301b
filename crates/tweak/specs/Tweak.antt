-- Document 01, Hashing: the address and the tweaked hash.
use Rattle.std.specs.Prelude.{List, ◌++◌, ℕ, take, replicate}
use Rattle.octets.specs.Bytes.{to_bytes}
use Rattle.sha256.specs.Digest.{digest}
use Rattle.tweak.specs.declared.Domain.{Domain}

-- "layer (1 byte, zero), tree (8, zero)": in every address of document 01
abbrev pub first_domain : (seed : List ℕ) → Domain
first_domain seed = record { seed = seed; layer = 0; tree = 0 }

-- "Address: layer (1 byte, zero), tree (8, zero), type (1), three 4-byte fields, most significant byte first"
unfoldable pub address : Domain → (kind first second third : ℕ) → List ℕ
address d kind first second third =
    to_bytes 1 d.layer ++ to_bytes 8 d.tree ++ to_bytes 1 kind ++ to_bytes 4 first ++ to_bytes 4 second ++ to_bytes 4 third

-- "Type 0, chain step: leaf, chain, height before the step"
abbrev pub chain_step_address : Domain → (leaf chain height : ℕ) → List ℕ
chain_step_address d leaf chain height = address d 0 leaf chain height

-- "Type 1, leaf key: leaf, 0, 0"
abbrev pub leaf_key_address : Domain → (leaf : ℕ) → List ℕ
leaf_key_address d leaf = address d 1 leaf 0 0

-- "Type 2, node: 0, node height, node index"
abbrev pub node_address : Domain → (height index : ℕ) → List ℕ
node_address d height index = address d 2 0 height index

-- "Type 5, chain start: leaf, chain, 0"
abbrev pub chain_start_address : Domain → (leaf chain : ℕ) → List ℕ
chain_start_address d leaf chain = address d 5 leaf chain 0

-- the block that every tweaked hash under one seed begins with: "the public seed (16), 48 zero bytes"
unfoldable pub seed_block : List ℕ → List ℕ
seed_block seed = seed ++ replicate 48 0

-- "Tweaked hash: the first 16 bytes of SHA-256 over the public seed (16), 48 zero bytes, the address (22), the data"
unfoldable pub tweaked_hash : Domain → (address data' : List ℕ) → List ℕ
tweaked_hash d address data' = take 16 (digest (seed_block d.seed ++ address ++ data'))
