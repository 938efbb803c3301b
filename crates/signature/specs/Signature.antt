-- Document 01, Tree, key and cabinet: the limits of an order's text, and the parts of a signature with its length.
use Rattle.std.specs.Prelude.{Bool, List, ◌++◌, ℕ, ◌+◌, ◌*◌, take, drop}
use Rattle.octets.specs.Bytes.{from_bytes, to_bytes}
use Rattle.profile.specs.Checks.{outside}
use Rattle.profile.specs.declared.Profile.{Profile}

-- "order text (1 to 200 bytes)": 16 where it is "empty or over 200 bytes"
unfoldable pub outside_text : (bytes : ℕ) → Bool
outside_text bytes = outside 1 200 bytes

-- "Signature: leaf (4 bytes, most significant first), R, l values, h siblings from the bottom"
unfoldable pub joined_parts : (leaf : ℕ) (r values siblings : List ℕ) → List ℕ
joined_parts leaf r values siblings = to_bytes 4 leaf ++ r ++ values ++ siblings

-- "20 + 16 × l + 16 × h"
unfoldable pub signature_length : Profile → ℕ
signature_length p = 20 + 16 * p.shape.chains + 16 * p.height

-- the leaf that a signature names, its first 4 bytes
unfoldable pub leaf_in : (signature : List ℕ) → ℕ
leaf_in signature = from_bytes (take 4 signature)

-- its R, the 16 bytes behind the leaf
unfoldable pub random_in : (signature : List ℕ) → List ℕ
random_in signature = take 16 (drop 4 signature)

-- its l values, of 16 bytes each, behind R
unfoldable pub values_in : Profile → (signature : List ℕ) → List ℕ
values_in p signature = take (16 * p.shape.chains) (drop 20 signature)

-- its siblings, all bytes behind the values
unfoldable pub siblings_in : Profile → (signature : List ℕ) → List ℕ
siblings_in p signature = drop (20 + 16 * p.shape.chains) signature
