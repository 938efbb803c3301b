-- Document 01, Tree, key and cabinet: the digest. Document 02, point 3: the message number; point 6: the leaf inside the digest.
use Rattle.std.specs.Prelude.{Bool, cond, List, [], ◌++◌, ℕ, zero, suc, ◌^◌, ltb, leb, eqb}
use Rattle.octets.specs.Bytes.{to_bytes, first_bits}
use Rattle.sha256.specs.Digest.{digest}
use Rattle.profile.specs.declared.Profile.{Profile}
use Rattle.counts.specs.Counts.{count}

-- what an edition takes of the leaf: "the leaf (4 bytes, most significant first)"; "Old cabinets keep the old rule", edition 1, which
-- takes none
unfoldable pub leaf_part : (edition leaf : ℕ) → List ℕ
leaf_part edition leaf = cond (eqb edition 2) (to_bytes 4 leaf) []

-- "Digest: SHA-256 over R (16 bytes, given by the caller), public seed, root, order text", with the leaf "between root and order text"
unfoldable pub message_digest : (edition leaf : ℕ) (r seed root message : List ℕ) → List ℕ
message_digest edition leaf r seed root message = digest (r ++ seed ++ root ++ leaf_part edition leaf ++ message)

-- "the largest value up to 128 with 2^b not above the count": the values from a limit down; 0 where the count is 0
unfoldable pub largest_up_to : (limit count : ℕ) → ℕ
largest_up_to zero count = 0
largest_up_to (suc b) count = cond (leb (2 ^ suc b) count) (suc b) (largest_up_to b count)

-- b of a count
unfoldable pub number_bits : (count : ℕ) → ℕ
number_bits count = largest_up_to 128 count

-- "the number is the first b bits of the digest", which is that of the profile's edition
unfoldable pub message_number : Profile → (leaf : ℕ) (r seed root message : List ℕ) → ℕ
message_number p leaf r seed root message = first_bits (number_bits (count p.shape)) (message_digest p.edition leaf r seed root message)

-- "19 when the count is below 256"
unfoldable pub count_too_small : (count : ℕ) → Bool
count_too_small count = ltb count 256
