-- The parts of a joined signature are its parts, read back from its bytes.
use mathlib.Core.Path.{◌≡◌, ap, ◌∙◌}
use mathlib.Core.List.{List, ◌++◌, append_assoc}
use Prim.Native.Nat.{ℕ, ◌+◌, ◌*◌, ◌^◌, ◌<◌}
use native.Mathlib.Omega.{arith}
use lib.ListN.{length, take, drop, length-append}
use lib.Seq.{take_at, drop_at}
use Rattle.octets.specs.Bytes.{from_bytes, to_bytes}
use Rattle.octets.proofs.ByteLaws.{length-to_bytes, from_to_lt}
use Rattle.profile.specs.declared.Profile.{Profile}
use Rattle.signature.specs.Signature.{joined_parts, signature_length, leaf_in, random_in, values_in, siblings_in}

-- four parts joined, of which the first has 4 and the second 16 elements
module _ (a b c d : List ℕ) (four : length a ≡ 4) (sixteen : length b ≡ 16) where
  twenty : length (a ++ b) ≡ 20
  twenty = length-append a b ∙ rw (four, sixteen)

  first : take 4 (a ++ b ++ c ++ d) ≡ a
  first = simp append_assoc (take_at a (b ++ (c ++ d)) 4 four)

  second : take 16 (drop 4 (a ++ b ++ c ++ d)) ≡ b
  second = simp append_assoc (ap (take 16) (drop_at a (b ++ (c ++ d)) 4 four) ∙ take_at b (c ++ d) 16 sixteen)

  third : (n : ℕ) → length c ≡ n → take n (drop 20 (a ++ b ++ c ++ d)) ≡ c
  third n long = rw (append_assoc (a ++ b) c d) (ap (take n) (drop_at (a ++ b) (c ++ d) 20 twenty) ∙ take_at c d n long)

  fourth : (n : ℕ) → length c ≡ n → drop (20 + n) (a ++ b ++ c ++ d) ≡ d
  fourth n long = drop_at (a ++ b ++ c) d (20 + n) (length-append (a ++ b) c ∙ rw (twenty, long))

module _ (p : Profile) (leaf : ℕ) (r values siblings : List ℕ) where
  -- a signature has these parts
  pub record Parts (signature : List ℕ) : Type 0 where
    pub size : length signature ≡ signature_length p
    pub own_leaf : leaf_in signature ≡ leaf
    pub own_random : random_in signature ≡ r
    pub own-values : values_in p signature ≡ values
    pub own-siblings : siblings_in p signature ≡ siblings

  module _ (sixteen : length r ≡ 16) (all-values : length values ≡ 16 * p.shape.chains) (all-siblings : length siblings ≡ 16 * p.height) where
    pub length-joined : length (joined_parts leaf r values siblings) ≡ signature_length p
    unfolding joined_parts signature_length
    length-joined = simp (length-append, length-to_bytes, sixteen, all-values, all-siblings) (omega arith)

    -- a leaf of four bytes
    pub joined_parts_lem : leaf < 2 ^ 32 → Parts (joined_parts leaf r values siblings)
    unfolding leaf_in random_in values_in siblings_in joined_parts
    joined_parts_lem low =
        let four = length-to_bytes 4 leaf in
        record {
          size = length-joined;
          own_leaf = ap from_bytes (first (to_bytes 4 leaf) r values siblings four sixteen) ∙ from_to_lt 4 leaf low;
          own_random = second (to_bytes 4 leaf) r values siblings four sixteen;
          own-values = third (to_bytes 4 leaf) r values siblings four sixteen (16 * p.shape.chains) all-values;
          own-siblings = fourth (to_bytes 4 leaf) r values siblings four sixteen (16 * p.shape.chains) all-values;
        }
