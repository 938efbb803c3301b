-- The bytes of the key that stands in some bytes are those bytes.
use mathlib.Core.Path.{◌≡◌, refl, sym, ap, ◌∙◌}
use mathlib.Core.Bool.{Bool, true, false, cond}
use mathlib.Core.List.{List, [], ◌∷◌, ◌++◌, append_assoc}
use Prim.Native.Nat.{ℕ, zero, suc, ◌+◌, ◌*◌, ◌/◌, ◌%◌, ◌^◌, ◌≤◌, ◌<◌}
use native.Mathlib.Omega.{arith}
use borrow.Author.Tests.{eqb-true, eqb-false}
use lib.Dec.{eqb}
use lib.ListN.{length, get_or, take, drop, take-append-drop, drop_of_length-le}
use lib.Seq.{drop-cons, drop-drop}
use Rattle.octets.specs.Bytes.{from_bytes, to_bytes}
use Rattle.lists.proofs.Lists.{Below, drop-two, part_4}
use Rattle.frames.specs.Frames.{edition_byte}
use Rattle.stored_key.specs.KeyFields.{chains_field, width_field, height_field, sum_field, seed_field, secret_field, next_field, mark_field, offset, key_length}
use Rattle.stored_key.specs.KeyFields.{field_in, byte_in}
use Rattle.stored_key.specs.KeyFrame.{key_bytes, key_in}

-- a number's bytes are those that it was made of
two_again : (a b : ℕ) → a < 256 → b < 256 → to_bytes 2 (from_bytes (a ∷ b ∷ [])) ≡ a ∷ b ∷ []
unfolding to_bytes from_bytes
two_again a b h k =
    let n : ℕ = a * 256 ^ 1 + (b * 256 ^ 0 + 0) in
    let high : n / 256 ^ 1 % 256 ≡ a = omega arith in
    let low : n / 256 ^ 0 % 256 ≡ b = omega arith in
    rw (high, low)

four_again : (a b c d : ℕ) → a < 256 → b < 256 → c < 256 → d < 256 → to_bytes 4 (from_bytes (a ∷ b ∷ c ∷ d ∷ [])) ≡ a ∷ b ∷ c ∷ d ∷ []
unfolding to_bytes from_bytes
four_again a b c d h k l m =
    let n : ℕ = a * 256 ^ 3 + (b * 256 ^ 2 + (c * 256 ^ 1 + (d * 256 ^ 0 + 0))) in
    let first : n / 256 ^ 3 % 256 ≡ a = omega arith in
    let second : n / 256 ^ 2 % 256 ≡ b = omega arith in
    let third : n / 256 ^ 1 % 256 ≡ c = omega arith in
    let fourth : n / 256 ^ 0 % 256 ≡ d = omega arith in
    rw (first, second, third, fourth)

-- a mark's byte is that of the mark in it
mark_again : (m : ℕ) → m < 2 → cond (eqb m 1) 1 0 ≡ m
mark_again zero h = refl
mark_again (suc zero) h = refl
mark_again (suc (suc m)) h = absurd (omega arith)

five-apart : (a b c d e : List ℕ) → a ++ b ++ c ++ d ++ e ≡ a ++ (b ++ (c ++ (d ++ e)))
five-apart a b c d e = append_assoc (a ++ b ++ c) d e ∙ append_assoc (a ++ b) c (d ++ e) ∙ append_assoc a b (c ++ (d ++ e))

module _ (bytes : List ℕ) where
  -- a part in front of what stands behind it
  part-behind : (at n : ℕ) → take n (drop at bytes) ++ drop (at + n) bytes ≡ drop at bytes
  part-behind at n = rw (← drop-drop n at bytes) (take-append-drop n (drop at bytes))

  module _ (below : Below 256 bytes) (some : key_length ≤ length bytes) (few : length bytes ≤ key_length + 1) where
    sum_again : to_bytes 2 (from_bytes (field_in sum_field bytes)) ≡ field_in sum_field bytes
    sum_again = rw (drop-two 0 bytes (offset sum_field) (omega arith)) (two_again _ _ (below (offset sum_field)) (below (offset sum_field + 1)))

    next_again : to_bytes 4 (from_bytes (field_in next_field bytes)) ≡ field_in next_field bytes
    next_again = let at : ℕ = offset next_field in rw (part_4 0 bytes (offset next_field) (omega arith))
        (four_again _ _ _ _ (below at) (below (at + 1)) (below (at + 2)) (below (at + 3)))

    -- the edition's byte
    edition_again : get_or bytes key_length 2 ≡ 2 → edition_byte (cond (eqb (length bytes) (key_length + 1)) 2 1) ≡ drop key_length bytes
    unfolding edition_byte
    edition_again last = by (eqb (length bytes) (key_length + 1)) refl
      where
        by : (second : Bool) → eqb (length bytes) (key_length + 1) ≡ second → edition_byte (cond second 2 1) ≡ drop key_length bytes
        by true e = let long = eqb-true (length bytes) (key_length + 1) e in
            sym (drop-cons bytes key_length 2 (omega arith) ∙ rw (last, drop_of_length-le bytes {i = key_length + 1} (omega arith)))
        by false e = let other = eqb-false (length bytes) (key_length + 1) e in sym (drop_of_length-le bytes {i = key_length} (omega arith))

    -- what stands from where each field begins
    from-mark : byte_in mark_field bytes < 2 → get_or bytes key_length 2 ≡ 2
        → cond (eqb (byte_in mark_field bytes) 1) 1 0 ∷ edition_byte (cond (eqb (length bytes) (key_length + 1)) 2 1) ≡ drop (offset mark_field) bytes
    from-mark mark last =
        rw (mark_again (byte_in mark_field bytes) mark, edition_again last) (sym (drop-cons bytes (offset mark_field) 0 (omega arith)))

    from_next : to_bytes 4 (from_bytes (field_in next_field bytes)) ++ drop (offset mark_field) bytes ≡ drop (offset next_field) bytes
    from_next = ap (λ l. l ++ drop (offset mark_field) bytes) next_again ∙ part-behind (offset next_field) 4

    from-sum : to_bytes 2 (from_bytes (field_in sum_field bytes)) ++ drop (offset seed_field) bytes ≡ drop (offset sum_field) bytes
    from-sum = ap (λ l. l ++ drop (offset seed_field) bytes) sum_again ∙ part-behind (offset sum_field) 2

    pub bytes_again : byte_in mark_field bytes < 2 → get_or bytes key_length 2 ≡ 2 → key_bytes (key_in bytes) ≡ bytes
    unfolding key_bytes key_in
    bytes_again mark last =
        let sum : List ℕ = to_bytes 2 (from_bytes (field_in sum_field bytes)) in
        let seed : List ℕ = field_in seed_field bytes in
        let secret : List ℕ = field_in secret_field bytes in
        let next : List ℕ = to_bytes 4 (from_bytes (field_in next_field bytes)) in
        let behind =
        five-apart sum seed secret next _ ∙ ap (λ l. sum ++ (seed ++ (secret ++ (next ++ l)))) (from-mark mark last)
        ∙ ap (λ l. sum ++ (seed ++ (secret ++ l))) from_next
        ∙ ap (λ l. sum ++ (seed ++ l)) (part-behind (offset secret_field) 16) ∙ ap (λ l. sum ++ l) (part-behind (offset seed_field) 16) ∙ from-sum in
        ap (λ l. byte_in chains_field bytes ∷ byte_in width_field bytes ∷ byte_in height_field bytes ∷ l) behind
        ∙ rw (
          ← drop-cons bytes (offset height_field) 0 (omega arith),
          ← drop-cons bytes (offset width_field) 0 (omega arith),
          ← drop-cons bytes (offset chains_field) 0 (omega arith),
        )
