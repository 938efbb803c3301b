-- A line that is read byte by byte: how many bytes are left, and that each one read leaves fewer.
use mathlib.Core.Path.{◌≡◌, refl, ap}
use mathlib.Core.Bool.{Bool, true, false, cond}
use mathlib.Core.List.{List, [], ◌∷◌, ◌++◌}
use Prim.Native.Nat.{ℕ, ◌-◌, ◌≤◌, ◌<◌}
use native.Mathlib.Omega.{arith}
use lib.Dec.{eqb}
use lib.ListN.{length, length-append, length-take}
use Rattle.std.specs.Prelude.{Some}
use Rattle.std.specs.List.{list_any, slice_get}
use Rattle.hex_lines.specs.Hex.{line_end}
use Rattle.listing.specs.Input.{has_ending, to_read, line_read, left_of}
use Rattle.listing.specs.declared.input.Input.{Input}

-- the ending as std's word for lists
pub ending_contained : (line : List ℕ) → has_ending line ≡ list_any (λ c. eqb c line_end) line
unfolding has_ending
ending_contained [] = refl
ending_contained (c ∷ line) = rw (ending_contained line) refl

pub to_read-ended : (line : List ℕ) → has_ending line ≡ true → to_read line ≡ 0
unfolding to_read
to_read-ended line e = rw e

pub to_read_open : (line : List ℕ) → has_ending line ≡ false → to_read line ≡ 11 - length line
unfolding to_read
to_read_open line e = rw e

-- where something is left to be read, no line ending was read and fewer than eleven bytes were
pub still_open : (line : List ℕ) → 0 < to_read line → (has_ending line ≡ false) × (length line < 11)
unfolding to_read
still_open line h = by (has_ending line) refl h
  where
    by : (b : Bool) → has_ending line ≡ b → 0 < cond b 0 (11 - length line) → (has_ending line ≡ false) × (length line < 11)
    by true e k = absurd (omega arith)
    by false e k = (e, omega arith)

-- before the end of the input
left-all : (i : Input) → 0 < left_of i → left_of i ≡ to_read (line_read i)
unfolding left_of
left-all i h = by i.ended h
  where
    by : (b : Bool) → 0 < cond b 0 (to_read (line_read i)) → cond b 0 (to_read (line_read i)) ≡ to_read (line_read i)
    by true k = absurd (omega arith)
    by false k = refl

pub not_ended : (i : Input) → 0 < left_of i → i.ended ≡ false
unfolding left_of
not_ended i h = by i.ended h
  where
    by : (b : Bool) → 0 < cond b 0 (to_read (line_read i)) → b ≡ false
    by true k = absurd (omega arith)
    by false k = refl

-- there is room for the next byte
pub room : (i : Input) → length i.bytes ≡ 11 → 0 < left_of i → i.long < 11
room i long h = omega (arith, (still_open (line_read i) (rw (left-all i h) at h)).1, length-take i.long i.bytes)

-- the byte that a read found
pub one_item : {b : ℕ} (found : List ℕ) → Some b ≡ slice_get found 0 → length found ≤ 1 → b ∷ [] ≡ found
one_item [] e few = cc
one_item (c ∷ []) e few = cc
one_item (c ∷ d ∷ more) e few = absurd (omega arith)

-- a byte more leaves fewer to be read
fewer_to_read : (line : List ℕ) (c : ℕ) → 0 < to_read line → to_read (line ++ (c ∷ [])) < to_read line
fewer_to_read line c h = by (has_ending (line ++ (c ∷ []))) refl
  where
    by : (b : Bool) → has_ending (line ++ (c ∷ [])) ≡ b → to_read (line ++ (c ∷ [])) < to_read line
    by true e = omega (arith, to_read-ended (line ++ (c ∷ [])) e)
    by false e =
        let before = still_open line h in
        omega (arith, to_read_open (line ++ (c ∷ [])) e, to_read_open line before.0, length-append line (c ∷ []), before.1)

-- each byte read leaves fewer to be read, and so does the end of the input
pub fewer_left : (i r : Input) (found : List ℕ) → 0 < left_of i → length found ≤ 1 → line_read r ≡ line_read i ++ found → r.ended ≡ eqb (length found) 0
    → left_of r < left_of i
unfolding left_of
fewer_left i r [] h few read ended = rw ended h
fewer_left i r (c ∷ []) h few read ended =
    let more = fewer_to_read (line_read i) c (rw (left-all i h) at h) in
    let now' = ap to_read read in
    rw ended (omega (arith, more, now', left-all i h))
fewer_left i r (c ∷ d ∷ more) h few read ended = absurd (omega arith)
