-- What is written into a slice from an index on: a byte as two characters, one byte after another, and a line.
use mathlib.Core.Path.{◌≡◌, refl, sym, ap, ◌∙◌}
use mathlib.Core.List.{List, [], ◌∷◌, ◌++◌, append_assoc}
use Prim.Native.Nat.{ℕ, zero, suc, ◌+◌, ◌*◌, ◌/◌, ◌%◌, ◌≤◌}
use native.Mathlib.Numerals.{add-one}
use native.Mathlib.Omega.{arith}
use lib.ListN.{length, get_or, take, drop, set, length-append, length-drop}
use lib.Seq.{length-take-le, take-length, take-suc, sets-eq}
use Rattle.lists.specs.Joined.{join_to}
use Rattle.lists.proofs.Joins.{written_behind}
use Rattle.hex_lines.specs.Hex.{hex_digit, hex_of, line_end, line_of}
use Rattle.hex_lines.proofs.HexLaws.{length-hex_of, hex_of-append}

-- two stores are a byte
pub stored_byte : (out : List ℕ) (at b : ℕ) → at + 2 ≤ length out
    → set (set out at (hex_digit (b / 16))) (at + 1) (hex_digit (b % 16)) ≡ take at out ++ hex_of (b ∷ []) ++ drop (at + 2) out
unfolding hex_of
stored_byte out at b h = rw add-one (sets-eq (hex_digit (b / 16) ∷ hex_digit (b % 16) ∷ []) out at h)

pub length-line_of : (bytes : List ℕ) → length (line_of bytes) ≡ 2 * length bytes + 1
unfolding line_of
length-line_of bytes = length-append (hex_of bytes) (line_end ∷ []) ∙ ap (λ n. n + 1) (length-hex_of bytes)

-- the characters of byte i
abbrev pub pair_of : (bytes : List ℕ) (i : ℕ) → List ℕ
pair_of bytes i = hex_of (get_or bytes i 0 ∷ [])

pub pair_long : (bytes : List ℕ) (i : ℕ) → length (pair_of bytes i) ≡ 2
unfolding hex_of
pair_long bytes i = refl

pairs_joined : (bytes : List ℕ) (i : ℕ) → i ≤ length bytes → join_to (pair_of bytes) i ≡ hex_of (take i bytes)
unfolding join_to hex_of
pairs_joined bytes zero h = refl
pairs_joined bytes (suc i) h =
    rw (pairs_joined bytes i (omega arith), take-suc bytes i 0 (omega arith)) (sym (hex_of-append (take i bytes) (get_or bytes i 0 ∷ [])))

pub all-joined : (bytes : List ℕ) → join_to (pair_of bytes) (length bytes) ≡ hex_of bytes
all-joined bytes = pairs_joined bytes (length bytes) (omega arith) ∙ ap hex_of (take-length bytes)

-- the line's ending behind the bytes
pub written-line : (o : List ℕ) (at : ℕ) (bytes : List ℕ) {out : List ℕ} → at + 2 * length bytes + 1 ≤ length o
    → out ≡ take at o ++ hex_of bytes ++ drop (at + 2 * length bytes) o
    → set out (at + 2 * length bytes) line_end ≡ take at o ++ line_of bytes ++ drop (at + 2 * length bytes + 1) o
unfolding line_of
written-line o at bytes {out} fits e =
    let front : List ℕ = take at o ++ hex_of bytes in
    let end : ℕ = at + 2 * length bytes in
    let front_long : length front ≡ end = length-append (take at o) (hex_of bytes) ∙ rw (length-take-le at o (omega arith), length-hex_of) in
    let long : length out ≡ length o = ap length e ∙ length-append front (drop end o) ∙ omega (arith, front_long, length-drop end o) in
    written_behind front (line_end ∷ []) o end 1 front_long e (sets-eq (line_end ∷ []) out end (omega (arith, long)))
    ∙ rw (append_assoc (take at o) (hex_of bytes) (line_end ∷ []))
