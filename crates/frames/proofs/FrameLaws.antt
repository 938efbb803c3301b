-- A frame's line is read as what stands behind its fixed bytes, and no other line is read so.
use mathlib.Core.Path.{◌≡◌, refl, sym, ap, ◌∙◌}
use mathlib.Core.Bool.{Bool, true, false, cond}
use mathlib.Core.List.{List, [], ◌∷◌, ◌++◌}
use Prim.Native.Nat.{ℕ, ◌+◌, ◌*◌, ◌≤◌}
use native.Mathlib.Omega.{arith}
use borrow.Author.Tests.{eq-eqb, eqb-true}
use lib.Dec.{eqb}
use lib.ListN.{length, drop, length-append, length-drop}
use lib.Seq.{drop_at, drop-drop}
use Rattle.lists.proofs.Lists.{Below, below-append, below-behind}
use Rattle.profile.specs.Checks.{outside}
use Rattle.profile.proofs.Limits.{inside, not_outside}
use Rattle.hex_lines.specs.Hex.{Line, wrong, right, line_of, read_line}
use Rattle.hex_lines.proofs.HexLaws.{wrong-right, read-line-of, line-of-read}
use Rattle.hex_lines.proofs.Writing.{length-line_of}
use Rattle.frames.specs.Frames.{Frame}
use Rattle.frames.specs.Lines.{without, within, read_frame}

without-head : (head bytes rest : List ℕ) → without head (right (head ++ bytes) rest) ≡ right bytes rest
unfolding without
without-head [] bytes rest = refl
without-head (h ∷ head) bytes rest = rw (eq-eqb h h refl) (without-head head bytes rest)

-- where something is left behind a head, the line begins with it
head-without : (head : List ℕ) (line : Line) (bytes rest : List ℕ) → without head line ≡ right bytes rest → line ≡ right (head ++ bytes) rest
unfolding without
head-without [] line bytes rest e = e
head-without (h ∷ head) wrong bytes rest e = wrong-right e
head-without (h ∷ head) (right [] rest') bytes rest e = wrong-right e
head-without (h ∷ head) (right (b ∷ more) rest') bytes rest e = by (eqb b h) refl e (head-without head (right more rest') bytes rest)
  where
    by : (same : Bool) → eqb b h ≡ same → cond same (without head (right more rest')) wrong ≡ right bytes rest
        → (without head (right more rest') ≡ right bytes rest → right more rest' ≡ right (head ++ bytes) rest)
        → right (b ∷ more) rest' ≡ right (h ∷ (head ++ bytes)) rest
    by true test e next = let first = eqb-true b h test in let behind = next e in cc
    by false test e next = wrong-right e

within-inside : (low high : ℕ) (bytes rest : List ℕ) → low ≤ length bytes → length bytes ≤ high → within low high (right bytes rest) ≡ right bytes rest
unfolding within
within-inside low high bytes rest some few = rw (inside low high (length bytes) some few)

-- what has low to high bytes
inside-within : (low high : ℕ) (line : Line) (bytes rest : List ℕ) → within low high line ≡ right bytes rest → (line ≡ right bytes rest) × (low ≤ length bytes)
    × (length bytes ≤ high)
unfolding within
inside-within low high wrong bytes rest e = wrong-right e
inside-within low high (right more rest') bytes rest e = by (outside low high (length more)) refl e
  where
    by : (test : Bool) → outside low high (length more) ≡ test → cond test wrong (right more rest') ≡ right bytes rest
        → (right more rest' ≡ right bytes rest) × (low ≤ length bytes) × (length bytes ≤ high)
    by true test e = wrong-right e
    by false test e = let limits = not_outside low high (length more) test in let same : more ≡ bytes = cc in
        (e, (rw same at limits.0), (rw same at limits.1))

pub frame_read : (f : Frame) (bytes rest : List ℕ) → Below 256 f.head → Below 256 bytes → f.low ≤ length bytes → length bytes ≤ f.high
    → read_frame f (line_of (f.head ++ bytes) ++ rest) ≡ right bytes rest
unfolding read_frame
frame_read f bytes rest head below some few =
    rw (read-line-of (f.head ++ bytes) rest (below-append 256 f.head bytes head below), without-head f.head bytes rest)
    (within-inside f.low f.high bytes rest some few)

-- what a line is that is read as a frame with these bytes
pub record Framed (f : Frame) (sheet bytes rest : List ℕ) : Type 0 where
  pub line : sheet ≡ line_of (f.head ++ bytes) ++ rest
  pub below : Below 256 bytes
  pub some : f.low ≤ length bytes
  pub few : length bytes ≤ f.high

pub read_frame_lem : (f : Frame) (sheet bytes rest : List ℕ) → read_frame f sheet ≡ right bytes rest → Framed f sheet bytes rest
unfolding read_frame
read_frame_lem f sheet bytes rest e =
    let limits = inside-within f.low f.high (without f.head (read_line sheet)) bytes rest e in
    let line = line-of-read sheet (head-without f.head (read_line sheet) bytes rest limits.0) in
    record { line = line.line; below = below-behind 256 f.head bytes line.below; some = limits.1; few = limits.2 }

pub line-long : (head bytes : List ℕ) → length (line_of (head ++ bytes)) ≡ 2 * (length head + length bytes) + 1
line-long head bytes = length-line_of (head ++ bytes) ∙ ap (λ n. 2 * n + 1) (length-append head bytes)

-- a line that begins at an index: what stands behind it
module _ (sheet : List ℕ) (at : ℕ) (head bytes rest : List ℕ) (e : drop at sheet ≡ line_of (head ++ bytes) ++ rest) where
  pub line-behind : drop (at + 2 * (length head + length bytes) + 1) sheet ≡ rest
  line-behind =
      let same : at + 2 * (length head + length bytes) + 1 ≡ at + (2 * (length head + length bytes) + 1) = omega arith in
      rw same
      (sym (drop-drop (2 * (length head + length bytes) + 1) at sheet) ∙ ap (drop (2 * (length head + length bytes) + 1)) e
      ∙ drop_at (line_of (head ++ bytes)) rest (2 * (length head + length bytes) + 1) (line-long head bytes))

  pub line-within : at + 2 * (length head + length bytes) + 1 ≤ length sheet
  line-within = omega (arith, line-long head bytes, length-drop at sheet, ap length e, length-append (line_of (head ++ bytes)) rest)
