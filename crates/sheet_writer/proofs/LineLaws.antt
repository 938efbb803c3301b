-- Lines written into a slice: a frame's line, and those of frames one behind the other.
use mathlib.Core.Path.{◌≡◌, refl, sym, ap, ◌∙◌}
use mathlib.Core.List.{List, [], ◌∷◌, ◌++◌, append_assoc, append-nil}
use Prim.Native.Nat.{ℕ, ◌+◌, ◌-◌, ◌*◌, ◌≤◌}
use native.Mathlib.Omega.{arith}
use lib.ListN.{length, take, drop, set, length-append, length-drop, take-append-drop}
use lib.Seq.{take_at, drop_at, drop-drop, drop-append-add, length-take-le, paste}
use Rattle.lists.proofs.Joins.{written_behind}
use Rattle.hex_lines.specs.Hex.{hex_digit, hex_of, line_end, line_of}
use Rattle.hex_lines.proofs.HexLaws.{length-hex_of, hex_of-append}
use Rattle.hex_lines.proofs.Writing.{length-line_of, written-line}
use Rattle.profile.specs.declared.Profile.{Profile}
use Rattle.frames.specs.Frames.{Frame, first_characters, first_frame, frames}
use Rattle.frames.specs.Lines.{frame_line, lines_of}
use Rattle.frames.specs.inner.Size.{behind_frame, behind_all}
use Rattle.frames.proofs.FrameLaws.{line-long}
use Rattle.frames.proofs.FrameList.{total}

-- the six characters and the line's ending are the first line
pub first-stored : (o : List ℕ) → 7 ≤ length o → set (paste o 0 first_characters 6) 6 line_end ≡ frame_line first_frame [] ++ drop 7 o
unfolding hex_of hex_digit
first-stored o fits = written-line o 0 (71 ∷ 79 ∷ 49 ∷ []) {out = paste o 0 first_characters 6} fits refl

-- the fixed bytes, and behind them a line of the others, are the frame's line
pub frame_written : (o : List ℕ) (at : ℕ) (f : Frame) (bytes : List ℕ) (fixed : ℕ) {out out' : List ℕ} {r : ℕ} → fixed ≡ length f.head
    → at + length (frame_line f bytes) ≤ length o
    → out ≡ take at o ++ hex_of f.head ++ drop (at + 2 * fixed) o → r ≡ at + 2 * fixed + length (line_of bytes)
    → out' ≡ take (at + 2 * fixed) out ++ line_of bytes ++ drop r out
    → (r ≡ at + length (frame_line f bytes)) × (out' ≡ take at o ++ frame_line f bytes ++ drop r o)
unfolding line_of
frame_written o at f bytes fixed {out} {out'} {r} d fits e q w =
    let head = f.head in
    let front : List ℕ = take at o ++ hex_of head in
    let m : ℕ = at + 2 * fixed in
    let long = line-long head bytes in
    let front_long : length front ≡ m = length-append (take at o) (hex_of head) ∙ rw (length-take-le at o (omega arith), length-hex_of head, d) in
    let apart : front ++ line_of bytes ≡ take at o ++ frame_line f bytes =
    append_assoc (take at o) (hex_of head) (hex_of bytes ++ (line_end ∷ []))
    ∙ ap (λ l. take at o ++ l) (sym (append_assoc (hex_of head) (hex_of bytes) (line_end ∷ []))
    ∙ ap (λ l. l ++ (line_end ∷ [])) (sym (hex_of-append head bytes))) in (
      omega (arith, long, length-line_of bytes),
      written_behind front (line_of bytes) o m (length (line_of bytes)) front_long e (w ∙ rw q) ∙ rw (← q, apart),
    )

behind_grows : (at : ℕ) (fs : List Frame) → at ≤ behind_all at fs
unfolding behind_all
behind_grows at [] = omega arith
behind_grows at (f ∷ fs) = omega (arith, behind_grows (behind_frame at f) fs)

-- the lines of frames are written one behind the other into the slice o, with these bytes behind the fixed ones
module _ (fs : List Frame) (bytes o : List ℕ) where
  -- the slice s, the next place and the bytes that are left, with these frames still to come
  pub record Writing (s : List ℕ) (at : ℕ) (rest : List ℕ) (left : List Frame) : Type 0 where
    pub room : total left ≡ length rest
    pub place : behind_all at left ≡ behind_all 0 fs
    pub lines : lines_of fs bytes ≡ take at s ++ lines_of left rest
    pub kept : drop at s ≡ drop at o
    pub long : length s ≡ length o

  -- the next frame, with these of the bytes: its line has room
  module _ (f : Frame) (left : List Frame) (s rest mine : List ℕ) (at : ℕ) (enough : behind_all 0 fs ≤ length o) (cut : mine ≡ take f.high rest)
      (w : Writing s at rest (f ∷ left)) where
    mine-long : length mine ≡ f.high
    mine-long = ap length cut ∙ length-take-le f.high rest (omega (arith, w.room))

    line-ends : at + length (frame_line f mine) ≡ behind_frame at f
    line-ends = omega (arith, line-long f.head mine, mine-long)

    pub writing_room : at + length (frame_line f mine) ≤ length s
    unfolding behind_all
    writing_room = omega (arith, line-ends, w.place, w.long, behind_grows (behind_frame at f) left)

    pub writing_next : {s' : List ℕ} {end : ℕ} → end ≡ at + length (frame_line f mine) → s' ≡ take at s ++ frame_line f mine ++ drop end s
        → Writing s' end (drop f.high rest) left
    unfolding behind_all lines_of
    writing_next {s'} {end} e q =
        let front : List ℕ = take at s ++ frame_line f mine in
        let front_long : length front ≡ end = length-append (take at s) (frame_line f mine) ∙ rw (length-take-le at s (omega (arith, writing_room))) (sym e) in
        record {
          room = omega (arith, w.room, length-drop f.high rest);
          place = ap (λ n. behind_all n left) (e ∙ line-ends) ∙ w.place;
          lines =
              w.lines ∙ ap (λ b. take at s ++ (frame_line f b ++ lines_of left (drop f.high rest))) (sym cut)
              ∙ sym (append_assoc (take at s) (frame_line f mine) (lines_of left (drop f.high rest)))
              ∙ rw (q, take_at front (drop end s) end front_long);
          kept =
              ap (drop end) q ∙ drop_at front (drop end s) end front_long
              ∙ rw e (sym (drop-drop (length (frame_line f mine)) at s) ∙ ap (drop (length (frame_line f mine))) w.kept
              ∙ drop-drop (length (frame_line f mine)) at o);
          long = ap length q ∙ length-append front (drop end s) ∙ omega (arith, front_long, length-drop end s, e, writing_room, w.long);
        }

  pub writing_all : {s rest : List ℕ} {at : ℕ} → Writing s at rest [] → (at ≡ behind_all 0 fs) × (s ≡ lines_of fs bytes ++ drop at o)
  unfolding behind_all lines_of
  writing_all {s} {rest} {at} w = (w.place, sym (take-append-drop at s) ∙ rw (w.kept, w.lines, append-nil))

-- behind the first line: the other frames of a profile are still to come, and what follows is as it was
pub first-written : (p : Profile) (bytes o : List ℕ) {o₁ : List ℕ} → o₁ ≡ frame_line first_frame [] ++ drop 7 o → length bytes ≡ total (frames p)
    → Writing (frames p) bytes o₁ o₁ 7 bytes (drop 1 (frames p))
unfolding frames lines_of behind_all line_of hex_of
first-written p bytes o e whole =
    let none : total (frames p) ≡ 0 + total (drop 1 (frames p)) = refl in
    record {
      room = omega arith;
      place = refl;
      lines = ap (λ l. l ++ lines_of (drop 1 (frames p)) bytes) (sym (ap (take 7) e ∙ take_at (frame_line first_frame []) (drop 7 o) 7 refl));
      kept = refl;
      long = refl;
    }

pub past_first : (o : List ℕ) {o₁ : List ℕ} (at : ℕ) → o₁ ≡ frame_line first_frame [] ++ drop 7 o → 7 ≤ at → drop at o₁ ≡ drop at o
unfolding line_of hex_of
past_first o at e h =
    let same : at ≡ 7 + (at - 7) = omega arith in
    rw same (ap (drop (7 + (at - 7))) e ∙ drop-append-add (frame_line first_frame []) (drop 7 o) (at - 7) ∙ drop-drop (at - 7) 7 o)
