-- The right sheets are those that are read, each as what it carries.
use mathlib.Core.Path.{◌≡◌, refl, sym, ap, ◌∙◌}
use mathlib.Core.List.{List, [], ◌∷◌, ◌++◌, append_assoc, append-nil}
use Prim.Native.Nat.{ℕ, suc, ◌≤◌}
use native.Mathlib.Omega.{arith}
use lib.Dec.{lit<}
use lib.ListN.{length, take, drop, length-append, length-drop, take-append-drop}
use lib.Seq.{take_at, drop_at, length-take-le}
use Rattle.lists.proofs.Lists.{Below, below-by_test, below-append, below-take, below-drop}
use Rattle.hex_lines.specs.Hex.{Line, wrong, right, line_of}
use Rattle.frames.specs.Frames.{Frame, frames, text_frame}
use Rattle.frames.specs.Lines.{lines_of, sheet_of, read_frame}
use Rattle.frames.proofs.FrameLaws.{frame_read, Framed, read_frame_lem}
use Rattle.frames.proofs.FrameList.{Sized, Bytes, total, frames-sized, frames-total, frames-bytes}
use Rattle.sheet_reader.specs.Sheet.{Reading, wrong_line, read, in_front, followed, ended, read_frames, read_sheet, Carried, Exact}

-- the lines of frames with their bytes, and the text's line, are read as they are
lines-read : (fs : List Frame) (line : ℕ) (bytes text : List ℕ) → Sized fs → Bytes fs → length bytes ≡ total fs → Below 256 bytes
    → read_frame text_frame (line_of (text_frame.head ++ text)) ≡ right text []
    → read_frames fs line (lines_of fs bytes ++ line_of (text_frame.head ++ text)) ≡ read bytes text
unfolding read_frames lines_of followed in_front ended
lines-read [] line [] text s b long below last = rw last
lines-read [] line (x ∷ bytes) text s b long below last = absurd (omega arith)
lines-read (f ∷ fs) line bytes text s b long below last =
    let here : length (take f.high bytes) ≡ f.high = length-take-le f.high bytes (omega arith) in
    let rest : length (drop f.high bytes) ≡ total fs = length-drop f.high bytes ∙ omega arith in
    rw (
      append_assoc (line_of (f.head ++ take f.high bytes)) (lines_of fs (drop f.high bytes)) (line_of (6 ∷ text)),
      frame_read f (take f.high bytes) (lines_of fs (drop f.high bytes) ++ line_of (6 ∷ text)) b.0 (below-take 256 f.high bytes (lit< tt) below)
          (omega (arith, s.0)) (omega arith),
      lines-read fs (suc line) (drop f.high bytes) text s.1 b.1 rest (below-drop 256 f.high bytes below) last,
      take-append-drop,
    )

-- a reading of frames, taken apart
pub record Apart (fs : List Frame) (sheet signature text : List ℕ) : Type 0 where
  pub lines : sheet ≡ lines_of fs signature ++ line_of (text_frame.head ++ text)
  pub whole : length signature ≡ total fs
  pub below : Below 256 signature
  pub text-below : Below 256 text
  pub some_text : 1 ≤ length text
  pub short_text : length text ≤ 200

not_read : {A : Type 0} (n : ℕ) (signature text : List ℕ) → wrong_line n ≡ read signature text → A
not_read n signature text e = let z : ◌≡◌ {A = ℕ} 0 1 = cc in absurd (omega arith)

read-text : (line : ℕ) (sheet signature text : List ℕ) → ended line (read_frame text_frame sheet) ≡ read signature text → Apart [] sheet signature text
unfolding ended lines_of
read-text line sheet signature text e = by (read_frame text_frame sheet) refl e
  where
    by : (l : Line) → read_frame text_frame sheet ≡ l → ended line l ≡ read signature text → Apart [] sheet signature text
    by wrong q e = not_read line signature text e
    by (right bytes []) q e =
        let f = read_frame_lem text_frame sheet bytes [] q in
        let none : [] ≡ signature = cc in
        let same : bytes ≡ text = cc in
        record {
          lines = f.line ∙ append-nil (line_of (6 ∷ bytes)) ∙ ap (λ t. line_of (6 ∷ t)) same;
          whole = rw (← none);
          below = rw (← none) (λ i. lit< tt);
          text-below = rw same at f.below;
          some_text = rw same at f.some;
          short_text = rw same at f.few;
        }
    by (right bytes (c ∷ rest)) q e = not_read (suc line) signature text e

-- a frame in front
one_more : (f : Frame) (fs : List Frame) (sheet bytes rest more text : List ℕ) → f.low ≡ f.high → Framed f sheet bytes rest → Apart fs rest more text
    → Apart (f ∷ fs) sheet (bytes ++ more) text
unfolding lines_of
one_more f fs sheet bytes rest more text s g a =
    let long : length bytes ≡ f.high = omega (arith, s, g.some, g.few) in
    record {
      lines =
          g.line ∙ rw (a.lines, take_at bytes more f.high long, drop_at bytes more f.high long)
          (sym (append_assoc (line_of (f.head ++ bytes)) (lines_of fs more) (line_of (6 ∷ text))));
      whole = length-append bytes more ∙ omega (arith, a.whole);
      below = below-append 256 bytes more g.below a.below;
      text-below = a.text-below;
      some_text = a.some_text;
      short_text = a.short_text;
    }

pub read-lines : (fs : List Frame) (line : ℕ) (sheet signature text : List ℕ) → Sized fs → read_frames fs line sheet ≡ read signature text
    → Apart fs sheet signature text
unfolding read_frames followed in_front
read-lines [] line sheet signature text s e = read-text line sheet signature text e
read-lines (f ∷ fs) line sheet signature text s e =
    by (read_frame f sheet) refl e (λ rest more text'. read-lines fs (suc line) rest more text' s.1)
  where
    next : (bytes rest : List ℕ) → Framed f sheet bytes rest → (r : Reading) → in_front bytes r ≡ read signature text
        → ((more text' : List ℕ) → r ≡ read more text' → Apart fs rest more text') → Apart (f ∷ fs) sheet signature text
    next bytes rest g (wrong_line n) e inner = not_read n signature text e
    next bytes rest g (read more text') e inner =
        let front : bytes ++ more ≡ signature = cc in
        let same : text' ≡ text = cc in
        rw (← front, ← same) (one_more f fs sheet bytes rest more text' s.0 g (inner more text' refl))

    by : (l : Line) → read_frame f sheet ≡ l → followed line l (read_frames fs (suc line)) ≡ read signature text
        → ((rest more text' : List ℕ) → read_frames fs (suc line) rest ≡ read more text' → Apart fs rest more text') → Apart (f ∷ fs) sheet signature text
    by wrong q e inner = not_read line signature text e
    by (right bytes rest) q e inner = next bytes rest (read_frame_lem f sheet bytes rest q) (read_frames fs (suc line) rest) e (inner rest)

pub exact : Exact
unfolding read_sheet sheet_of
exact p within sheet signature text = (there, back)
  where
    there : read_sheet p sheet ≡ read signature text → Carried p signature text × (sheet ≡ sheet_of p signature text)
    there e =
        let a = read-lines (frames p) 1 sheet signature text (frames-sized p) e in (
          record {
            signature_bytes = a.below;
            text_bytes = a.text-below;
            whole = a.whole ∙ frames-total p;
            some_text = a.some_text;
            short_text = a.short_text;
          },
          a.lines,
        )

    back : Carried p signature text × (sheet ≡ sheet_of p signature text) → read_sheet p sheet ≡ read signature text
    back c =
        let d = c.0 in
        let last = rw append-nil at (frame_read text_frame text [] (below-by_test 256 (6 ∷ []) tt) d.text_bytes d.some_text d.short_text) in
        rw c.1 (lines-read (frames p) 1 signature text (frames-sized p) (frames-bytes p within) (d.whole ∙ sym (frames-total p)) d.signature_bytes last)
