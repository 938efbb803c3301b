-- Bytes copied out of a sheet: a turn of each loop, and where the bytes stand in a right sheet.
use mathlib.Core.Path.{◌≡◌, refl, sym, ap, ◌∙◌}
use mathlib.Core.List.{List, [], ◌∷◌, ◌++◌, append_assoc, append-nil}
use Prim.Native.Nat.{ℕ, zero, suc, ◌+◌, ◌*◌, ◌/◌, ◌%◌, ◌≤◌, ◌<◌}
use native.Mathlib.Nat.{zero-add}
use native.Mathlib.Numerals.{add-one}
use native.Mathlib.Omega.{arith}
use lib.Dec.{lit<}
use lib.ListN.{length, get_or, take, drop, set, length-append, length-drop, take-append-drop, drop_of_length-le}
use lib.Seq.{length-take-le, take_all, take_at, drop_at, drop-drop, get_or-drop, paste, paste-suc}
use borrow.Rule.Slice.PartMut.{put_mid}
use Rattle.lists.proofs.Lists.{Below, below-take, below-drop}
use Rattle.profile.specs.declared.Profile.{Profile}
use Rattle.hex_lines.specs.Hex.{hex_digit, hex_of, line_end, line_of, digit_of}
use Rattle.hex_lines.specs.inner.Digits.{byte_at}
use Rattle.std.specs.Prelude.{Some}
use Rattle.std.specs.Option.{unwrap_or}
use Rattle.hex_lines.proofs.HexLaws.{digit_hex, length-hex_of, hex_of-append}
use Rattle.hex_lines.proofs.Reading.{byte_right}
use Rattle.frames.specs.Frames.{Frame, frames, text_frame}
use Rattle.frames.specs.Lines.{lines_of}
use Rattle.frames.specs.inner.Size.{behind_frame, behind_all}
use Rattle.frames.proofs.FrameLaws.{line-behind, line-within}
use Rattle.frames.proofs.FrameList.{total}
use Rattle.sheet_reader.specs.inner.Payload.{bytes_in, payloads}
use Rattle.sheet_reader.proofs.Exactness.{Apart}

length-bytes_in : (sheet : List ℕ) (at n : ℕ) → length (bytes_in sheet at n) ≡ n
unfolding bytes_in
length-bytes_in sheet at zero = refl
length-bytes_in sheet at (suc n) = ap suc (length-bytes_in sheet (at + 2) n)

get_or-bytes_in : (sheet : List ℕ) (at n i : ℕ) → i < n → get_or (bytes_in sheet at n) i 0 ≡ unwrap_or (byte_at sheet (at + 2 * i)) 0
unfolding bytes_in
get_or-bytes_in sheet at zero i h = absurd (omega arith)
get_or-bytes_in sheet at (suc n) zero h = let same : at + 2 * 0 ≡ at = omega arith in rw same
get_or-bytes_in sheet at (suc n) (suc i) h =
    let same : at + 2 * suc i ≡ at + 2 + 2 * i = omega arith in
    rw same (get_or-bytes_in sheet (at + 2) n i (omega arith))

-- a loop that copies n bytes into a slice of n
module _ (sheet : List ℕ) (at : ℕ) (o : List ℕ) where
  abbrev pub copied : List ℕ
  copied = bytes_in sheet at (length o)

  pub copy_next : (i b : ℕ) {out : List ℕ} → i < length o → out ≡ paste o 0 copied i → b ≡ unwrap_or (byte_at sheet (at + 2 * i)) 0
      → set out i b ≡ paste o 0 copied (i + 1)
  copy_next i b {out} h e q =
      let next : set (paste o 0 copied i) (0 + i) (get_or copied i 0) ≡ paste o 0 copied (suc i) =
      paste-suc o 0 copied i 0 (omega arith) (omega (arith, length-bytes_in sheet at (length o))) in
      rw (e, q, ← get_or-bytes_in sheet at (length o) i h, add-one) (ap (λ k. set (paste o 0 copied i) k (get_or copied i 0)) (sym (zero-add i)) ∙ next)

  pub copy_all : (i : ℕ) {out : List ℕ} → i ≡ length o → out ≡ paste o 0 copied i → out ≡ copied
  copy_all i all e =
      e ∙ rw (all, take_all (length o) copied (omega (arith, length-bytes_in sheet at (length o))), drop_of_length-le o {i = 0 + length o} (omega arith))
      (append-nil copied)

-- what a slice holds once a part of it is filled
pub part-filled : (from k n : ℕ) (s ys : List ℕ) → k ≡ n → put_mid from k s ys ≡ take from s ++ ys ++ drop (from + n) s
part-filled from k n s ys e =
    sym (append_assoc (take from s) ys (drop k (drop from s))) ∙ rw e (ap (λ l. take from s ++ ys ++ l) (drop-drop n from s))

-- the payloads of frames are copied one behind the other into the slice o
module _ (sheet : List ℕ) (fs : List Frame) (o : List ℕ) where
  -- the slice s, the next place and the next index, with these frames still to come
  pub record Copying (s : List ℕ) (at from : ℕ) (left : List Frame) : Type 0 where
    pub room : from + total left ≡ total fs
    pub place : behind_all at left ≡ behind_all 0 fs
    pub copied : payloads sheet 0 fs ≡ take from s ++ payloads sheet at left
    pub kept : drop from s ≡ drop from o
    pub long : length s ≡ length o

  pub copying_start : Copying o 0 0 fs
  copying_start = record { room = zero-add (total fs); place = refl; copied = refl; kept = refl; long = refl }

  pub copying_next : (f : Frame) (left : List Frame) (s : List ℕ) (at from fixed n : ℕ) {s' : List ℕ} → fixed ≡ length f.head → n ≡ f.high
      → Copying s at from (f ∷ left) → from + n ≤ length s
      → s' ≡ take from s ++ bytes_in sheet (at + 2 * fixed) n ++ drop (from + n) s → Copying s' (at + 2 * (fixed + n) + 1) (from + n) left
  unfolding behind_all payloads
  copying_next f left s at from fixed n {s'} d h c fits e =
      let mine : List ℕ = bytes_in sheet (at + 2 * fixed) n in
      let front_long : length (take from s ++ mine) ≡ from + n =
      length-append (take from s) mine ∙ omega (arith, length-take-le from s (omega arith), length-bytes_in sheet (at + 2 * fixed) n) in
      let front : take (from + n) s' ≡ take from s ++ mine = ap (take (from + n)) e ∙ take_at (take from s ++ mine) (drop (from + n) s) (from + n) front_long in
      let back : drop (from + n) s' ≡ drop (from + n) s = ap (drop (from + n)) e ∙ drop_at (take from s ++ mine) (drop (from + n) s) (from + n) front_long in
      record {
        room = omega (arith, c.room);
        place = rw (d, h) c.place;
        copied =
            c.copied ∙ rw (front, d, h) (sym (append_assoc (take from s) (bytes_in sheet (at + 2 * length f.head) f.high)
            (payloads sheet (behind_frame at f) left)));
        kept = back ∙ sym (drop-drop n from s) ∙ ap (drop n) c.kept ∙ drop-drop n from o;
        long = ap length e ∙ length-append (take from s ++ mine) (drop (from + n) s) ∙ omega (arith, front_long, length-drop (from + n) s, fits, c.long);
      }

  pub copying_all : (s : List ℕ) (at from : ℕ) → Copying s at from [] → (at ≡ behind_all 0 fs) × (s ≡ payloads sheet 0 fs ++ drop (total fs) o)
  unfolding behind_all payloads
  copying_all s at from c =
      let all : from ≡ total fs = omega (arith, c.room) in
      (c.place, sym (take-append-drop from s) ∙ ap (λ l. l ++ drop from s) (sym (append-nil (take from s)) ∙ sym c.copied) ∙ rw (c.kept, all))

-- a byte that stands as hex
module _ (sheet : List ℕ) (at b : ℕ) (more : List ℕ) (small : b < 256) (e : drop at sheet ≡ hex_digit (b / 16) ∷ hex_digit (b % 16) ∷ more) where
  byte_here : byte_at sheet at ≡ Some b
  byte_here =
      let room : at + 2 ≤ length sheet = omega (arith, ap length e, length-drop at sheet) in
      let none : at ≡ at + 0 = omega arith in
      let first : get_or sheet at 0 ≡ hex_digit (b / 16) = ap (λ k. get_or sheet k 0) none ∙ sym (get_or-drop at sheet 0 0) ∙ ap (λ l. get_or l 0 0) e in
      let second : get_or sheet (at + 1) 0 ≡ hex_digit (b % 16) = sym (get_or-drop at sheet 1 0) ∙ ap (λ l. get_or l 1 0) e in
      let high : digit_of (get_or sheet at 0) ≡ b / 16 = ap digit_of first ∙ digit_hex (b / 16) (omega arith) in
      let low : digit_of (get_or sheet (at + 1) 0) ≡ b % 16 = ap digit_of second ∙ digit_hex (b % 16) (omega arith) in
      byte_right sheet at room (omega (arith, high)) (omega (arith, low)) ∙ ap Some (omega (arith, high, low))

  behind_byte : drop (at + 2) sheet ≡ more
  behind_byte = sym (drop-drop 2 at sheet) ∙ ap (drop 2) e

bytes-here : (sheet : List ℕ) (at : ℕ) (bytes rest : List ℕ) → Below 256 bytes → drop at sheet ≡ hex_of bytes ++ rest → bytes_in sheet at (length bytes) ≡ bytes
unfolding bytes_in hex_of
bytes-here sheet at [] rest below e = refl
bytes-here sheet at (b ∷ bytes) rest below e =
    rw (
      byte_here sheet at b (hex_of bytes ++ rest) (below 0) e,
      bytes-here sheet (at + 2) bytes rest (λ i. below (suc i)) (behind_byte sheet at b (hex_of bytes ++ rest) (below 0) e),
    )

-- a line: the bytes behind its head, and what stands behind it
module _ (sheet : List ℕ) (at : ℕ) (head bytes rest : List ℕ) (e : drop at sheet ≡ line_of (head ++ bytes) ++ rest) where
  line_payload : Below 256 bytes → bytes_in sheet (at + 2 * length head) (length bytes) ≡ bytes
  unfolding line_of
  line_payload below =
      let apart : hex_of (head ++ bytes) ++ (line_end ∷ []) ++ rest ≡ hex_of head ++ (hex_of bytes ++ (line_end ∷ rest)) = rw hex_of-append (simp append_assoc) in
      bytes-here sheet (at + 2 * length head) bytes (line_end ∷ rest) below
      (sym (drop-drop (2 * length head) at sheet) ∙ ap (drop (2 * length head)) (e ∙ apart)
      ∙ drop_at (hex_of head) (hex_of bytes ++ (line_end ∷ rest)) (2 * length head) (length-hex_of head))

-- the first of several frames' lines
module _ (sheet : List ℕ) (at : ℕ) (f : Frame) (fs : List Frame) (bytes tail : List ℕ) (enough : f.high ≤ length bytes)
    (e : drop at sheet ≡ lines_of (f ∷ fs) bytes ++ tail) where
  first-line : drop at sheet ≡ line_of (f.head ++ take f.high bytes) ++ (lines_of fs (drop f.high bytes) ++ tail)
  unfolding lines_of
  first-line = e ∙ append_assoc (line_of (f.head ++ take f.high bytes)) (lines_of fs (drop f.high bytes)) tail

  first_payload : Below 256 bytes → bytes_in sheet (at + 2 * length f.head) f.high ≡ take f.high bytes
  first_payload below =
      ap (bytes_in sheet (at + 2 * length f.head)) (sym (length-take-le f.high bytes enough))
      ∙ line_payload sheet at f.head (take f.high bytes) (lines_of fs (drop f.high bytes) ++ tail) first-line
      (below-take 256 f.high bytes (lit< tt) below)

  first-behind : drop (behind_frame at f) sheet ≡ lines_of fs (drop f.high bytes) ++ tail
  first-behind =
      ap (λ n. drop (at + 2 * (length f.head + n) + 1) sheet) (sym (length-take-le f.high bytes enough))
      ∙ line-behind sheet at f.head (take f.high bytes) (lines_of fs (drop f.high bytes) ++ tail) first-line

-- the payloads in the lines of frames are the bytes that the lines carry, whatever stands behind them
lines-payloads : (sheet : List ℕ) (at : ℕ) (fs : List Frame) (bytes tail : List ℕ) → length bytes ≡ total fs → Below 256 bytes
    → drop at sheet ≡ lines_of fs bytes ++ tail
    → (payloads sheet at fs ≡ bytes) × (drop (behind_all at fs) sheet ≡ tail)
unfolding payloads behind_all lines_of
lines-payloads sheet at [] [] tail long below e = (refl, e)
lines-payloads sheet at [] (b ∷ bytes) tail long below e = absurd (omega arith)
lines-payloads sheet at (f ∷ fs) bytes tail long below e =
    let enough : f.high ≤ length bytes = omega arith in
    let rest : length (drop f.high bytes) ≡ total fs = length-drop f.high bytes ∙ omega arith in
    let inner = lines-payloads sheet (behind_frame at f) fs (drop f.high bytes) tail rest (below-drop 256 f.high bytes below)
    (first-behind sheet at f fs bytes tail enough e) in
    (rw (first_payload sheet at f fs bytes tail enough e below, inner.0) (take-append-drop f.high bytes), inner.1)

-- a right sheet: where the signature and the text stand
module _ (p : Profile) (sheet signature text : List ℕ) (a : Apart (frames p) sheet signature text) where
  carried : (payloads sheet 0 (frames p) ≡ signature) × (drop (behind_all 0 (frames p)) sheet ≡ line_of (text_frame.head ++ text))
  carried = lines-payloads sheet 0 (frames p) signature (line_of (text_frame.head ++ text)) a.whole a.below a.lines

  pub signature-here : payloads sheet 0 (frames p) ≡ signature
  signature-here = carried.0

  last_line : drop (behind_all 0 (frames p)) sheet ≡ line_of (text_frame.head ++ text) ++ []
  last_line = carried.1 ∙ sym (append-nil (line_of (text_frame.head ++ text)))

  pub text-here : bytes_in sheet (behind_all 0 (frames p) + 2 * length text_frame.head) (length text) ≡ text
  text-here = line_payload sheet (behind_all 0 (frames p)) text_frame.head text [] last_line a.text-below

  pub text-within : behind_all 0 (frames p) + 2 * (1 + length text) + 1 ≤ length sheet
  text-within = line-within sheet (behind_all 0 (frames p)) text_frame.head text [] last_line
