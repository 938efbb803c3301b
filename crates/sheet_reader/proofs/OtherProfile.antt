-- The profile's line: no line but its frame is right there, and the frame of another profile is another.
use mathlib.Core.Path.{◌≡◌, refl, sym, ap, ◌∙◌}
use mathlib.Core.Bool.{Bool, true, false, cond}
use mathlib.Core.List.{List, [], ◌∷◌, ◌++◌, append_assoc, append-nil}
use Prim.Native.Nat.{ℕ, ◌+◌, ◌/◌, ◌%◌, ◌^◌, ◌≤◌}
use native.Mathlib.Omega.{arith}
use borrow.Author.Tests.{eqb-true, eqb-false}
use lib.Dec.{eqb, lit<, lit≤}
use lib.ListN.{length, get_or, drop}
use Rattle.refusal.specs.Code.{first_cause}
use Rattle.octets.specs.Bytes.{to_bytes}
use Rattle.lists.proofs.Lists.{below-by_test}
use Rattle.profile.specs.Checks.{profile_causes}
use Rattle.profile.specs.declared.Profile.{Profile}
use Rattle.profile.proofs.Limits.{profile-passed, profile-limits, sum-small}
use Rattle.hex_lines.specs.Hex.{Line, wrong, right, line_of, read_line}
use Rattle.hex_lines.proofs.HexLaws.{read-line-of}
use Rattle.frames.specs.Frames.{first_frame, edition_byte, profile_frame, leaf_frame, randomizer_frame, numbered, frames, text_frame}
use Rattle.frames.specs.Lines.{lines_of, sheet_of, read_frame}
use Rattle.frames.proofs.FrameLaws.{frame_read, read_frame_lem}
use Rattle.frames.proofs.FrameList.{profile-below}
use Rattle.sheet_reader.specs.Sheet.{wrong_line, in_front, followed, read_frames, read_sheet, ProfileLine}

-- the first line is read, and the next is looked at
first_read : (rest : List ℕ) → read_frame first_frame (line_of first_frame.head ++ rest) ≡ right [] rest
first_read rest = frame_read first_frame [] rest (below-by_test 256 first_frame.head tt) (λ i. lit< tt) (lit≤ tt) (lit≤ tt)

second-wrong : (p : Profile) (rest : List ℕ) → read_frame (profile_frame p) rest ≡ wrong → read_sheet p (line_of first_frame.head ++ rest) ≡ wrong_line 2
unfolding read_sheet frames read_frames followed in_front
second-wrong p rest e = rw (first_read rest, e)

-- a line that is read as the profile's frame is that frame
frame_alone : (p : Profile) (rest : List ℕ) (line : Line) → read_frame (profile_frame p) rest ≡ line
    → ((tail : List ℕ) → rest ≡ line_of (profile_frame p).head ++ tail → ⊥) → line ≡ wrong
unfolding profile_frame
frame_alone p rest wrong q other = refl
frame_alone p rest (right [] tail) q other = absurd (other tail (rw append-nil at (read_frame_lem (profile_frame p) rest [] tail q).line))
frame_alone p rest (right (b ∷ bytes) tail) q other = absurd (omega (arith, (read_frame_lem (profile_frame p) rest (b ∷ bytes) tail q).few))

wrong_frame_lem : (p : Profile) (rest : List ℕ) → ((tail : List ℕ) → rest ≡ line_of (profile_frame p).head ++ tail → ⊥)
    → read_sheet p (line_of first_frame.head ++ rest) ≡ wrong_line 2
wrong_frame_lem p rest other = second-wrong p rest (frame_alone p rest (read_frame (profile_frame p) rest) refl other)

-- an edition by its byte
edition_told : (e : ℕ) → (1 ≤ e) × (e ≤ 2) → e ≡ 1 + length (edition_byte e)
unfolding edition_byte
edition_told e named = by (eqb e 2) refl
  where
    by : (second : Bool) → eqb e 2 ≡ second → e ≡ 1 + length {A = ℕ} (cond second (2 ∷ []) [])
    by true q = eqb-true e 2 q
    by false q = let other = eqb-false e 2 q in omega arith

-- a profile by its numbers
abbrev numbers : (chains width sum height edition : ℕ) → Profile
numbers chains width sum height edition = record { shape = record { chains = chains; width = width; sum = sum }; height = height; edition = edition }

same_numbers : (p q : Profile) → p.shape.chains ≡ q.shape.chains → p.shape.width ≡ q.shape.width → p.shape.sum ≡ q.shape.sum → p.height ≡ q.height
    → p.edition ≡ q.edition → p ≡ q
same_numbers p q l w s h e =
    let same : numbers p.shape.chains p.shape.width p.shape.sum p.height p.edition
    ≡ numbers q.shape.chains q.shape.width q.shape.sum q.height q.edition = rw (l, w, s, h, e) in
    same

module _ (p q : Profile) (passed-p : first_cause (profile_causes p) ≡ 0) (passed-q : first_cause (profile_causes q) ≡ 0) where
  -- profiles with one frame are the same
  same_frame : (profile_frame p).head ≡ (profile_frame q).head → p ≡ q
  unfolding profile_frame to_bytes
  same_frame e =
      let small-p = sum-small p.shape (profile-limits p passed-p).0 in
      let small-q = sum-small q.shape (profile-limits q passed-q).0 in
      let high : p.shape.sum / 256 ^ 1 % 256 ≡ q.shape.sum / 256 ^ 1 % 256 = ap (λ l. get_or l 4 0) e in
      let low : p.shape.sum / 256 ^ 0 % 256 ≡ q.shape.sum / 256 ^ 0 % 256 = ap (λ l. get_or l 5 0) e in
      let edition : length (edition_byte p.edition) ≡ length (edition_byte q.edition) = ap (λ l. length (drop 6 l)) e in
      same_numbers p q (ap (λ l. get_or l 1 0) e) (ap (λ l. get_or l 2 0) e) (omega arith) (ap (λ l. get_or l 3 0) e)
      (omega (arith, edition_told p.edition (profile-passed p passed-p).named, edition_told q.edition (profile-passed q passed-q).named))

  -- the second line of a right sheet is its profile's frame
  module _ (signature text : List ℕ) where
    abbrev behind : List ℕ
    behind = lines_of (leaf_frame ∷ randomizer_frame ∷ (numbered 4 0 q.shape.chains ++ numbered 5 0 q.height)) signature

    abbrev later : List ℕ
    later = behind ++ line_of (text_frame.head ++ text)

    sheet-lines : sheet_of q signature text ≡ line_of first_frame.head ++ (line_of (profile_frame q).head ++ later)
    unfolding sheet_of frames lines_of profile_frame
    sheet-lines =
        let head = (profile_frame q).head in
        let last = line_of (text_frame.head ++ text) in
        append_assoc (line_of first_frame.head) (line_of (head ++ []) ++ behind) last
        ∙ ap (λ l. line_of first_frame.head ++ l) (append_assoc (line_of (head ++ [])) behind last ∙ ap (λ l. line_of l ++ later) (append-nil head))

  other_profile : (p ≡ q → ⊥) → (signature text : List ℕ) → read_sheet p (sheet_of q signature text) ≡ wrong_line 2
  other_profile other signature text =
      rw (sheet-lines signature text)
      (wrong_frame_lem p (line_of (profile_frame q).head ++ later signature text)
      (λ tail e.
      let mine = read-line-of (profile_frame p).head tail (profile-below p (profile-limits p passed-p)) in
      let theirs = read-line-of (profile_frame q).head (later signature text) (profile-below q (profile-limits q passed-q)) in
      other (same_frame (right-bytes (sym mine ∙ ap read_line (sym e) ∙ theirs)))))
    where
      right-bytes : {a b c d : List ℕ} → right a b ≡ right c d → a ≡ c
      right-bytes e = cc

pub profile-line : ProfileLine
profile-line = record { wrong_frame_lem = wrong_frame_lem; other_profile = other_profile }
