-- A sheet is judged the same from each place of the reader on; the text's line, and the end of the sheet.
use mathlib.Core.Path.{◌≡◌, refl, sym, ap, ◌∙◌}
use mathlib.Core.List.{List, [], ◌∷◌}
use Prim.Native.Nat.{ℕ, zero, suc, ◌+◌, ◌-◌, ◌*◌, ◌/◌, ◌≤◌, ◌<◌}
use native.Mathlib.Numerals.{add-one}
use native.Mathlib.Omega.{arith}
use lib.ListN.{length, drop, drop_of_length-le}
use lib.Seq.{drop-cons}
use Rattle.hex_lines.specs.Hex.{Line, wrong, right}
use Rattle.profile.specs.declared.Profile.{Profile}
use Rattle.frames.specs.Frames.{SizesInLimits, Frame, frames, text_frame, frame_at}
use Rattle.frames.specs.Lines.{read_frame}
use Rattle.frames.proofs.FrameLaws.{read_frame_lem, line-behind}
use Rattle.frames.proofs.FrameNumbers.{length-frames}
use Rattle.frame_reader.specs.Places.{behind_line, place_after, place_at}
use Rattle.frame_reader.specs.declared.Place.{Place}
use Rattle.frame_reader.proofs.PlaceLaws.{line-here, text-taken}
use Rattle.std.specs.Prelude.{Result, Ok, Err, MatchResult, IsErrAnd}
use Rattle.refusal.specs.declared.Refusal.{Refusal}
use Rattle.refusal.specs.declared.Refusal.TheVariants.{SheetLine}
use Rattle.frame_reader.specs.declared.Passed.{Passed}
use Rattle.sheet_reader.specs.Sheet.{Reading, wrong_line, read, in_front, followed, ended, read_frames, read_sheet}
use Rattle.sheet_reader.specs.inner.Judging.{read_at, judgement}

judgement-front : (bytes : List ℕ) (r : Reading) → judgement (in_front bytes r) ≡ judgement r
unfolding judgement in_front
judgement-front bytes (wrong_line n) = refl
judgement-front bytes (read signature text) = refl

-- the sheet is judged the same from the next place on, whatever is to come
module _ (sheet : List ℕ) (f : Frame) where
  after-judged : (r : Result Place Place) (fs : List Frame) → judgement (read_at sheet r (f ∷ fs)) ≡ judgement (read_at sheet (place_after sheet f r) fs)
  unfolding read_at place_after behind_line read_frames followed
  after-judged (Err there) fs = refl
  after-judged (Ok here) fs = by (line-here sheet f here) refl
    where
      by : (l : Line) → line-here sheet f here ≡ l
          → judgement (read_at sheet (Ok here) (f ∷ fs)) ≡ judgement (read_at sheet (behind_line here (length f.head) (line-here sheet f here)) fs)
      by wrong q = rw q
      by (right bytes rest) q =
          let behind = line-behind sheet here.at f.head bytes rest (read_frame_lem f (drop here.at sheet) bytes rest q).line in
          rw (q, behind, add-one) (judgement-front bytes (read_frames fs (suc here.line) rest))

-- and so from the place before each frame of a profile on
module _ (p : Profile) (sheet : List ℕ) where
  judged-at : (k : ℕ) → k ≤ length (frames p) → judgement (read_sheet p sheet) ≡ judgement (read_at sheet (place_at sheet p k) (drop k (frames p)))
  unfolding place_at read_sheet read_at
  judged-at zero h = refl
  judged-at (suc k) h =
      judged-at k (omega arith) ∙ ap (λ fs. judgement (read_at sheet (place_at sheet p k) fs)) (drop-cons (frames p) k text_frame (omega arith))
      ∙ after-judged sheet (frame_at p k) (place_at sheet p k) (drop (suc k) (frames p))

  pub judged-text : (k : ℕ) → k ≡ length (frames p) → judgement (read_sheet p sheet) ≡ judgement (read_at sheet (place_at sheet p k) [])
  judged-text k e = judged-at k (omega arith) ∙ ap (λ fs. judgement (read_at sheet (place_at sheet p k) fs)) (drop_of_length-le (frames p) {i = k} (omega arith))

-- the text's line: a line is wrong
pub end_wrong : (sheet : List ℕ) (r : Result Place Place) {last : Place} → place_after sheet text_frame r ≡ Err last → Err (SheetLine last.line) ≡ judgement (read_at sheet r [])
unfolding read_at place_after behind_line read_frames ended judgement
end_wrong sheet (Err there) {last} e = let same : there ≡ last = cc in rw same
end_wrong sheet (Ok here) {last} e = by (line-here sheet text_frame here) refl e
  where
    by : (l : Line) → line-here sheet text_frame here ≡ l → behind_line here 1 l ≡ Err last → Err (SheetLine last.line) ≡ judgement (ended here.line (line-here sheet text_frame here))
    by wrong q e = let same : here ≡ last = cc in rw (q, same)
    by (right text rest) q e = cc

-- or the text is read
record Ending (sheet : List ℕ) (here last : Place) : Type 0 where
  text : List ℕ
  next : last.line ≡ suc here.line
  far : last.at ≡ here.at + 2 * (1 + length text) + 1
  reads : read_at sheet (Ok here) [] ≡ ended here.line (right text (drop last.at sheet))

-- and the sheet ends behind it, or doesn't
module _ (sheet : List ℕ) (here last : Place) (e : place_after sheet text_frame (Ok here) ≡ Ok last) where
  ending : Ending sheet here last
  unfolding read_at place_after behind_line read_frames ended
  ending = by (line-here sheet text_frame here) refl e
    where
      by : (l : Line) → line-here sheet text_frame here ≡ l → behind_line here 1 l ≡ Ok last → Ending sheet here last
      by wrong q s = cc
      by (right text rest) q s =
          let behind = line-behind sheet here.at (6 ∷ []) text rest (read_frame_lem text_frame (drop here.at sheet) text rest q).line in
          let same : record { at = here.at + 2 * (1 + length text) + 1; line = here.line + 1 } ≡ last = cc in
          rw (← same) (record { text = text; next = add-one here.line; far = refl; reads = rw (q, behind) })

  pub end_room : here.at + 3 ≤ last.at
  end_room = omega (arith, ending.far)

  pub end_more : last.at < length sheet → Err (SheetLine last.line) ≡ judgement (read_at sheet (Ok here) [])
  unfolding ended judgement
  end_more h = rw (ending.reads, drop-cons sheet last.at 0 h, ending.next)

  pub end_right : length sheet ≤ last.at → Ok ((last.at - here.at - 1) / 2 - 1) ≡ judgement (read_at sheet (Ok here) [])
  unfolding ended judgement
  end_right h =
      let none : drop last.at sheet ≡ [] = drop_of_length-le sheet {i = last.at} h in
      let count : (last.at - here.at - 1) / 2 - 1 ≡ length ending.text = omega (arith, ending.far) in
      rw (ending.reads, none, count)

-- the number of a wrong line: no line is counted before the first, and none behind the first one after the text
abbrev Counted : (line lines n : ℕ) → Type 0
Counted line lines n = (line ≤ n) × (n ≤ line + lines + 1)

line_end_lem : (line n : ℕ) (l : Line) → ended line l ≡ wrong_line n → Counted line 0 n
unfolding ended
line_end_lem line n wrong e = let same : line ≡ n = cc in (omega arith, omega arith)
line_end_lem line n (right text []) e = let z : ◌≡◌ {A = ℕ} 0 1 = cc in absurd (omega arith)
line_end_lem line n (right text (c ∷ rest)) e = let same : suc line ≡ n = cc in (omega arith, omega arith)

line-counted : (fs : List Frame) (line : ℕ) (sheet : List ℕ) (n : ℕ) → read_frames fs line sheet ≡ wrong_line n → Counted line (length fs) n
unfolding read_frames followed in_front
line-counted [] line sheet n e = line_end_lem line n (read_frame text_frame sheet) e
line-counted (f ∷ fs) line sheet n e = by (read_frame f sheet) e (λ rest. line-counted fs (suc line) rest n)
  where
    next : (bytes : List ℕ) (r : Reading) → in_front bytes r ≡ wrong_line n → (r ≡ wrong_line n → Counted (suc line) (length fs) n)
        → Counted line (length (f ∷ fs)) n
    next bytes (wrong_line m) e inner = let c = inner e in (omega arith, omega arith)
    next bytes (read signature text) e inner = let z : ◌≡◌ {A = ℕ} 0 1 = cc in absurd (omega arith)

    by : (l : Line) → followed line l (read_frames fs (suc line)) ≡ wrong_line n
        → ((rest : List ℕ) → read_frames fs (suc line) rest ≡ wrong_line n → Counted (suc line) (length fs) n)
        → Counted line (length (f ∷ fs)) n
    by wrong e inner = let same : line ≡ n = cc in (omega arith, omega arith)
    by (right bytes rest) e inner = next bytes (read_frames fs (suc line) rest) e (inner rest)

-- so the line that a sheet is judged to be wrong in has a small number
pub judged_small : (p : Profile) (sheet : List ℕ) {n : ℕ} → SizesInLimits p → Err (SheetLine n) ≡ judgement (read_sheet p sheet) → n ≤ 56
unfolding judgement read_sheet
judged_small p sheet {n} h e = by (read_sheet p sheet) refl e
  where
    by : (r : Reading) → read_sheet p sheet ≡ r → Err (SheetLine n) ≡ judgement r → n ≤ 56
    by (wrong_line m) q e =
        let same : n ≡ m = cc in
        omega (arith, line-counted (frames p) 1 sheet m q, length-frames p, h.0.few_chains, h.1)
    by (read signature text) q e = cc

-- where the reader stood before the text and stands behind it, or its wrong line, of which the cause tells
module _ (p : Profile) (sheet : List ℕ) (k : ℕ) (all : k ≡ length (frames p)) (r : Result Passed Place)
    (told : MatchResult r (λ v. (place_at sheet p k ≡ Ok v.text) × (place_at sheet p (suc k) ≡ Ok v.end)) (λ there. place_at sheet p (suc k) ≡ Err there)) where
  pub line_judged : {there : Place} → r ≡ Err there → Err (SheetLine there.line) ≡ judgement (read_sheet p sheet)
  line_judged e = end_wrong sheet (place_at sheet p k) (sym (text-taken p sheet k all) ∙ rw e at told) ∙ sym (judged-text p sheet k all)

  -- the text's frame is the last
  pub text_last : {v : Passed} → r ≡ Ok v → place_after sheet text_frame (Ok v.text) ≡ Ok v.end
  text_last e = let both = rw e at told in ap (place_after sheet text_frame) (sym both.0) ∙ sym (text-taken p sheet k all) ∙ both.1

  pub text_judged : {v : Passed} → r ≡ Ok v → judgement (read_at sheet (Ok v.text) []) ≡ judgement (read_sheet p sheet)
  text_judged e = let both = rw e at told in ap (λ q. judgement (read_at sheet q [])) (sym both.0) ∙ sym (judged-text p sheet k all)

  module _ {m : Result Passed Refusal} (cases : MatchResult r (λ v. m ≡ Ok v) (λ there. IsErrAnd m (λ cause. cause ≡ SheetLine there.line))) where
    pub handed-on : {v : Passed} → m ≡ Ok v → r ≡ Ok v
    handed-on {v} e = by r cases refl
      where
        by : (s : Result Passed Place) → MatchResult s (λ v. m ≡ Ok v) (λ there. IsErrAnd m (λ cause. cause ≡ SheetLine there.line)) → r ≡ s → r ≡ Ok v
        by (Ok x) q same = let value : x ≡ v = cc in rw (same, value)
        by (Err there) q same = absurd (rw e at q)

    pub cause_judged : {cause : Refusal} → m ≡ Err cause → Err cause ≡ judgement (read_sheet p sheet)
    cause_judged {cause} e = by r cases refl
      where
        by : (s : Result Passed Place) → MatchResult s (λ v. m ≡ Ok v) (λ there. IsErrAnd m (λ cause. cause ≡ SheetLine there.line)) → r ≡ s
            → Err cause ≡ judgement (read_sheet p sheet)
        by (Ok x) q same = cc
        by (Err there) q same = let tells : cause ≡ SheetLine there.line = rw e at q in rw tells (line_judged same)
