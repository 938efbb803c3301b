-- Places of the reader: what a frame does to one, and frames taken one after another.
use mathlib.Core.Path.{◌≡◌, refl, sym, ap, ◌∙◌}
use mathlib.Core.Bool.{Bool, true, false, true≢false}
use mathlib.Core.List.{List, [], ◌∷◌, ◌++◌}
use Prim.Native.Nat.{ℕ, zero, suc, ◌+◌, ◌-◌, ◌*◌, ◌≤◌}
use native.Mathlib.Omega.{arith}
use lib.Dec.{lit<, lit≤, eqb}
use Rattle.std.specs.Prelude.{Option, Some, None, Result, Ok, Err, ok_or}
use Rattle.std.specs.List.{starts_with}
use Rattle.std.proofs.lemmas.Slice.Eq.{starts_is}
use Rattle.std.proofs.lemmas.Bool.Decides.{Decides-eqb}
use lib.ListN.{length, get_or, take, drop, take-append-drop}
use lib.Seq.{drop-cons}
use Rattle.lists.proofs.Lists.{below-by_test}
use Rattle.hex_lines.specs.Hex.{hex_digit, hex_of, line_end, Line, wrong, right, line_of}
use Rattle.hex_lines.proofs.Reading.{ending-within}
use Rattle.profile.specs.declared.Profile.{Profile}
use Rattle.frames.specs.Frames.{Frame, first_characters, first_frame, frames, text_frame, frame_at}
use Rattle.frames.specs.Lines.{read_frame}
use Rattle.frames.proofs.FrameNumbers.{text_at}
use Rattle.frames.proofs.FrameLaws.{frame_read, read_frame_lem, line-within}
use Rattle.frame_reader.specs.Places.{start, behind_line, place_after, place_at}
use Rattle.frame_reader.specs.inner.Parser.{step_of, Stands, Due}
use Rattle.frame_reader.specs.declared.Place.{Place}

-- what the parser's answer makes of a place
module _ (here : Place) (fixed : ℕ) where
  step-wrong : (line : Line) → step_of here.at fixed line ≡ None → behind_line here fixed line ≡ Err here
  unfolding step_of behind_line
  step-wrong wrong e = refl
  step-wrong (right bytes rest) e = cc

  step-next : (line : Line) (next : ℕ) → step_of here.at fixed line ≡ Some next → behind_line here fixed line ≡ Ok (record { at = next; line = here.line + 1 })
  unfolding step_of behind_line
  step-next wrong next e = cc
  step-next (right bytes rest) next e = let index : here.at + 2 * (fixed + length bytes) + 1 ≡ next = cc in rw index

module _ (sheet : List ℕ) (f : Frame) (here : Place) where
  abbrev pub line-here : Line
  line-here = read_frame f (drop here.at sheet)

  pub after-wrong : (found : Option ℕ) {last : Place} → found ≡ step_of here.at (length f.head) line-here → Err last ≡ ok_or found here
      → Err last ≡ place_after sheet f (Ok here)
  unfolding place_after
  after-wrong None {last} e q = let same : last ≡ here = cc in rw same (sym (step-wrong here (length f.head) line-here (sym e)))
  after-wrong (Some at) e q = cc

  pub after_next : (found : Option ℕ) {next : ℕ} → found ≡ step_of here.at (length f.head) line-here → Ok next ≡ ok_or found here
      → Ok (record { at = next; line = here.line + 1 }) ≡ place_after sheet f (Ok here)
  unfolding place_after
  after_next None e q = cc
  after_next (Some at) {next} e q = let same : next ≡ at = cc in rw same (sym (step-next here (length f.head) line-here at (sym e)))

  after_stands : {next : Place} → Stands sheet here → place_after sheet f (Ok here) ≡ Ok next → Stands sheet next
  unfolding place_after behind_line
  after_stands {next} h e = by line-here refl e
    where
      by : (l : Line) → line-here ≡ l → behind_line here (length f.head) l ≡ Ok next → Stands sheet next
      by wrong q e = cc
      by (right bytes rest) q e =
          let within = line-within sheet here.at f.head bytes rest (read_frame_lem f (drop here.at sheet) bytes rest q).line in
          let same : record { at = here.at + 2 * (length f.head + length bytes) + 1; line = here.line + 1 } ≡ next = cc in
          rw (← same) (within, omega arith)

-- the places before the frames of a profile
module _ (p : Profile) (sheet : List ℕ) where
  stands_at : (k : ℕ) {here : Place} → place_at sheet p k ≡ Ok here → Stands sheet here
  unfolding place_at place_after
  stands_at zero {here} e = let first : start ≡ here = cc in rw (← first) (omega arith, lit≤ tt)
  stands_at (suc k) {here} e = by (place_at sheet p k) (λ before q. stands_at k {here = before} q) refl e
    where
      by : (r : Result Place Place) → ((before : Place) → place_at sheet p k ≡ Ok before → Stands sheet before) → place_at sheet p k ≡ r
          → place_after sheet (frame_at p k) r ≡ Ok here → Stands sheet here
      by (Ok before) stood q e = after_stands sheet (frame_at p k) before (stood before q) e
      by (Err there) stood q e = cc

  pub due_at : (k : ℕ) {here : Place} → place_at sheet p k ≡ Ok here → Due sheet k here
  unfolding place_at
  due_at k {here} e = (stands_at k e, λ none. let first : Ok start ≡ Ok here = sym (ap (place_at sheet p) none) ∙ e in cc)

  -- a line that is wrong stays so
  wrong_on : (n k m : ℕ) {last : Place} → m ≡ n + k → place_at sheet p k ≡ Err last → place_at sheet p m ≡ Err last
  unfolding place_at place_after
  wrong_on zero k m same e = let all : m ≡ k = omega arith in rw all e
  wrong_on (suc n) k m same e = let next : m ≡ suc (n + k) = omega arith in rw (next, wrong_on n k (n + k) refl e)

  -- a frame that is taken, and one that is wrong
  module _ (k : ℕ) {here : Place} (stands : place_at sheet p k ≡ Ok here) where
    pub taken : {next : Place} → Ok next ≡ place_after sheet (frame_at p k) (Ok here) → place_at sheet p (suc k) ≡ Ok next
    unfolding place_at
    taken e = rw stands (sym e)

    pub missed : {last : Place} {n : ℕ} → Err last ≡ place_after sheet (frame_at p k) (Ok here) → k ≤ n → place_at sheet p (suc n) ≡ Err last
    unfolding place_at
    missed {last} {n} e h = wrong_on (n - k) (suc k) (suc n) (omega arith) (rw stands (sym e))

  -- behind the last of them the text's frame is taken
  pub text-taken : (k : ℕ) → k ≡ length (frames p) → place_at sheet p (suc k) ≡ place_after sheet text_frame (place_at sheet p k)
  unfolding place_at
  text-taken k e = ap (λ f. place_after sheet f (place_at sheet p k)) (text_at p k (omega arith))

-- the first line
module _ (sheet : List ℕ) where
  begun : take 6 sheet ≡ first_characters → get_or sheet 6 0 ≡ line_end → read_frame first_frame sheet ≡ right [] (drop 7 sheet)
  unfolding line_of hex_of hex_digit
  begun e end =
      let rest : drop 6 sheet ≡ line_end ∷ drop 7 sheet = rw (drop-cons sheet 6 0 (ending-within sheet 6 end), end) in
      let whole : first_characters ++ (line_end ∷ drop 7 sheet) ≡ sheet =
      ap (λ l. first_characters ++ l) (sym rest) ∙ ap (λ l. l ++ drop 6 sheet) (sym e) ∙ take-append-drop 6 sheet in
      rw whole at (frame_read first_frame [] (drop 7 sheet) (below-by_test 256 (71 ∷ 79 ∷ 49 ∷ []) tt) (λ i. lit< tt) (lit≤ tt) (lit≤ tt))

  pub first-right : take 6 sheet ≡ first_characters → get_or sheet 6 0 ≡ line_end → Some 7 ≡ step_of 0 (length first_frame.head) (read_frame first_frame sheet)
  unfolding step_of
  first-right e end = rw (begun e end)

  first-apart : (line : Line) → read_frame first_frame sheet ≡ line → (take 6 sheet ≡ first_characters → get_or sheet 6 0 ≡ line_end → ⊥) → line ≡ wrong
  unfolding line_of hex_of hex_digit
  first-apart wrong q other = refl
  first-apart (right [] rest) q other =
      let line = (read_frame_lem first_frame sheet [] rest q).line in
      absurd (other (ap (take 6) line) (ap (λ l. get_or l 6 0) line))
  first-apart (right (b ∷ bytes) rest) q other = absurd (omega (arith, (read_frame_lem first_frame sheet (b ∷ bytes) rest q).few))

  pub first-wrong : (take 6 sheet ≡ first_characters → get_or sheet 6 0 ≡ line_end → ⊥) → None ≡ step_of 0 (length first_frame.head) (read_frame first_frame sheet)
  unfolding step_of
  first-wrong other = rw (first-apart (read_frame first_frame sheet) refl other)

  -- which is frame 0, where the sheet begins
  pub first-frame : (p : Profile) (k at : ℕ) → k ≡ 0 → at ≡ 0
      → step_of 0 (length first_frame.head) (read_frame first_frame sheet) ≡ step_of at (length (frame_at p k).head) (read_frame (frame_at p k) (drop at sheet))
  unfolding frames
  first-frame p k at e first = rw (e, first)

  -- whether it begins with its characters
  begins : (r : Bool) → r ≡ starts_with eqb sheet first_characters → (r ≡ true → sheet ≡ first_characters ++ drop 6 sheet)
      × ((rest : List ℕ) → sheet ≡ first_characters ++ rest → r ≡ true)
  begins r e = starts_is Decides-eqb sheet first_characters r e

  pub begins-right : true ≡ starts_with eqb sheet first_characters → take 6 sheet ≡ first_characters
  begins-right e = ap (take 6) ((begins true e).0 refl)

  pub begins-other : false ≡ starts_with eqb sheet first_characters → take 6 sheet ≡ first_characters → ⊥
  begins-other e same =
      true≢false (sym ((begins false e).1 (drop 6 sheet) (sym (take-append-drop 6 sheet) ∙ ap (λ l. l ++ drop 6 sheet) same)))
