-- The frame parser: what a turn of each of its loops does, and the ways out.
use mathlib.Core.Path.{◌≡◌, refl, sym, ap, ◌∙◌}
use mathlib.Core.Bool.{Bool, true, false, true≢false, cond, not}
use mathlib.Core.List.{List, [], ◌∷◌}
use Prim.Native.Nat.{ℕ, ◌+◌, ◌*◌, ◌≤◌, ◌<◌}
use native.Mathlib.Nat.{zero-add}
use native.Mathlib.Numerals.{add-one}
use native.Mathlib.Omega.{arith}
use borrow.Author.Tests.{eq-eqb, ne_eqb, eqb-true, eqb-false, ltb-false, le-leb, lt-leb, leb-true, leb-false}
use lib.Dec.{ltb, leb, eqb}
use lib.ListN.{length, get_or, drop, drop_of_length-le}
use lib.Seq.{drop-cons}
use Rattle.profile.specs.Checks.{outside}
use Rattle.profile.proofs.Limits.{outside_low, outside_high, inside}
use Rattle.hex_lines.specs.Hex.{Line, wrong, right, behind, line_end, read_line}
use Rattle.hex_lines.specs.inner.Digits.{byte_at}
use Rattle.std.specs.Prelude.{Option, Some, None}
use Rattle.std.specs.Option.{option_eq}
use Rattle.hex_lines.proofs.Reading.{line-ends, line_byte, line-wrong}
use Rattle.frames.specs.Frames.{Frame, framed}
use Rattle.frames.specs.Lines.{without, within, read_frame}
use Rattle.frames.specs.inner.Size.{HasSize}
use Rattle.frames.specs.declared.Size.{Size}
use Rattle.frame_reader.specs.inner.Parser.{found_of, step_of}

without-wrong : (head : List ℕ) → without head wrong ≡ wrong
unfolding without
without-wrong [] = refl
without-wrong (h ∷ head) = refl

without-same : (h : ℕ) (head : List ℕ) (line : Line) → without (h ∷ head) (behind h line) ≡ without head line
unfolding without behind
without-same h head wrong = sym (without-wrong head)
without-same h head (right bytes rest) = rw (eq-eqb h h refl)

without_other : (h b : ℕ) (head : List ℕ) (line : Line) → (b ≡ h → ⊥) → without (h ∷ head) (behind b line) ≡ wrong
unfolding without behind
without_other h b head wrong other = refl
without_other h b head (right bytes rest) other = rw (ne_eqb b h other)

without-none : (h : ℕ) (head rest : List ℕ) → without (h ∷ head) (right [] rest) ≡ wrong
unfolding without
without-none h head rest = refl

module _ (sheet : List ℕ) (at : ℕ) (h : ℕ) (head : List ℕ) (low high : ℕ) where
  -- the first fixed byte stands: the others are looked for behind it
  head-same : byte_at sheet at ≡ Some h → read_frame (framed (h ∷ head) low high) (drop at sheet) ≡ read_frame (framed head low high) (drop (at + 2) sheet)
  unfolding read_frame
  head-same e = rw (line_byte sheet at e, without-same h head (read_line (drop (at + 2) sheet)))

  -- another byte stands there
  head-other : (b : ℕ) → byte_at sheet at ≡ Some b → (b ≡ h → ⊥) → read_frame (framed (h ∷ head) low high) (drop at sheet) ≡ wrong
  unfolding read_frame within
  head-other b e other = rw (line_byte sheet at e, without_other h b head (read_line (drop (at + 2) sheet)) other)

  -- no byte stands there
  head-none : byte_at sheet at ≡ None → read_frame (framed (h ∷ head) low high) (drop at sheet) ≡ wrong
  unfolding read_frame within
  head-none e = by (eqb (get_or sheet at 0) line_end) refl
    where
      by : (t : Bool) → eqb (get_or sheet at 0) line_end ≡ t → within low high (without (h ∷ head) (read_line (drop at sheet))) ≡ wrong
      by true q = rw (line-ends sheet at (eqb-true (get_or sheet at 0) line_end q), without-none h head (drop (at + 1) sheet))
      by false q = rw (line-wrong sheet at e (eqb-false (get_or sheet at 0) line_end q), without-wrong (h ∷ head))

-- what equals an optional byte
same_byte : (found : Option ℕ) (b : ℕ) → false ≡ not (option_eq eqb found (Some b)) → found ≡ Some b
same_byte None b q = absurd (true≢false (sym q))
same_byte (Some y) b q = by (eqb y b) refl
  where
    by : (t : Bool) → eqb y b ≡ t → ◌≡◌ {A = Option ℕ} (Some y) (Some b)
    by true e = ap Some (eqb-true y b e)
    by false e = absurd (true≢false (sym (q ∙ ap not e)))

-- of the fixed bytes, i stand from `at` on, and the others are still to be looked for
abbrev pub HeadLeft : (sheet : List ℕ) (at : ℕ) (head : List ℕ) (i : ℕ) → Type 0
HeadLeft sheet at head i =
    (low high : ℕ) → read_frame (framed head low high) (drop at sheet) ≡ read_frame (framed (drop i head) low high) (drop (at + 2 * i) sheet)

pub head-start : (sheet : List ℕ) (at : ℕ) (head : List ℕ) → HeadLeft sheet at head 0
head-start sheet at head low high = let same : at + 2 * 0 ≡ at = omega arith in rw same

module _ (sheet : List ℕ) (at : ℕ) (head : List ℕ) (i : ℕ) (left : HeadLeft sheet at head i) where
  module _ (more : i < length head) where
    head_at : drop i head ≡ get_or head i 0 ∷ drop (i + 1) head
    head_at = rw add-one (drop-cons head i 0 more)

    same-here : byte_at sheet (at + 2 * i) ≡ Some (get_or head i 0) → HeadLeft sheet at head (i + 1)
    same-here e low high =
        let next : at + 2 * i + 2 ≡ at + 2 * (i + 1) = omega arith in
        left low high ∙ rw (head_at, ← next) (head-same sheet (at + 2 * i) (get_or head i 0) (drop (i + 1) head) low high e)

    -- another byte, or none
    head-differs : (b : ℕ) → byte_at sheet (at + 2 * i) ≡ Some b → (b ≡ get_or head i 0 → ⊥) → (low high : ℕ)
        → read_frame (framed head low high) (drop at sheet) ≡ wrong
    head-differs b e other low high = left low high ∙ rw head_at (head-other sheet (at + 2 * i) (get_or head i 0) (drop (i + 1) head) low high b e other)

    head-ends : byte_at sheet (at + 2 * i) ≡ None → (low high : ℕ) → read_frame (framed head low high) (drop at sheet) ≡ wrong
    head-ends e low high = left low high ∙ rw head_at (head-none sheet (at + 2 * i) (get_or head i 0) (drop (i + 1) head) low high e)

    -- a turn: what is found at the index is the byte of the head, or it differs
    module _ (found : Option ℕ) (b : ℕ) (here : found ≡ byte_at sheet (at + 2 * i)) (mine : b ≡ get_or head i 0) where
      pub head-next : false ≡ not (option_eq eqb found (Some b)) → HeadLeft sheet at head (i + 1)
      head-next q = same-here (sym here ∙ same_byte found b q ∙ ap Some mine)

      pub head-apart : true ≡ not (option_eq eqb found (Some b)) → (low high : ℕ) → read_frame (framed head low high) (drop at sheet) ≡ wrong
      head-apart q = by found refl
        where
          by : (x : Option ℕ) → found ≡ x → (low high : ℕ) → read_frame (framed head low high) (drop at sheet) ≡ wrong
          by None e = head-ends (sym here ∙ e)
          by (Some y) e =
              head-differs y (sym here ∙ e)
              (λ same. true≢false (q ∙ ap (λ x. not (option_eq eqb x (Some b))) e ∙ ap not (eq-eqb y b (same ∙ sym mine))))

  -- all stand
  pub head-all : (fixed : ℕ) → i ≡ fixed → length head ≤ i → (low high : ℕ)
      → read_frame (framed head low high) (drop at sheet) ≡ read_frame (framed [] low high) (drop (at + 2 * fixed) sheet)
  head-all fixed all h low high = let none : drop i head ≡ [] = drop_of_length-le head {i = i} h in left low high ∙ rw (none, all)

-- how many bytes a line has, of which i are passed
unfoldable pub found_from : (i most : ℕ) → Line → Option ℕ
found_from i most wrong = None
found_from i most (right bytes rest) = cond (leb (i + length bytes) most) (Some (i + length bytes)) None

found_zero : (most : ℕ) (line : Line) → found_of most line ≡ found_from 0 most line
unfolding found_of found_from
found_zero most wrong = refl
found_zero most (right bytes rest) = rw zero-add

pub found-start : (sheet : List ℕ) (at most : ℕ) → found_of most (read_line (drop at sheet)) ≡ found_from 0 most (read_line (drop (at + 2 * 0) sheet))
found-start sheet at most = let same : at + 2 * 0 ≡ at = omega arith in rw same (found_zero most (read_line (drop at sheet)))

-- too many bytes are passed
pub found-over : (i most : ℕ) (line : Line) → most < i → found_from i most line ≡ None
unfolding found_from
found-over i most wrong h = refl
found-over i most (right bytes rest) h = rw (lt-leb (i + length bytes) most (omega arith))

found-behind : (i most b : ℕ) (line : Line) → found_from i most (behind b line) ≡ found_from (i + 1) most line
unfolding found_from behind
found-behind i most b wrong = refl
found-behind i most b (right bytes rest) =
    let same : i + length (b ∷ bytes) ≡ i + 1 + length bytes = omega arith in
    rw same

module _ (sheet : List ℕ) (at i most : ℕ) where
  -- the line ends
  pub found_end : i ≤ most → get_or sheet at 0 ≡ line_end → found_from i most (read_line (drop at sheet)) ≡ Some i
  unfolding found_from
  found_end h e = let all : i + 0 ≡ i = omega arith in rw (line-ends sheet at e, all, le-leb i most h)

  -- no byte and no ending
  pub found_none : byte_at sheet at ≡ None → (get_or sheet at 0 ≡ line_end → ⊥) → found_from i most (read_line (drop at sheet)) ≡ None
  unfolding found_from
  found_none e other = rw (line-wrong sheet at e other)

-- a byte more
pub found-next : (sheet : List ℕ) (at i most b : ℕ) → byte_at sheet (at + 2 * i) ≡ Some b
    → found_from i most (read_line (drop (at + 2 * i) sheet)) ≡ found_from (i + 1) most (read_line (drop (at + 2 * (i + 1)) sheet))
found-next sheet at i most b e =
    let next : at + 2 * i + 2 ≡ at + 2 * (i + 1) = omega arith in
    rw (line_byte sheet (at + 2 * i) e, next) (found-behind i most b (read_line (drop (at + 2 * (i + 1)) sheet)))

-- the fixed bytes stand in front of a line with n bytes more: what the parser answers
outside-over : (low high x : ℕ) → high < x → outside low high x ≡ true
outside-over low high x h = by (ltb x low) refl
  where
    by : (t : Bool) → ltb x low ≡ t → outside low high x ≡ true
    by true e = rw e
    by false e = outside_high low high x (ltb-false x low e) h

not_found : {A : Type 0} (n : ℕ) → None ≡ Some n → A
not_found n e = let z : ◌≡◌ {A = ℕ} 0 1 = cc in absurd (omega arith)

module _ (high : ℕ) where
  -- a number of bytes that is found
  pub found-few : (n : ℕ) (line : Line) → found_of high line ≡ Some n → n ≤ high
  unfolding found_of
  found-few n wrong e = not_found n e
  found-few n (right bytes rest) e = by (leb (length bytes) high) refl e
    where
      by : (t : Bool) → leb (length bytes) high ≡ t → cond t (Some (length bytes)) None ≡ Some n → n ≤ high
      by true q e = let same : length bytes ≡ n = cc in omega (arith, leb-true (length bytes) high q)
      by false q e = not_found n e

  module _ (low at fixed : ℕ) where
    step-none : (line : Line) → found_of high line ≡ None → step_of at fixed (within low high line) ≡ None
    unfolding found_of step_of within
    step-none wrong e = refl
    step-none (right bytes rest) e = by (leb (length bytes) high) refl e
      where
        by : (t : Bool) → leb (length bytes) high ≡ t → cond t (Some (length bytes)) None ≡ None
            → step_of at fixed (cond (outside low high (length bytes)) wrong (right bytes rest)) ≡ None
        by true q e = not_found (length bytes) (sym e)
        by false q e = rw (outside-over low high (length bytes) (leb-false (length bytes) high q))

    step-found : (n : ℕ) (line : Line) → found_of high line ≡ Some n
        → (low ≤ n → step_of at fixed (within low high line) ≡ Some (at + 2 * (fixed + n) + 1))
        × (n < low → step_of at fixed (within low high line) ≡ None)
    unfolding found_of step_of within
    step-found n wrong e = not_found n e
    step-found n (right bytes rest) e = by (leb (length bytes) high) refl e
      where
        by : (t : Bool) → leb (length bytes) high ≡ t → cond t (Some (length bytes)) None ≡ Some n
            → (low ≤ n → step_of at fixed (cond (outside low high (length bytes)) wrong (right bytes rest)) ≡ Some (at + 2 * (fixed + n) + 1))
            × (n < low → step_of at fixed (cond (outside low high (length bytes)) wrong (right bytes rest)) ≡ None)
        by true q e =
            let same : length bytes ≡ n = cc in
            let few = leb-true (length bytes) high q in
            (λ some. rw (inside low high (length bytes) (omega arith) few, same), λ short. rw (outside_low low high (length bytes) (omega arith)))
        by false q e = not_found n e

-- a frame's head stands in front of `behind`, or it doesn't: what the parser answers, going by the frame's size
module _ (f : Frame) (size : Size) (has : HasSize f size) (at : ℕ) (sheet behind : List ℕ) (r : Bool)
    (stands : (low high : ℕ) → read_frame (framed f.head low high) sheet ≡ cond r (read_frame (framed [] low high) behind) wrong) where
  sized-step : step_of at (length f.head) (read_frame f sheet) ≡ step_of at size.fixed (cond r (read_frame (framed [] size.low size.high) behind) wrong)
  sized-step = rw (has.fixed, has.low, has.high) (ap (step_of at (length f.head)) (stands f.low f.high))

  pub parsed-other : r ≡ false → None ≡ step_of at (length f.head) (read_frame f sheet)
  unfolding step_of
  parsed-other e = sym (sized-step ∙ rw e)

  parsed : r ≡ true → step_of at (length f.head) (read_frame f sheet) ≡ step_of at size.fixed (within size.low size.high (read_line behind))
  unfolding read_frame without
  parsed e = sized-step ∙ rw e

  pub parsed-none : r ≡ true → found_of size.high (read_line behind) ≡ None → None ≡ step_of at (length f.head) (read_frame f sheet)
  parsed-none e none = sym (parsed e ∙ step-none size.high size.low at size.fixed (read_line behind) none)

  pub parsed-found : (n : ℕ) → r ≡ true → found_of size.high (read_line behind) ≡ Some n
      → (size.low ≤ n → Some (at + 2 * (size.fixed + n) + 1) ≡ step_of at (length f.head) (read_frame f sheet))
      × (n < size.low → None ≡ step_of at (length f.head) (read_frame f sheet))
  parsed-found n e some =
      let steps = step-found size.high size.low at size.fixed n (read_line behind) some in
      (λ h. sym (parsed e ∙ steps.0 h), λ h. sym (parsed e ∙ steps.1 h))
