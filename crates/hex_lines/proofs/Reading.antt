-- Characters that are read two by two from an index on, as the line from there on is read.
use mathlib.Core.Path.{◌≡◌, refl, sym, ap, ◌∙◌}
use mathlib.Core.Bool.{Bool, true, false, true≢false}
use mathlib.Core.List.{List, [], ◌∷◌, ◌++◌, append-nil}
use Prim.Native.Nat.{ℕ, suc, ◌+◌, ◌*◌, ◌≤◌, ◌<◌}
use native.Mathlib.Numerals.{add-one}
use native.Mathlib.Omega.{arith}
use borrow.Author.Tests.{lt-ltb, le-ltb, ltb-true, ltb-false, eq-eqb, ne_eqb, eqb-true, eqb-false}
use lib.Dec.{ltb, eqb}
use lib.ListN.{length, get_or, take, drop, set, length-append, take-append-drop, drop_of_length-le}
use lib.Seq.{drop-cons, append_snoc, take_all, take-suc-set, drop-set-lt}
use Rattle.lists.proofs.Lists.{drop-two, get_or-within}
use Rattle.hex_lines.specs.inner.Digits.{byte_of, byte_at, has_bytes, or_kept, read_into, ReadsLine}
use Rattle.hex_lines.specs.Hex.{line_end, digit_of, Line, wrong, right, behind, read_line}
use Rattle.std.specs.Prelude.{Option, Some, None}
use Rattle.hex_lines.proofs.HexLaws.{read_byte, read_end}

module _ (chars : List ℕ) (at : ℕ) where
  -- what the tests on two characters tell
  pub byte_short : length chars < at + 2 → byte_at chars at ≡ None
  unfolding byte_at
  byte_short h = rw (lt-ltb (length chars) (at + 2) h)

  pub byte_first_wrong : at + 2 ≤ length chars → 16 ≤ digit_of (get_or chars at 0) → byte_at chars at ≡ None
  unfolding byte_at byte_of
  byte_first_wrong h k = rw (le-ltb (length chars) (at + 2) h, le-ltb (digit_of (get_or chars at 0)) 16 k)

  pub byte_second_wrong : at + 2 ≤ length chars → digit_of (get_or chars at 0) < 16 → 16 ≤ digit_of (get_or chars (at + 1) 0) → byte_at chars at ≡ None
  unfolding byte_at byte_of
  byte_second_wrong h k l =
      rw (le-ltb (length chars) (at + 2) h, lt-ltb (digit_of (get_or chars at 0)) 16 k, le-ltb (digit_of (get_or chars (at + 1) 0)) 16 l)

  pub byte_right : at + 2 ≤ length chars → digit_of (get_or chars at 0) < 16 → digit_of (get_or chars (at + 1) 0) < 16
      → byte_at chars at ≡ Some (16 * digit_of (get_or chars at 0) + digit_of (get_or chars (at + 1) 0))
  unfolding byte_at byte_of
  byte_right h k l =
      rw (le-ltb (length chars) (at + 2) h, lt-ltb (digit_of (get_or chars at 0)) 16 k, lt-ltb (digit_of (get_or chars (at + 1) 0)) 16 l)

  -- an ending that stands at the index is there
  pub ending-within : get_or chars at 0 ≡ line_end → at < length chars
  ending-within e = get_or-within chars at (omega arith)

  -- the line ends at the index
  pub line-ends : get_or chars at 0 ≡ line_end → read_line (drop at chars) ≡ right [] (drop (at + 1) chars)
  line-ends e = rw (drop-cons chars at 0 (ending-within e), e, add-one) (read_end (drop (suc at) chars))

  -- a byte stands at the index: the line goes on behind it
  pub line_byte : {b : ℕ} → byte_at chars at ≡ Some b → read_line (drop at chars) ≡ behind b (read_line (drop (at + 2) chars))
  line_byte {b} e =
      by (ltb (length chars) (at + 2)) (ltb (digit_of (get_or chars at 0)) 16) (ltb (digit_of (get_or chars (at + 1) 0)) 16) refl refl refl
    where
      never : byte_at chars at ≡ None → ⊥
      never w = let z : ◌≡◌ {A = ℕ} 0 1 = cc in omega arith

      by : (t u v : Bool) → ltb (length chars) (at + 2) ≡ t → ltb (digit_of (get_or chars at 0)) 16 ≡ u → ltb (digit_of (get_or chars (at + 1) 0)) 16 ≡ v
          → read_line (drop at chars) ≡ behind b (read_line (drop (at + 2) chars))
      by true u v p q r = absurd (never (byte_short (ltb-true _ _ p)))
      by false false v p q r = absurd (never (byte_first_wrong (ltb-false _ _ p) (ltb-false _ _ q)))
      by false true false p q r = absurd (never (byte_second_wrong (ltb-false _ _ p) (ltb-true _ _ q) (ltb-false _ _ r)))
      by false true true p q r =
          let room = ltb-false (length chars) (at + 2) p in
          let high = ltb-true (digit_of (get_or chars at 0)) 16 q in
          let low = ltb-true (digit_of (get_or chars (at + 1) 0)) 16 r in
          let same : 16 * digit_of (get_or chars at 0) + digit_of (get_or chars (at + 1) 0) ≡ b = cc (byte_right room high low) in
          rw (drop-two 0 chars at room, ← same) (read_byte (get_or chars at 0) (get_or chars (at + 1) 0) (drop (at + 2) chars) high low)

  -- no byte stands at the index, and no ending: the line is wrong
  pub line-wrong : byte_at chars at ≡ None → (get_or chars at 0 ≡ line_end → ⊥) → read_line (drop at chars) ≡ wrong
  unfolding read_line
  line-wrong e other =
      by (ltb at (length chars)) (ltb (length chars) (at + 2)) (ltb (digit_of (get_or chars at 0)) 16) (ltb (digit_of (get_or chars (at + 1) 0)) 16) refl refl refl
      refl
    where
      not_end : eqb (get_or chars at 0) line_end ≡ false
      not_end = ne_eqb (get_or chars at 0) line_end other

      by : (s t u v : Bool) → ltb at (length chars) ≡ s → ltb (length chars) (at + 2) ≡ t → ltb (digit_of (get_or chars at 0)) 16 ≡ u
          → ltb (digit_of (get_or chars (at + 1) 0)) 16 ≡ v → read_line (drop at chars) ≡ wrong
      by false t u v o p q r = rw (drop_of_length-le chars (ltb-false at (length chars) o))
      by true true u v o p q r =
          let last : length chars ≤ suc at = omega (arith, ltb-true (length chars) (at + 2) p) in
          rw (drop-cons chars at 0 (ltb-true at (length chars) o), drop_of_length-le chars last, not_end)
      by true false false v o p q r = rw (drop-two 0 chars at (ltb-false (length chars) (at + 2) p), not_end, q)
      by true false true false o p q r = rw (drop-two 0 chars at (ltb-false (length chars) (at + 2) p), not_end, q, r)
      by true false true true o p q r =
          let z : ◌≡◌ {A = ℕ} 0 1 = cc (byte_right (ltb-false _ _ p) (ltb-true _ _ q) (ltb-true _ _ r)) in
          absurd (omega arith)

-- bytes in front of a line
abbrev pub ahead : (front : List ℕ) → Line → Line
ahead front wrong = wrong
ahead front (right bytes rest) = right (front ++ bytes) rest

ahead_none : (l : Line) → l ≡ ahead [] l
ahead_none wrong = refl
ahead_none (right bytes rest) = refl

ahead-behind : (front : List ℕ) (b : ℕ) (l : Line) → ahead front (behind b l) ≡ ahead (front ++ (b ∷ [])) l
unfolding behind
ahead-behind front b wrong = refl
ahead-behind front b (right bytes rest) = ap (λ l. right l rest) (sym (append_snoc front b bytes))

-- whether a line has n bytes, where some of them have been read
module _ (front : List ℕ) (n : ℕ) where
  short-right : length front < n → (rest : List ℕ) → has_bytes n (ahead front (right [] rest)) ≡ false
  unfolding has_bytes
  short-right h rest = rw append-nil (ne_eqb (length front) n (λ e. absurd (omega arith)))

  long-right : length front ≡ n → (b : ℕ) (l : Line) → has_bytes n (ahead front (behind b l)) ≡ false
  unfolding has_bytes behind
  long-right h b wrong = refl
  long-right h b (right bytes rest) =
      ne_eqb (length (front ++ b ∷ bytes)) n (λ e. absurd (omega (arith, length-append front (b ∷ bytes))))

  never-right : has_bytes n (ahead front wrong) ≡ false
  unfolding has_bytes
  never-right = refl

  module _ (chars : List ℕ) (at : ℕ) where
    -- too few bytes
    pub short-line : length front < n → byte_at chars at ≡ None → has_bytes n (ahead front (read_line (drop at chars))) ≡ false
    short-line h e = by (eqb (get_or chars at 0) line_end) refl
      where
        by : (t : Bool) → eqb (get_or chars at 0) line_end ≡ t → has_bytes n (ahead front (read_line (drop at chars))) ≡ false
        by true p = rw (line-ends chars at (eqb-true _ _ p)) (short-right h (drop (at + 1) chars))
        by false p = rw (line-wrong chars at e (eqb-false _ _ p)) never-right

    -- too many bytes, or something else than an ending
    pub long-line : length front ≡ n → (get_or chars at 0 ≡ line_end → ⊥) → has_bytes n (ahead front (read_line (drop at chars))) ≡ false
    long-line h other = by (byte_at chars at) refl
      where
        by : (d : Option ℕ) → byte_at chars at ≡ d → has_bytes n (ahead front (read_line (drop at chars))) ≡ false
        by None e = rw (line-wrong chars at e other) never-right
        by (Some b) e = rw (line_byte chars at e) (long-right h b (read_line (drop (at + 2) chars)))

-- a line whose bytes have all been read
whole-line : (front chars : List ℕ) (at : ℕ) → get_or chars at 0 ≡ line_end → ahead front (read_line (drop at chars)) ≡ right front (drop (at + 1) chars)
whole-line front chars at e = rw (line-ends chars at e, append-nil)

-- the loop that reads a line from index `at` on: a turn, and where the line ends
module _ (chars : List ℕ) (at : ℕ) where
  pub read_next : (bytes : List ℕ) (i : ℕ) {b : ℕ} → i < length bytes → byte_at chars (at + 2 * i) ≡ Some b
      → read_line (drop at chars) ≡ ahead (take i bytes) (read_line (drop (at + 2 * i) chars))
      → read_line (drop at chars) ≡ ahead (take (i + 1) (set bytes i b)) (read_line (drop (at + 2 * (i + 1)) chars))
  read_next bytes i {b} h e before =
      let next : at + 2 * (i + 1) ≡ at + 2 * i + 2 = omega arith in
      before ∙ ap (ahead (take i bytes)) (line_byte chars (at + 2 * i) e) ∙ ahead-behind (take i bytes) b (read_line (drop (at + 2 * i + 2) chars))
      ∙ rw (next, add-one i, take-suc-set bytes i b h)

  pub read_all : (bytes : List ℕ) (i : ℕ) {n : ℕ} → i ≤ length bytes → length bytes ≤ i → length bytes ≡ n → get_or chars (at + 2 * i) 0 ≡ line_end
      → read_line (drop at chars) ≡ ahead (take i bytes) (read_line (drop (at + 2 * i) chars)) → read_line (drop at chars)
      ≡ right bytes (drop (at + 2 * n + 1) chars)
  read_all bytes i {n} low high long e before =
      let all : i ≡ n = omega arith in
      before ∙ rw (← all, take_all i bytes high) (whole-line bytes chars (at + 2 * i) e)

-- the same loop, by what it leaves in the slice
module _ (chars : List ℕ) (at : ℕ) where
  module _ (bytes : List ℕ) (i : ℕ) {left : List ℕ} (before : left ≡ take i bytes ++ read_into chars (at + 2 * i) (drop i bytes)) where
    pub into_next : {b : ℕ} → i < length bytes → byte_at chars (at + 2 * i) ≡ Some b
        → left ≡ take (i + 1) (set bytes i b) ++ read_into chars (at + 2 * (i + 1)) (drop (i + 1) (set bytes i b))
    unfolding read_into or_kept
    into_next {b} h e =
        let next : at + 2 * (i + 1) ≡ at + 2 * i + 2 = omega arith in
        before
        ∙ rw (
          drop-cons bytes i 0 h,
          e,
          next,
          add-one i,
          take-suc-set bytes i b h,
          drop-set-lt (suc i) bytes i b (omega arith),
          append_snoc (take i bytes) b
              (read_into chars (at + 2 * i + 2) (drop (suc i) bytes)),
        )

    -- no byte stands at the index
    pub into_wrong : byte_at chars (at + 2 * i) ≡ None → bytes ≡ left
    unfolding read_into or_kept
    into_wrong e = sym (before ∙ rw (into_none (drop i bytes)) (take-append-drop i bytes))
      where
        into_none : (old : List ℕ) → read_into chars (at + 2 * i) old ≡ old
        into_none [] = refl
        into_none (o ∷ old) = rw e

    pub into_all : length bytes ≤ i → bytes ≡ left
    unfolding read_into
    into_all h = sym (before ∙ rw (drop_of_length-le bytes h, append-nil) (take_all i bytes h))

-- a byte takes two characters
pub byte_room : (chars : List ℕ) (at : ℕ) {b : ℕ} → byte_at chars at ≡ Some b → at + 2 ≤ length chars
byte_room chars at {b} e = by (ltb (length chars) (at + 2)) refl
  where
    by : (t : Bool) → ltb (length chars) (at + 2) ≡ t → at + 2 ≤ length chars
    by false p = ltb-false (length chars) (at + 2) p
    by true p = let z : ◌≡◌ {A = ℕ} 0 1 = cc (byte_short chars at (ltb-true (length chars) (at + 2) p)) in absurd (omega arith)

-- the two answers
module _ (chars : List ℕ) (at : ℕ) (old : List ℕ) {new : List ℕ} (left : new ≡ read_into chars at old) where
  pub answer_no : {l : Line} → read_line (drop at chars) ≡ l → has_bytes (length old) l ≡ false → ReadsLine chars at old new false
  answer_no e other = record { told = sym (ap (has_bytes (length old)) e ∙ other); bytes = λ z. absurd (true≢false (sym z)); left = left }

  pub answer_yes : length new ≡ length old → read_line (drop at chars) ≡ right new (drop (at + 2 * length old + 1) chars) → ReadsLine chars at old new true
  unfolding has_bytes
  answer_yes h e = record { told = sym (ap (has_bytes (length old)) e ∙ eq-eqb (length new) (length old) h); bytes = λ _. e; left = left }
