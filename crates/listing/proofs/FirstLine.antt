-- Only the first line counts: what stands behind its 11 characters changes nothing.
use mathlib.Core.Path.{◌≡◌, refl, sym, ap, ◌∙◌}
use mathlib.Core.Bool.{Bool, true, false, ◌||◌, cond, true≢false}
use mathlib.Core.Logic.{◌⊎◌, inl, inr, ⊎_elim}
use mathlib.Core.List.{List, [], ◌∷◌, ◌++◌, append_assoc, append-nil}
use Prim.Native.Nat.{ℕ, ◌+◌, ◌*◌, ◌≤◌}
use native.Mathlib.Omega.{arith}
use borrow.Author.Tests.{eqb-true, eq-eqb, ne_eqb, ltb-true, ltb-false}
use lib.Dec.{ltb, eqb}
use lib.ListN.{length, take, drop, length-append, take-append-drop}
use lib.Seq.{take_at}
use Rattle.hex_lines.specs.inner.Digits.{has_bytes}
use Rattle.hex_lines.specs.Hex.{line_end, line_of, digit_of, Line, wrong, right, behind, read_line}
use Rattle.hex_lines.proofs.HexLaws.{read-line-of, line-of-read}
use Rattle.hex_lines.proofs.Writing.{length-line_of}
use Rattle.listing.specs.Input.{has_ending, to_read, read_of}
use Rattle.listing.specs.Listing.{request_in, answer_to, listing_of, FirstEleven}
use Rattle.listing.proofs.Reading.{to_read_open, still_open}
use Rattle.listing.proofs.Requests.{not_five}

-- a line of five bytes, with what stands behind it
record Five (l : Line) : Type 0 where
  bytes : List ℕ
  rest : List ℕ
  is : l ≡ right bytes rest
  long : length bytes ≡ 5

five : (l : Line) → has_bytes 5 l ≡ true → Five l
unfolding has_bytes
five wrong e = absurd (true≢false (sym e))
five (right bytes rest) e = record { bytes = bytes; rest = rest; is = refl; long = eqb-true (length bytes) 5 e }

-- the same line, with more behind it
followed : (chars more : List ℕ) → has_bytes 5 (read_line chars) ≡ true → request_in (read_line (chars ++ more)) ≡ request_in (read_line chars)
unfolding request_in
followed chars more e =
    let f = five (read_line chars) e in
    let written = line-of-read chars f.is in
    let again : read_line (chars ++ more) ≡ right f.bytes (f.rest ++ more) =
    ap (λ l. read_line (l ++ more)) written.line ∙ ap read_line (append_assoc (line_of f.bytes) f.rest more)
    ∙ read-line-of f.bytes (f.rest ++ more) written.below in
    ap request_in again ∙ ap request_in (sym f.is)

-- a line of five bytes ends with the eleventh character
within : (input : List ℕ) → has_bytes 5 (read_line input) ≡ true → has_bytes 5 (read_line (take 11 input)) ≡ true
unfolding has_bytes
within input e =
    let f = five (read_line input) e in
    let written = line-of-read input f.is in
    let long : length (line_of f.bytes) ≡ 11 = omega (arith, length-line_of f.bytes, f.long) in
    let front : take 11 input ≡ line_of f.bytes ++ [] =
    ap (take 11) written.line ∙ take_at (line_of f.bytes) f.rest 11 long ∙ sym (append-nil (line_of f.bytes)) in
    rw (front, read-line-of f.bytes [] written.below) (eq-eqb (length f.bytes) 5 f.long)

same_request : (input : List ℕ) → request_in (read_line (take 11 input)) ≡ request_in (read_line input)
same_request input = by (has_bytes 5 (read_line (take 11 input))) (has_bytes 5 (read_line input)) refl refl
  where
    by : (s t : Bool) → has_bytes 5 (read_line (take 11 input)) ≡ s → has_bytes 5 (read_line input) ≡ t
        → request_in (read_line (take 11 input)) ≡ request_in (read_line input)
    by true t p q = sym (followed (take 11 input) (drop 11 input) p) ∙ ap (λ l. request_in (read_line l)) (take-append-drop 11 input)
    by false false p q = not_five (read_line (take 11 input)) p ∙ sym (not_five (read_line input) q)
    by false true p q = absurd (true≢false (sym (within input q) ∙ p))

-- a line without what stands behind it
front : Line → Line
front wrong = wrong
front (right bytes rest) = right bytes []

front_request : (l : Line) → request_in (front l) ≡ request_in l
unfolding request_in front
front_request wrong = refl
front_request (right bytes rest) = refl

front-behind : (b : ℕ) (l : Line) → front (behind b l) ≡ behind b (front l)
unfolding behind front
front-behind b wrong = refl
front-behind b (right bytes rest) = refl

-- a digit is no ending
digit-other : (d : ℕ) → ltb (digit_of d) 16 ≡ true → eqb d line_end ≡ false
unfolding digit_of
digit-other d digit = ne_eqb d line_end (λ e. true≢false (sym digit ∙ ap (λ k. ltb (digit_of k) 16) e))

-- a line that has ended, with more behind it
front-ended : (line more : List ℕ) → has_ending line ≡ true → front (read_line (line ++ more)) ≡ front (read_line line)
unfolding has_ending read_line front
front-ended [] more e = absurd (true≢false (sym e))
front-ended (c ∷ []) [] e = refl
front-ended (c ∷ []) (d ∷ more) e = by (eqb c line_end) refl e
  where
    by : (b : Bool) → eqb c line_end ≡ b → (b || false) ≡ true → front (read_line (c ∷ d ∷ more)) ≡ front (read_line (c ∷ []))
    by true ending k = rw ending
    by false ending k = absurd (true≢false (sym k))
front-ended (c ∷ d ∷ line) more e = by (eqb c line_end) (ltb (digit_of c) 16) (ltb (digit_of d) 16) refl refl refl e (front-ended line more)
  where
    by : (ending high low : Bool) → eqb c line_end ≡ ending → ltb (digit_of c) 16 ≡ high → ltb (digit_of d) 16 ≡ low
        → (ending || (eqb d line_end || has_ending line)) ≡ true
        → (has_ending line ≡ true → front (read_line (line ++ more)) ≡ front (read_line line))
        → front (read_line (c ∷ d ∷ (line ++ more))) ≡ front (read_line (c ∷ d ∷ line))
    by true high low p q r k after = rw p
    by false false low p q r k after = rw (p, q)
    by false true false p q r k after = rw (p, q, r)
    by false true true p q r k after =
        let later : has_ending line ≡ true = rw (digit-other d r) at k in
        let number = 16 * digit_of c + digit_of d in
        rw (p, q, r)
        (front-behind number (read_line (line ++ more)) ∙ ap (behind number) (after later) ∙ sym (front-behind number (read_line line)))

-- what is read of an input: the whole of it, or a first part to which no byte is added
record Read (line input : List ℕ) : Type 0 where
  rest : List ℕ
  all : line ++ rest ≡ input
  enough : (rest ≡ []) ⊎ (to_read line ≡ 0)
  few : length line ≤ 11

read-of : (line input : List ℕ) → length line ≤ 11 → Read (read_of line input) (line ++ input)
unfolding read_of
read-of line [] few = record { rest = []; all = refl; enough = inl refl; few = few }
read-of line (c ∷ more) few = by (ltb 0 (to_read line)) refl (read-of (line ++ (c ∷ [])) more)
  where
    by : (b : Bool) → ltb 0 (to_read line) ≡ b → (length (line ++ (c ∷ [])) ≤ 11 → Read (read_of (line ++ (c ∷ [])) more) ((line ++ (c ∷ [])) ++ more))
        → Read (cond b (read_of (line ++ (c ∷ [])) more) line) (line ++ (c ∷ more))
    by true e after =
        let room = (still_open line (ltb-true 0 (to_read line) e)).1 in
        rw append_assoc at (after (omega (arith, room, length-append line (c ∷ []))))
    by false e after = record { rest = c ∷ more; all = refl; enough = inr (omega (arith, ltb-false 0 (to_read line) e)); few = few }

same_line : {line input : List ℕ} → Read line input → request_in (read_line line) ≡ request_in (read_line input)
same_line {line} {input} r =
    ⊎_elim (λ none. ap (λ l. request_in (read_line l)) (sym (append-nil line) ∙ ap (λ l. line ++ l) (sym none) ∙ r.all)) stopped r.enough
  where
    by : (b : Bool) → has_ending line ≡ b → to_read line ≡ 0 → request_in (read_line line) ≡ request_in (read_line input)
    by true e none =
        sym (front_request (read_line line)) ∙ ap request_in (sym (front-ended line r.rest e)) ∙ front_request (read_line (line ++ r.rest))
        ∙ ap (λ l. request_in (read_line l)) r.all
    by false e none =
        let eleven : length line ≡ 11 = omega (arith, to_read_open line e, r.few) in
        let first : take 11 input ≡ line = ap (take 11) (sym r.all) ∙ take_at line r.rest 11 eleven in
        ap (λ l. request_in (read_line l)) (sym first) ∙ same_request input

    stopped : to_read line ≡ 0 → request_in (read_line line) ≡ request_in (read_line input)
    stopped none = by (has_ending line) refl none

pub first_eleven : FirstEleven
unfolding listing_of
first_eleven input = ap answer_to (same_line (read-of [] input (omega arith)))
