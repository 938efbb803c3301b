-- Digits and characters are inverse, and so are a line that is written and a line that is read.
use mathlib.Core.Path.{◌≡◌, refl, ap, ◌∙◌}
use mathlib.Core.Bool.{Bool, true, false, cond}
use mathlib.Core.Logic.{◌⊎◌, inl, inr}
use mathlib.Core.List.{List, [], ◌∷◌, ◌++◌}
use Prim.Native.Nat.{ℕ, suc, ◌+◌, ◌-◌, ◌*◌, ◌/◌, ◌%◌, ◌≤◌, ◌<◌}
use native.Mathlib.Omega.{arith}
use borrow.Author.Tests.{lt-ltb, le-ltb, le-leb, lt-leb, ne_eqb, ltb-true, ltb-false, leb-true, leb-false, eqb-true}
use lib.Dec.{ltb, leb, eqb, lit<}
use lib.ListN.{length}
use Rattle.lists.proofs.Lists.{Below, below_cons}
use Rattle.hex_lines.specs.Hex.{hex_digit, hex_of, line_end, line_of, digit_of, Line, wrong, right, behind, read_line}

-- the digit of a character, by where the character stands
module _ (c : ℕ) where
  pub digit-below : c < 48 → digit_of c ≡ 16
  unfolding digit_of
  digit-below h = rw (lt-ltb c 48 h)

  pub digit-number : 48 ≤ c → c ≤ 57 → digit_of c ≡ c - 48
  unfolding digit_of
  digit-number h k = rw (le-ltb c 48 h, le-leb c 57 k)

  pub digit-between : 57 < c → c < 65 → digit_of c ≡ 16
  unfolding digit_of
  digit-between h k = rw (le-ltb c 48 (omega arith), lt-leb c 57 h, lt-ltb c 65 k)

  pub digit_letter : 65 ≤ c → c ≤ 70 → digit_of c ≡ c - 55
  unfolding digit_of
  digit_letter h k = rw (le-ltb c 48 (omega arith), lt-leb c 57 (omega arith), le-ltb c 65 h, le-leb c 70 k)

  pub digit-above : 70 < c → digit_of c ≡ 16
  unfolding digit_of
  digit-above h = rw (le-ltb c 48 (omega arith), lt-leb c 57 (omega arith), le-ltb c 65 (omega arith), lt-leb c 70 h)

  -- a digit's character is one of 0 to 9 or of A to F
  digit_kinds : digit_of c < 16 → ((48 ≤ c) × (c ≤ 57)) ⊎ ((65 ≤ c) × (c ≤ 70))
  digit_kinds h = by (ltb c 48) (leb c 57) (ltb c 65) (leb c 70) refl refl refl refl
    where
      by : (p q r s : Bool) → ltb c 48 ≡ p → leb c 57 ≡ q → ltb c 65 ≡ r → leb c 70 ≡ s → ((48 ≤ c) × (c ≤ 57)) ⊎ ((65 ≤ c) × (c ≤ 70))
      by true q r s i j k l = absurd (omega (arith, digit-below (ltb-true c 48 i)))
      by false true r s i j k l = inl (ltb-false c 48 i, leb-true c 57 j)
      by false false true s i j k l = absurd (omega (arith, digit-between (leb-false c 57 j) (ltb-true c 65 k)))
      by false false false true i j k l = inr (ltb-false c 65 k, leb-true c 70 l)
      by false false false false i j k l = absurd (omega (arith, digit-above (leb-false c 70 l)))

  not_line_end : digit_of c < 16 → c ≡ line_end → ⊥
  not_line_end h e = omega (arith, digit-below (omega arith))

-- the character of a digit
pub hex_low : (d : ℕ) → d < 10 → hex_digit d ≡ 48 + d
unfolding hex_digit
hex_low d h = rw (lt-ltb d 10 h)

pub hex_high : (d : ℕ) → 10 ≤ d → hex_digit d ≡ 55 + d
unfolding hex_digit
hex_high d h = rw (le-ltb d 10 h)

pub digit_hex : (d : ℕ) → d < 16 → digit_of (hex_digit d) ≡ d
digit_hex d h = by (ltb d 10) refl
  where
    by : (t : Bool) → ltb d 10 ≡ t → digit_of (hex_digit d) ≡ d
    by true e = let low = ltb-true d 10 e in rw (hex_low d low) (digit-number (48 + d) (omega arith) (omega arith) ∙ omega arith)
    by false e = let high = ltb-false d 10 e in rw (hex_high d high) (digit_letter (55 + d) (omega arith) (omega arith) ∙ omega arith)

pub hex_digit_lem : (c : ℕ) → digit_of c < 16 → hex_digit (digit_of c) ≡ c
hex_digit_lem c h = by (digit_kinds c h)
  where
    by : ((48 ≤ c) × (c ≤ 57)) ⊎ ((65 ≤ c) × (c ≤ 70)) → hex_digit (digit_of c) ≡ c
    by (inl k) = rw (digit-number c k.0 k.1) (hex_low (c - 48) (omega arith) ∙ omega arith)
    by (inr k) = rw (digit_letter c k.0 k.1) (hex_high (c - 55) (omega arith) ∙ omega arith)

pub length-hex_of : (bytes : List ℕ) → length (hex_of bytes) ≡ 2 * length bytes
unfolding hex_of
length-hex_of [] = refl
length-hex_of (b ∷ bytes) = omega (arith, length-hex_of bytes)

pub hex_of-append : (xs ys : List ℕ) → hex_of (xs ++ ys) ≡ hex_of xs ++ hex_of ys
unfolding hex_of
hex_of-append [] ys = refl
hex_of-append (b ∷ xs) ys = ap (λ l. hex_digit (b / 16) ∷ hex_digit (b % 16) ∷ l) (hex_of-append xs ys)

-- a line that begins with two digits
pub read_byte : (c d : ℕ) (more : List ℕ) → digit_of c < 16 → digit_of d < 16 → read_line (c ∷ d ∷ more) ≡ behind (16 * digit_of c + digit_of d) (read_line more)
unfolding read_line
read_byte c d more h k = rw (ne_eqb c line_end (not_line_end c h), lt-ltb (digit_of c) 16 h, lt-ltb (digit_of d) 16 k)

-- a line that ends at once
pub read_end : (rest : List ℕ) → read_line (line_end ∷ rest) ≡ right [] rest
unfolding read_line
read_end [] = refl
read_end (d ∷ more) = refl

-- a line that is written is read as its bytes, whatever stands behind it
pub read-line-of : (bytes rest : List ℕ) → Below 256 bytes → read_line (line_of bytes ++ rest) ≡ right bytes rest
unfolding line_of hex_of behind
read-line-of [] rest h = read_end rest
read-line-of (b ∷ bytes) rest h =
    let high = digit_hex (b / 16) (omega (arith, h 0)) in
    let low = digit_hex (b % 16) (omega arith) in
    let byte : 16 * (b / 16) + b % 16 ≡ b = omega arith in
    read_byte (hex_digit (b / 16)) (hex_digit (b % 16)) (line_of bytes ++ rest) (omega (arith, h 0)) (omega arith)
    ∙ rw (high, low, byte, read-line-of bytes rest (λ i. h (suc i)))

-- characters that are read as a line are that line as it is written
pub record Written (chars bytes rest : List ℕ) : Type 0 where
  pub line : chars ≡ line_of bytes ++ rest
  pub below : Below 256 bytes

-- nothing is both wrong and right
pub wrong-right : {A : Type 0} {bytes rest : List ℕ} → wrong ≡ right bytes rest → A
wrong-right e = let z : ◌≡◌ {A = ℕ} 0 1 = cc in absurd (omega arith)

-- a line that ends at once
ended : (c : ℕ) (more : List ℕ) {bytes rest : List ℕ} → c ≡ line_end → right [] more ≡ right bytes rest → Written (c ∷ more) bytes rest
unfolding line_of hex_of
ended c more {bytes} {rest} e p =
    let none : [] ≡ bytes = cc in
    let same : more ≡ rest = cc in
    record { line = rw (← none, ← same, e); below = rw (← none) (λ i. lit< tt) }

-- a line with one byte more in front
one_more : (c d : ℕ) (more : List ℕ) {bytes rest : List ℕ} → digit_of c < 16 → digit_of d < 16 → (l : Line)
    → ((bytes' rest' : List ℕ) → l ≡ right bytes' rest' → Written more bytes' rest')
    → behind (16 * digit_of c + digit_of d) l ≡ right bytes rest → Written (c ∷ d ∷ more) bytes rest
unfolding behind line_of hex_of
one_more c d more h k wrong written e = wrong-right e
one_more c d more {bytes} {rest} h k (right bytes' rest') written e =
    let w = written bytes' rest' refl in
    let front : (16 * digit_of c + digit_of d) ∷ bytes' ≡ bytes = cc in
    let same : rest' ≡ rest = cc in
    let high : (16 * digit_of c + digit_of d) / 16 ≡ digit_of c = omega arith in
    let low : (16 * digit_of c + digit_of d) % 16 ≡ digit_of d = omega arith in
    record {
      line = rw (← front, ← same, w.line, high, low, hex_digit_lem c h, hex_digit_lem d k);
      below = rw (← front) (below_cons 256 (16 * digit_of c + digit_of d) bytes' (omega arith) w.below);
    }

pub line-of-read : (chars : List ℕ) {bytes rest : List ℕ} → read_line chars ≡ right bytes rest → Written chars bytes rest
unfolding read_line
line-of-read [] e = wrong-right e
line-of-read (c ∷ []) {bytes} {rest} e = by (eqb c line_end) refl e
  where
    by : (t : Bool) → eqb c line_end ≡ t → cond t (right [] []) wrong ≡ right bytes rest → Written (c ∷ []) bytes rest
    by true p q = ended c [] (eqb-true c line_end p) q
    by false p q = wrong-right q
line-of-read (c ∷ d ∷ more) {bytes} {rest} e =
    by (eqb c line_end) (ltb (digit_of c) 16) (ltb (digit_of d) 16) (λ bytes' rest'. line-of-read more {bytes = bytes'} {rest = rest'}) refl refl refl e
  where
    by : (t u v : Bool) → ((bytes' rest' : List ℕ) → read_line more ≡ right bytes' rest' → Written more bytes' rest') → eqb c line_end ≡ t
        → ltb (digit_of c) 16 ≡ u → ltb (digit_of d) 16 ≡ v
        → cond t (right [] (d ∷ more)) (cond u (cond v (behind (16 * digit_of c + digit_of d) (read_line more)) wrong) wrong) ≡ right bytes rest
        → Written (c ∷ d ∷ more) bytes rest
    by true u v inner p q r k = ended c (d ∷ more) (eqb-true c line_end p) k
    by false false v inner p q r k = wrong-right k
    by false true false inner p q r k = wrong-right k
    by false true true inner p q r k =
        one_more c d more (ltb-true (digit_of c) 16 q) (ltb-true (digit_of d) 16 r) (read_line more) inner k
