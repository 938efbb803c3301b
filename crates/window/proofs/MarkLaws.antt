-- The marks as bits of one number: those of marks moved up with mark 0 set, and those of marks to which one that is not set is added.
use mathlib.Core.Path.{◌≡◌, sym, ap, subst, ◌∙◌}
use mathlib.Core.Bool.{true, false, cond}
use mathlib.Core.Logic.{◌⊎◌, inl, inr}
use Prim.Native.Nat.{ℕ, suc, ◌+◌, ◌-◌, ◌*◌, ◌/◌, ◌%◌, ◌^◌, ◌<◌, ◌≤◌}
use native.Mathlib.Nat.{mul_assoc, add-div_right, add-mul-div_right, mul-mod_left}
use native.Mathlib.Omega.{arith}
use borrow.Author.Tests.{eq-eqb, eqb-false, lt-ltb, le-ltb}
use lib.Dec.{eqb, ltb, lit<}
use lib.Pow.{pow_pos, pow-add, shl-shr, shr-shr, field, mod-mod-pow}
use Rattle.lists.proofs.Numbers.{lt_or_le}
use Rattle.window.specs.Window.{marked, moved}

-- bit k of a number is among its lowest s, for k below s
bit_low : (n s k : ℕ) → k < s → n % 2 ^ s / 2 ^ k % 2 ≡ n / 2 ^ k % 2
bit_low n s k h =
    let split : (s - suc k) + 1 + k ≡ s = omega arith in
    subst (λ t. n % 2 ^ t / 2 ^ k % 2 ≡ n / 2 ^ k % 2) split
    (ap (λ x. x % 2) (field n (s - suc k + 1) k) ∙ mod-mod-pow (n / 2 ^ k) (s - suc k) 1)

-- a power of two is an even multiple of every lower one
even_multiple : (i j : ℕ) → i < j → 2 ^ j ≡ 2 ^ (j - suc i) * 2 * 2 ^ i
even_multiple i j h =
    let split : (j - suc i) + 1 + i ≡ j = omega arith in
    subst (λ t. 2 ^ t ≡ 2 ^ (j - suc i) * 2 * 2 ^ i) split (pow-add 2 (j - suc i + 1) i ∙ ap (λ x. x * 2 ^ i) (pow-add 2 (j - suc i) 1))

-- a number shifted up has its bits that much higher, and none below
bit_up : (n up i : ℕ) → up ≤ i → n * 2 ^ up / 2 ^ i ≡ n / 2 ^ (i - up)
bit_up n up i h =
    let split : up + (i - up) ≡ i = omega arith in
    subst (λ t. n * 2 ^ up / 2 ^ t ≡ n / 2 ^ (i - up)) split (sym (shr-shr (n * 2 ^ up) up (i - up)) ∙ ap (λ x. x / 2 ^ (i - up)) (shl-shr n up))

no_bit_under : (n up i : ℕ) → i < up → n * 2 ^ up / 2 ^ i % 2 ≡ 0
no_bit_under n up i h =
    let half = 2 ^ (up - suc i) in
    let doubled : n * 2 ^ up ≡ n * half * 2 * 2 ^ i =
    ap (λ x. n * x) (even_multiple i up h) ∙ sym (mul_assoc n (half * 2) (2 ^ i)) ∙ ap (λ x. x * 2 ^ i) (sym (mul_assoc n half 2)) in
    omega (arith, ap (λ x. x / 2 ^ i) doubled ∙ shl-shr (n * half * 2) i)

-- adding one to an even number changes only bit 0
odd_above : (n k : ℕ) → n % 2 ≡ 0 → (n + 1) / 2 ^ (1 + k) ≡ n / 2 ^ (1 + k)
odd_above n k even =
    let half : (n + 1) / 2 ^ 1 ≡ n / 2 ^ 1 = omega (arith, even) in
    sym (shr-shr (n + 1) 1 k) ∙ ap (λ x. x / 2 ^ k) half ∙ shr-shr n 1 k

-- moved up by 32 or more, all fall away
pub moved_out : (m up : ℕ) → 32 ≤ up → moved m up ≡ 0
unfolding moved
moved_out m up h =
    let split : up - 32 + 32 ≡ up = omega arith in
    subst (λ t. m * 2 ^ t % 2 ^ 32 ≡ 0) split
    (ap (λ x. x % 2 ^ 32) (ap (λ x. m * x) (pow-add 2 (up - 32) 32) ∙ sym (mul_assoc m (2 ^ (up - 32)) (2 ^ 32))) ∙ mul-mod_left (m * 2 ^ (up - 32)) (2 ^ 32))

-- a shift up from which all falls away at 32 or more
pub moved_shift : (m up : ℕ) → cond (ltb up 32) (m * 2 ^ up % 2 ^ 32) 0 ≡ moved m up
unfolding moved
moved_shift m up = by (lt_or_le up 32)
  where
    by : (up < 32) ⊎ (32 ≤ up) → cond (ltb up 32) (m * 2 ^ up % 2 ^ 32) 0 ≡ m * 2 ^ up % 2 ^ 32
    by (inl few) = rw (lt-ltb up 32 few)
    by (inr many) = rw (le-ltb up 32 many) (sym (moved_out m up many))

module _ (m up : ℕ) (higher : 0 < up) where
  -- marks moved up leave mark 0 free
  moved_even : moved m up % 2 ≡ 0
  unfolding moved
  moved_even = omega (arith, bit_low (m * 2 ^ up) 32 0 (lit< tt), no_bit_under m up 0 higher)

  pub moved-fits : moved m up + 1 < 2 ^ 32
  unfolding moved
  moved-fits = omega (arith, moved_even)

  pub marked-moved-own : marked (moved m up + 1) 0 ≡ true
  unfolding marked
  marked-moved-own = eq-eqb ((moved m up + 1) / 2 ^ 0 % 2) 1 (omega (arith, moved_even))

  bit_moved : (i : ℕ) → 0 < i → i < 32 → (moved m up + 1) / 2 ^ i % 2 ≡ m * 2 ^ up / 2 ^ i % 2
  unfolding moved
  bit_moved i some h =
      let behind : 1 + (i - 1) ≡ i = omega arith in
      ap (λ x. x % 2) (subst (λ t. (moved m up + 1) / 2 ^ t ≡ moved m up / 2 ^ t) behind (odd_above (moved m up) (i - 1) moved_even))
      ∙ bit_low (m * 2 ^ up) 32 i h

  pub marked-moved : (i : ℕ) → up ≤ i → i < 32 → marked (moved m up + 1) i ≡ marked m (i - up)
  unfolding marked
  marked-moved i reached h = ap (λ x. eqb x 1) (bit_moved i (omega arith) h ∙ ap (λ x. x % 2) (bit_up m up i reached))

  pub unmarked-moved : (i : ℕ) → 0 < i → i < up → i < 32 → marked (moved m up + 1) i ≡ false
  unfolding marked
  unmarked-moved i some under h = ap (λ x. eqb x 1) (bit_moved i some h ∙ no_bit_under m up i under)

-- a mark that is not set is added
module _ (m j : ℕ) (free : marked m j ≡ false) where
  even_there : m / 2 ^ j % 2 ≡ 0
  unfolding marked
  even_there = omega (arith, eqb-false (m / 2 ^ j % 2) 1 free)

  one_more : (m + 2 ^ j) / 2 ^ j ≡ m / 2 ^ j + 1
  one_more = add-div_right m (pow_pos j)

  above : (i : ℕ) → j < i → (m + 2 ^ j) / 2 ^ i ≡ m / 2 ^ i
  above i h =
      let split : j + (1 + (i - suc j)) ≡ i = omega arith in
      subst (λ t. (m + 2 ^ j) / 2 ^ t ≡ m / 2 ^ t) split
      (sym (shr-shr (m + 2 ^ j) j (1 + (i - suc j))) ∙ ap (λ x. x / 2 ^ (1 + (i - suc j))) one_more ∙ odd_above (m / 2 ^ j) (i - suc j) even_there
      ∙ shr-shr m j (1 + (i - suc j)))

  under : (i : ℕ) → i < j → (m + 2 ^ j) / 2 ^ i % 2 ≡ m / 2 ^ i % 2
  under i h = omega (arith, ap (λ x. (m + x) / 2 ^ i) (even_multiple i j h) ∙ add-mul-div_right m (2 ^ (j - suc i) * 2) (pow_pos i))

  pub added-fits : j < 32 → m < 2 ^ 32 → m + 2 ^ j < 2 ^ 32
  added-fits h fits = omega (arith, above 32 h)

  pub marked-added-own : marked (m + 2 ^ j) j ≡ true
  unfolding marked
  marked-added-own = eq-eqb ((m + 2 ^ j) / 2 ^ j % 2) 1 (omega (arith, one_more, even_there))

  pub marked-added : (i : ℕ) → (i ≡ j → ⊥) → marked (m + 2 ^ j) i ≡ marked m i
  unfolding marked
  marked-added i other = ap (λ x. eqb x 1) (by (lt_or_le i j))
    where
      by : (i < j) ⊎ (j ≤ i) → (m + 2 ^ j) / 2 ^ i % 2 ≡ m / 2 ^ i % 2
      by (inl h) = under i h
      by (inr h) = ap (λ x. x % 2) (above i (omega (arith, other)))
