-- Ch and Maj in forms that take fewer operations, proved digit by digit.
use Rattle.std.proofs.Common.{◌≡◌, ℕ, zero, suc, ◌-◌, ◌*◌, ◌/◌, ◌%◌, ◌^◌, ◌<◌, sym, refl, ◌∙◌, pow-suc, arith}
use lib.Bits.{bit_and, bit_xor, and_shr, xor_shr, and_mod, xor_mod}

-- numbers with equal halves and equal last digits
join : (a b : ℕ) → a / 2 ≡ b / 2 → a % 2 ≡ b % 2 → a ≡ b
join a b p q = omega arith

-- two functions of a digit that agree in both cases
digit : (f g : ℕ → ℕ) → f 0 ≡ g 0 → f 1 ≡ g 1 → (d : ℕ) → d < 2 → f d ≡ g d
digit f g p q zero h = p
digit f g p q (suc zero) h = q
digit f g p q (suc (suc d)) h = absurd (omega arith)

-- two functions of three digits that agree in all eight cases
module _ (f g : ℕ → ℕ → ℕ → ℕ) (e₀ : f 0 0 0 ≡ g 0 0 0) (e₁ : f 0 0 1 ≡ g 0 0 1) (e₂ : f 0 1 0 ≡ g 0 1 0) (e₃ : f 0 1 1 ≡ g 0 1 1)
    (e₄ : f 1 0 0 ≡ g 1 0 0) (e₅ : f 1 0 1 ≡ g 1 0 1) (e₆ : f 1 1 0 ≡ g 1 1 0) (e₇ : f 1 1 1 ≡ g 1 1 1) where
  digits : (x y z : ℕ) → x < 2 → y < 2 → z < 2 → f x y z ≡ g x y z
  digits x y z hx hy hz =
      digit (λ a. f a y z) (λ a. g a y z)
      (digit (λ b. f 0 b z) (λ b. g 0 b z) (digit (f 0 0) (g 0 0) e₀ e₁ z hz) (digit (f 0 1) (g 0 1) e₂ e₃ z hz) y hy)
      (digit (λ b. f 1 b z) (λ b. g 1 b z) (digit (f 1 0) (g 1 0) e₄ e₅ z hz) (digit (f 1 1) (g 1 1) e₆ e₇ z hz) y hy)
      x hx

abbrev choose : ℕ → ℕ → ℕ → ℕ
choose x y z = bit_xor z (bit_and x (bit_xor y z))

-- with n the complement of x
abbrev chosen : ℕ → ℕ → ℕ → ℕ → ℕ
chosen x n y z = bit_xor (bit_and x y) (bit_and n z)

choose_half : (x y z : ℕ) → choose x y z / 2 ≡ choose (x / 2) (y / 2) (z / 2)
choose_half x y z = xor_shr z (bit_and x (bit_xor y z)) 1 ∙ rw (and_shr x (bit_xor y z) 1, xor_shr y z 1)

choose-last : (x y z : ℕ) → choose x y z % 2 ≡ choose (x % 2) (y % 2) (z % 2)
choose-last x y z = xor_mod z (bit_and x (bit_xor y z)) 1 ∙ rw (and_mod x (bit_xor y z) 1, xor_mod y z 1)

chosen_half : (x n y z : ℕ) → chosen x n y z / 2 ≡ chosen (x / 2) (n / 2) (y / 2) (z / 2)
chosen_half x n y z = xor_shr (bit_and x y) (bit_and n z) 1 ∙ rw (and_shr x y 1, and_shr n z 1)

chosen_last : (x n y z : ℕ) → chosen x n y z % 2 ≡ chosen (x % 2) (n % 2) (y % 2) (z % 2)
chosen_last x n y z = xor_mod (bit_and x y) (bit_and n z) 1 ∙ rw (and_mod x y 1, and_mod n z 1)

-- the complement of x among p pairs, in halves and last digits
complement_half : (p x : ℕ) → x < p * 2 → (p * 2 - 1 - x) / 2 ≡ p - 1 - x / 2
complement_half p x h = omega arith

complement-last : (p x : ℕ) → x < p * 2 → (p * 2 - 1 - x) % 2 ≡ 1 - x % 2
complement-last p x h = omega arith

half_below : (p x : ℕ) → x < p * 2 → x / 2 < p
half_below p x h = omega arith

-- (4.2) on words of k digits
pub choice : (k x y z : ℕ) → x < 2 ^ k → z < 2 ^ k → choose x y z ≡ chosen x (2 ^ k - 1 - x) y z
choice zero x y z hx hz =
    let ex : x ≡ 0 = omega arith in
    let ez : z ≡ 0 = omega arith in
    rw (ex, ez)
choice (suc k) x y z hx hz =
    let n = 2 ^ suc k - 1 - x in
    let lx = rw (pow-suc 2 k) at hx in
    let lz = rw (pow-suc 2 k) at hz in
    let e : n / 2 ≡ 2 ^ k - 1 - x / 2 = rw (pow-suc 2 k) (complement_half (2 ^ k) x lx) in
    let f : n % 2 ≡ 1 - x % 2 = rw (pow-suc 2 k) (complement-last (2 ^ k) x lx) in
    join (choose x y z) (chosen x n y z)
    (choose_half x y z ∙ choice k (x / 2) (y / 2) (z / 2) (half_below (2 ^ k) x lx) (half_below (2 ^ k) z lz) ∙ rw (← e) (sym (chosen_half x n y z)))
    (choose-last x y z
    ∙ digits choose (λ a b c. chosen a (1 - a) b c) refl refl refl refl refl refl refl refl (x % 2) (y % 2) (z % 2) (omega arith) (omega arith) (omega arith)
    ∙ rw (← f) (sym (chosen_last x n y z)))

abbrev vote : ℕ → ℕ → ℕ → ℕ
vote x y z = bit_xor y (bit_and (bit_xor x y) (bit_xor y z))

abbrev most : ℕ → ℕ → ℕ → ℕ
most x y z = bit_xor (bit_xor (bit_and x y) (bit_and x z)) (bit_and y z)

vote_half : (x y z : ℕ) → vote x y z / 2 ≡ vote (x / 2) (y / 2) (z / 2)
vote_half x y z = xor_shr y (bit_and (bit_xor x y) (bit_xor y z)) 1 ∙ rw (and_shr (bit_xor x y) (bit_xor y z) 1, xor_shr x y 1, xor_shr y z 1)

vote-last : (x y z : ℕ) → vote x y z % 2 ≡ vote (x % 2) (y % 2) (z % 2)
vote-last x y z = xor_mod y (bit_and (bit_xor x y) (bit_xor y z)) 1 ∙ rw (and_mod (bit_xor x y) (bit_xor y z) 1, xor_mod x y 1, xor_mod y z 1)

most_half : (x y z : ℕ) → most x y z / 2 ≡ most (x / 2) (y / 2) (z / 2)
most_half x y z = xor_shr (bit_xor (bit_and x y) (bit_and x z)) (bit_and y z) 1
    ∙ rw (xor_shr (bit_and x y) (bit_and x z) 1, and_shr x y 1, and_shr x z 1, and_shr y z 1)

most-last : (x y z : ℕ) → most x y z % 2 ≡ most (x % 2) (y % 2) (z % 2)
most-last x y z = xor_mod (bit_xor (bit_and x y) (bit_and x z)) (bit_and y z) 1
    ∙ rw (xor_mod (bit_and x y) (bit_and x z) 1, and_mod x y 1, and_mod x z 1, and_mod y z 1)

-- (4.3) on words of k digits
pub majority : (k x y z : ℕ) → x < 2 ^ k → y < 2 ^ k → vote x y z ≡ most x y z
majority zero x y z hx hy =
    let ex : x ≡ 0 = omega arith in
    let ey : y ≡ 0 = omega arith in
    rw (ex, ey)
majority (suc k) x y z hx hy =
    let lx = half_below (2 ^ k) x (rw (pow-suc 2 k) at hx) in
    let ly = half_below (2 ^ k) y (rw (pow-suc 2 k) at hy) in
    join (vote x y z) (most x y z) (vote_half x y z ∙ majority k (x / 2) (y / 2) (z / 2) lx ly ∙ sym (most_half x y z))
    (vote-last x y z
    ∙ digits vote most refl refl refl refl refl refl refl refl (x % 2) (y % 2) (z % 2) (omega arith) (omega arith) (omega arith)
    ∙ sym (most-last x y z))
