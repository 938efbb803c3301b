-- Values joined: their length, where each stands, and a loop that writes them one after another into a slice.
use mathlib.Core.Path.{◌≡◌, refl, sym, ap, ◌∙◌}
use mathlib.Core.Logic.{◌⊎◌, inl, inr}
use mathlib.Core.List.{List, ◌++◌, append_assoc, append-nil}
use Prim.Native.Nat.{ℕ, zero, suc, ◌+◌, ◌*◌, ◌<◌, ◌≤◌}
use native.Mathlib.Nat.{mul-suc, mul-le-mul_left, eq-or-lt_of_le}
use native.Mathlib.Numerals.{add-one}
use native.Mathlib.Omega.{arith}
use lib.ListN.{length, take, drop, length-append, length-drop, take-append-drop}
use lib.Seq.{length-take-le, take_at, drop_at, drop-append-add, drop-drop}
use Rattle.lists.specs.Joined.{join_to}
use Rattle.lists.proofs.Lists.{length_part}

-- one value more
join_to-next : (f : ℕ → List ℕ) (n : ℕ) {r : List ℕ} → r ≡ join_to f n → join_to f (n + 1) ≡ r ++ f n
unfolding join_to
join_to-next f n e = rw (add-one, e)

-- the same behind other bytes
pub join_to-behind : (front : List ℕ) (f : ℕ → List ℕ) (n : ℕ) → front ++ join_to f n ++ f n ≡ front ++ join_to f (n + 1)
join_to-behind front f n = append_assoc front (join_to f n) (f n) ∙ ap (λ l. front ++ l) (sym (join_to-next f n refl))

pub join_to_cong : (f g : ℕ → List ℕ) (n : ℕ) → ((c : ℕ) → c < n → f c ≡ g c) → join_to f n ≡ join_to g n
unfolding join_to
join_to_cong f g zero same = refl
join_to_cong f g (suc n) same = rw (join_to_cong f g n (λ c h. same c (omega arith)), same n (omega arith))

pub length-join_to : (f : ℕ → List ℕ) (k n : ℕ) → ((c : ℕ) → c < n → length (f c) ≡ k) → length (join_to f n) ≡ k * n
unfolding join_to
length-join_to f k zero each = omega arith
length-join_to f k (suc n) each =
    length-append (join_to f n) (f n) ∙ rw (length-join_to f k n (λ c h. each c (omega arith)), each n (omega arith), mul-suc k n)

-- where a value stands
pub part-join_to : (f : ℕ → List ℕ) (k n : ℕ) → ((c : ℕ) → c < n → length (f c) ≡ k) → (c : ℕ) (more : List ℕ) → c < n
    → take k (drop (k * c) (join_to f n ++ more)) ≡ f c
unfolding join_to
part-join_to f k zero each c more h = absurd (omega arith)
part-join_to f k (suc n) each c more h =
    rw append_assoc (by (eq-or-lt_of_le {n = c} {m = n} (omega arith)) (part-join_to f k n before c (f n ++ more)))
  where
    before : (d : ℕ) → d < n → length (f d) ≡ k
    before d low = each d (omega arith)

    by : (c ≡ n) ⊎ (c < n) → (c < n → take k (drop (k * c) (join_to f n ++ (f n ++ more))) ≡ f c) → take k (drop (k * c) (join_to f n ++ (f n ++ more))) ≡ f c
    by (inl e) next = rw (e, drop_at (join_to f n) (f n ++ more) (k * n) (length-join_to f k n before)) (take_at (f n) more k (each n (omega arith)))
    by (inr low) next = next low

-- of n values of length k that stand in a list one after another, each is there whole
pub length-value : (k : ℕ) (l : List ℕ) (n c : ℕ) → k * n ≤ length l → c < n → length (take k (drop (k * c) l)) ≡ k
length-value k l n c fits h = length_part l (k * c) k (omega (arith, mul-suc k c, mul-le-mul_left {m = suc c} {n = n} k h))

-- of a slice that begins with the front and goes on as o, a part behind the front is written
pub written_behind : (front v o : List ℕ) (m k : ℕ) {out out' : List ℕ} → length front ≡ m → out ≡ front ++ drop m o
    → out' ≡ take m out ++ v ++ drop (m + k) out
    → out' ≡ front ++ v ++ drop (m + k) o
written_behind front v o m k long e w =
    let back : drop (m + k) (front ++ drop m o) ≡ drop (m + k) o =
    ap (λ j. drop (j + k) (front ++ drop m o)) (sym long) ∙ drop-append-add front (drop m o) k ∙ drop-drop k m o in
    w ∙ rw (e, take_at front (drop m o) m long, back)

-- a loop that writes values of length k into the slice o, from index `at` on
module _ (f : ℕ → List ℕ) (k n : ℕ) (each : (c : ℕ) → c < n → length (f c) ≡ k) (at : ℕ) (o : List ℕ) (fits : at + k * n ≤ length o) where
  -- what is before the value c, after c turns
  length_written : (c : ℕ) → c ≤ n → length (take at o ++ join_to f c) ≡ at + k * c
  length_written c h =
      length-append (take at o) (join_to f c) ∙ rw (length-take-le at o (omega arith), length-join_to f k c (λ d low. each d (omega arith)))

  -- a turn
  pub write_next : (c : ℕ) {v out out' : List ℕ} → c < n → v ≡ f c → out ≡ take at o ++ join_to f c ++ drop (at + k * c) o
      → out' ≡ take (at + k * c) out ++ v ++ drop (at + k * c + k) out → out' ≡ take at o ++ join_to f (c + 1) ++ drop (at + k * (c + 1)) o
  write_next c {v} h s e w =
      let past : at + k * c + k ≡ at + k * (c + 1) = omega (arith, mul-suc k c) in
      written_behind (take at o ++ join_to f c) v o (at + k * c) k (length_written c (omega arith)) e w
      ∙ rw (s, past, join_to-behind (take at o) f c)

  -- the slice keeps its length
  pub write_long : (c : ℕ) {out : List ℕ} → c ≤ n → out ≡ take at o ++ join_to f c ++ drop (at + k * c) o → length out ≡ length o
  write_long c h e =
      let within : k * c ≤ k * n = mul-le-mul_left k h in
      ap length e ∙ length-append (take at o ++ join_to f c) (drop (at + k * c) o) ∙ omega (arith, length_written c h, length-drop (at + k * c) o)

-- before the first turn
pub write_start : (f : ℕ → List ℕ) (k at : ℕ) (o : List ℕ) → o ≡ take at o ++ join_to f 0 ++ drop (at + k * 0) o
unfolding join_to
write_start f k at o = let none : at + k * 0 ≡ at = omega arith in rw (none, append-nil) (sym (take-append-drop at o))
