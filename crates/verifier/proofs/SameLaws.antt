-- Two byte strings pass the comparison exactly when they are equal, and it is that of the library.
use mathlib.Core.Path.{◌≡◌, refl, sym}
use mathlib.Core.Bool.{true, true≢false}
use mathlib.Core.List.{List, [], ◌∷◌}
use Prim.Native.Nat.{ℕ}
use borrow.Author.Tests.{eq-eqb, eqb-true}
use lib.Dec.{eqb}
use Rattle.std.specs.Str.{bytes_eq}
use Rattle.lists.proofs.Tests.{both}
use Rattle.verifier.specs.Verifying.{same_bytes}

pub same_refl : (xs : List ℕ) → same_bytes xs xs ≡ true
unfolding same_bytes
same_refl [] = refl
same_refl (x ∷ xs) = rw (eq-eqb x x refl, same_refl xs)

pub same_true : (xs ys : List ℕ) → same_bytes xs ys ≡ true → xs ≡ ys
unfolding same_bytes
same_true [] [] e = refl
same_true [] (y ∷ ys) e = absurd (true≢false (sym e))
same_true (x ∷ xs) [] e = absurd (true≢false (sym e))
same_true (x ∷ xs) (y ∷ ys) e =
    let each = both (eqb x y) (same_bytes xs ys) e in
    rw (eqb-true x y each.0, same_true xs ys each.1)

pub same_compared : (xs ys : List ℕ) → bytes_eq xs ys ≡ same_bytes xs ys
unfolding same_bytes
same_compared [] [] = refl
same_compared [] (y ∷ ys) = refl
same_compared (x ∷ xs) [] = refl
same_compared (x ∷ xs) (y ∷ ys) = rw (same_compared xs ys)
