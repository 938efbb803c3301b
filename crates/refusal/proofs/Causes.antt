-- Causes in order: those behind others count where none of these holds; and what the answer of a call tells of the causes that it looked at.
use mathlib.Core.Path.{◌≡◌, refl, ◌∙◌, ap, sym}
use mathlib.Core.Bool.{Bool, true, false, not, true≢false}
use mathlib.Core.List.{List, [], ◌∷◌, ◌++◌}
use mathlib.Core.Logic.{◌↔◌}
use Prim.Native.Nat.{ℕ, ◌<◌}
use native.Mathlib.Omega.{arith}
use borrow.Author.Tests.{eqb-false, eq-eqb, ne_eqb, not-false}
use lib.Dec.{eqb}
use Rattle.std.specs.Prelude.{Result, Ok, Err}
use Rattle.refusal.specs.Code.{code, outcome_code, first_cause}
use Rattle.refusal.specs.declared.Refusal.{Refusal}
use Rattle.refusal.proofs.Positive.{code-positive}

-- no cause of the list has a code of the kind that the test tells
abbrev pub Avoids : (ℕ → Bool) → List (Bool × ℕ) → Type 0
Avoids kind [] = Unit {0}
Avoids kind (cause ∷ more) = (kind cause.1 ≡ false) × Avoids kind more

-- no cause of the list has the code k
abbrev pub Without : ℕ → List (Bool × ℕ) → Type 0
Without k causes = Avoids (λ n. eqb n k) causes

-- no cause of the list has the code of granted
abbrev pub Numbered : List (Bool × ℕ) → Type 0
Numbered causes = Without 0 causes

pub avoids_append : (kind : ℕ → Bool) (first more : List (Bool × ℕ)) → Avoids kind first → Avoids kind more → Avoids kind (first ++ more)
avoids_append kind [] more p q = q
avoids_append kind (cause ∷ first) more p q = (p.0, avoids_append kind first more p.1 q)

pub avoids_other : (kind other : ℕ → Bool) (causes : List (Bool × ℕ)) → ((n : ℕ) → kind n ≡ false → other n ≡ false) → Avoids kind causes → Avoids other causes
avoids_other kind other [] fewer p = tt
avoids_other kind other (cause ∷ more) fewer p = (fewer cause.1 p.0, avoids_other kind other more fewer p.1)

pub without-append : (k : ℕ) (first more : List (Bool × ℕ)) → Without k first → Without k more → Without k (first ++ more)
without-append k first more p q = avoids_append (λ n. eqb n k) first more p q

-- a smaller code is another
pub smaller_number : (n k : ℕ) → n < k → eqb n k ≡ false
smaller_number n k h = ne_eqb n k (λ z. omega arith)

-- of causes none of which is of a kind, the first that holds is not
first_avoids : (kind : ℕ → Bool) (causes : List (Bool × ℕ)) → Avoids kind causes → 0 < first_cause causes → kind (first_cause causes) ≡ false
first_avoids kind [] p h = absurd (omega arith)
first_avoids kind (cause ∷ more) p h = by cause.0 cause.1 p.0 h (first_avoids kind more p.1)
  where
    by : (test : Bool) (n : ℕ) → kind n ≡ false → 0 < first_cause ((test, n) ∷ more) → (0 < first_cause more → kind (first_cause more) ≡ false)
        → kind (first_cause ((test, n) ∷ more)) ≡ false
    by true n here some rest = here
    by false n here some rest = rest some

-- a code that no cause of a list has is not that of the first that holds
pub first-without : (k : ℕ) (causes : List (Bool × ℕ)) → Without k causes → 0 < k → first_cause causes ≡ k → ⊥
first-without k causes p some e = true≢false (sym (rw e (eq-eqb k k refl)) ∙ first_avoids (λ n. eqb n k) causes p (omega arith))

-- causes none of which is of a kind, and then causes that all are, as 0 is: the first that holds is of the kind exactly where none of the former holds
pub kind_then : (kind : ℕ → Bool) (first more : List (Bool × ℕ)) → kind 0 ≡ true → Avoids kind first → Avoids (λ n. not (kind n)) more
    → kind (first_cause (first ++ more)) ≡ eqb (first_cause first) 0
kind_then kind [] [] none p q = none
kind_then kind [] (cause ∷ more) none p q = by cause.0 (not-false (kind cause.1) q.0) (kind_then kind [] more none tt q.1)
  where
    by : (test : Bool) → kind cause.1 ≡ true → kind (first_cause more) ≡ true → kind (first_cause ((test, cause.1) ∷ more)) ≡ true
    by true here rest = here
    by false here rest = rest
kind_then kind (cause ∷ first) more none p q = by cause.0 (kind_then kind first more none p.1 q)
  where
    other : cause.1 ≡ 0 → ⊥
    other e = true≢false (sym none ∙ rw e at p.0)

    by : (test : Bool) → kind (first_cause (first ++ more)) ≡ eqb (first_cause first) 0
        → kind (first_cause ((test, cause.1) ∷ (first ++ more))) ≡ eqb (first_cause ((test, cause.1) ∷ first)) 0
    by true rest = p.0 ∙ sym (ne_eqb cause.1 0 other)
    by false rest = rest

-- a cause that does not hold is passed over
pub cause_passed : (test : Bool) (n : ℕ) (more : List (Bool × ℕ)) → test ≡ false → first_cause ((test, n) ∷ more) ≡ first_cause more
cause_passed test n more e = rw e

-- where no cause holds, the first does not
pub none_here : (test : Bool) (n : ℕ) (more : List (Bool × ℕ)) → eqb n 0 ≡ false → first_cause ((test, n) ∷ more) ≡ 0 → (test ≡ false) × (first_cause more ≡ 0)
none_here true n more h e = absurd (eqb-false n 0 h e)
none_here false n more h e = (refl, e)

-- where none of the first causes holds, those behind them count
pub none_then : (first more : List (Bool × ℕ)) → first_cause first ≡ 0 → Numbered first → first_cause (first ++ more) ≡ first_cause more
none_then [] more e p = refl
none_then (cause ∷ first) more e p =
    let none = none_here cause.0 cause.1 first p.0 e in
    cause_passed cause.0 cause.1 (first ++ more) none.0 ∙ none_then first more none.1 p.1

some_then : (first more : List (Bool × ℕ)) → 0 < first_cause first → first_cause (first ++ more) ≡ first_cause first
some_then [] more h = absurd (omega arith)
some_then (cause ∷ first) more h = by cause.0 cause.1 h (some_then first more)
  where
    by : (test : Bool) (n : ℕ) → 0 < first_cause ((test, n) ∷ first) → (0 < first_cause first → first_cause (first ++ more) ≡ first_cause first)
        → first_cause ((test, n) ∷ (first ++ more)) ≡ first_cause ((test, n) ∷ first)
    by true n k rest = refl
    by false n k rest = rest k

-- a cause whose code no other has gives the answer exactly where it holds and none before it does
pub cause_answers : (before more : List (Bool × ℕ)) (test : Bool) (k : ℕ) → Numbered before → Without k before → Without k more → 0 < k
    → (first_cause (before ++ ((test, k) ∷ more)) ≡ k) ↔ ((first_cause before ≡ 0) × (test ≡ true))
cause_answers [] more true k p q later some = ((λ e. (refl, refl)), (λ holds. refl))
cause_answers [] more false k p q later some = ((λ e. absurd (first-without k more later some e)), (λ holds. absurd (true≢false (sym holds.1))))
cause_answers (cause ∷ before) more test k p q later some = by cause.0 cause.1 p.0 q.0 (cause_answers before more test k p.1 q.1 later some)
  where
    by : (first : Bool) (n : ℕ) → eqb n 0 ≡ false → eqb n k ≡ false
        → (first_cause (before ++ ((test, k) ∷ more)) ≡ k) ↔ ((first_cause before ≡ 0) × (test ≡ true))
        → (first_cause ((first, n) ∷ (before ++ ((test, k) ∷ more))) ≡ k) ↔ ((first_cause ((first, n) ∷ before) ≡ 0) × (test ≡ true))
    by true n numbered other rest = ((λ e. absurd (eqb-false n k other e)), (λ holds. absurd (eqb-false n 0 numbered holds.0)))
    by false n numbered other rest = rest

-- where none of a list holds, none of its first part does, and none of its second
pub none-of-append : (first more : List (Bool × ℕ)) → Numbered first → first_cause (first ++ more) ≡ 0 → (first_cause first ≡ 0) × (first_cause more ≡ 0)
none-of-append [] more p e = (refl, e)
none-of-append (cause ∷ first) more p e =
    let here = none_here cause.0 cause.1 (first ++ more) p.0 e in
    let rest = none-of-append first more p.1 here.1 in
    (cause_passed cause.0 cause.1 first here.0 ∙ rest.0, rest.1)

-- what an answer's code tells of the first causes, which gave it, and of all, with more behind them
module _ {A : Type 0} {r : Result A Refusal} where
  -- a refused answer's code is not 0
  pub refused-some : {n : ℕ} {e : Refusal} → r ≡ Err e → outcome_code r ≡ n → 0 < n
  refused-some {n} {e} q o = let positive : 0 < code e = code-positive e in let number : n ≡ code e = sym o ∙ ap outcome_code q in omega arith

  pub refused-number : {n : ℕ} {e : Refusal} → r ≡ Err e → outcome_code r ≡ n → eqb n 0 ≡ false
  refused-number {n} q o = let some = refused-some q o in ne_eqb n 0 (λ z. omega arith)

  -- refused by one of the first, it is so by all
  pub refused_first : (first more : List (Bool × ℕ)) {e : Refusal} → r ≡ Err e → outcome_code r ≡ first_cause first → code e ≡ first_cause (first ++ more)
  refused_first first more q o = ap outcome_code (sym q) ∙ o ∙ sym (some_then first more (refused-some q o))

  -- and its code is of no kind that they avoid
  pub refused_avoids : (kind : ℕ → Bool) (first : List (Bool × ℕ)) {e : Refusal} → Avoids kind first → r ≡ Err e → outcome_code r ≡ first_cause first
      → kind (code e) ≡ false
  refused_avoids kind first {e} p q o = let number : code e ≡ first_cause first = ap outcome_code (sym q) ∙ o in rw number (first_avoids kind first p (refused-some q o))

  -- granted, none of the first holds, and those behind them count
  pub granted-none : (first : List (Bool × ℕ)) {v : A} → r ≡ Ok v → outcome_code r ≡ first_cause first → first_cause first ≡ 0
  granted-none first q o = sym o ∙ ap outcome_code q

  pub granted_first : (first more : List (Bool × ℕ)) {v : A} → Numbered first → r ≡ Ok v → outcome_code r ≡ first_cause first
      → first_cause (first ++ more) ≡ first_cause more
  granted_first first more p q o = none_then first more (granted-none first q o) p
