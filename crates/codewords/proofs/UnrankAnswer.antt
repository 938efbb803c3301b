-- What Spread answers and leaves.
use mathlib.Core.Path.{◌≡◌, refl, ◌∙◌, ap, sym}
use mathlib.Core.Bool.{Bool, true, false, not}
use mathlib.Core.List.{List, [], ◌∷◌, ◌++◌}
use Prim.Native.Nat.{ℕ, ◌<◌, ◌≤◌}
use borrow.Author.Tests.{ltb-true, ltb-false, leb-false, le-leb, lt-leb}
use lib.Dec.{ltb, leb}
use lib.ListN.{length, drop}
use Rattle.std.specs.Prelude.{Result, Ok, Err}
use Rattle.refusal.specs.Code.{outcome_code, first_cause}
use Rattle.refusal.specs.declared.Refusal.{Refusal}
use Rattle.refusal.proofs.Causes.{none_here, granted-none, refused-number}
use Rattle.numbers.specs.Number.{to_words}
use Rattle.profile.specs.Checks.{InLimits}
use Rattle.profile.specs.declared.Shape.{Shape}
use Rattle.counts.specs.Counts.{count}
use Rattle.counts.specs.Table.{table_length, with_table}
use Rattle.counts.specs.Operations.{count_causes}
use Rattle.counts.proofs.Answer.{table-held}
use Rattle.counts.proofs.Room.{count-early, count-passed}
use Rattle.counts.proofs.TableOperation.{Refuses, refused, refused-own, granted-own, table-left}
use Rattle.codewords.specs.Operations.{row_of, unrank_code, Unranks}
use Rattle.codewords.specs.inner.Placing.{Placeable, PlacesNumber}

-- the test of 7
pub not_below : (n k : ℕ) {m : ℕ} {less : Bool} → less ≡ ltb n m → m ≡ k → not less ≡ leb k n
not_below n k {m} {less} e f = by less (e ∙ ap (ltb n) f)
  where
    by : (b : Bool) → b ≡ ltb n k → not b ≡ leb k n
    by true t = sym (lt-leb k n (ltb-true n k (sym t)))
    by false t = sym (le-leb k n (ltb-false n k (sym t)))

-- where 7 alone is looked at
module _ (shape : Shape) (n : ℕ) (row : List ℕ) {r : Result (Unit {0}) Refusal} (looked : outcome_code r ≡ first_cause ((leb (count shape) n, 7) ∷ [])) where
  pub not_placed : {cause : Refusal} {answer : Result (Unit {0}) Refusal} → r ≡ Err cause → answer ≡ Err cause → PlacesNumber shape n row row answer
  not_placed was e = rw e (record { answer = ap outcome_code (sym was) ∙ looked; placed = rw (refused-number was (ap outcome_code was)) refl })

  module _ {v : Unit {0}} (granted : r ≡ Ok v) where
    pub below_count : n < count shape
    below_count = leb-false (count shape) n (none_here (leb (count shape) n) 7 [] refl (granted-none ((leb (count shape) n, 7) ∷ []) granted looked)).0

    pub placed_number : {row' : List ℕ} → row' ≡ row_of shape n ++ drop shape.chains row → PlacesNumber shape n row row' (Ok tt)
    placed_number written = record { answer = sym (granted-none ((leb (count shape) n, 7) ∷ []) granted looked); placed = written }

-- with the table that was filled, a codeword can be placed
pub placeable : {shape : Shape} (work : List ℕ) {row left n : List ℕ} → shape.chains ≤ length row → n ≡ to_words 5 (count shape)
    → left ≡ with_table shape work → Placeable shape n left row
placeable {shape} work room counted filled = record { counted = counted; held = table-held shape work filled; room = room }

-- the causes before 7: those of Count, and the size of the row
module _ (shape : Shape) (k : ℕ) (work row : List ℕ) where
  abbrev first : List (Bool × ℕ)
  first = count_causes shape (length work)

  abbrev own : List (Bool × ℕ)
  own = (ltb (length row) shape.chains, 6) ∷ []

  abbrev seven : List (Bool × ℕ)
  seven = (leb (count shape) k, 7) ∷ []

  stopped : {cause : Refusal} {answer : Result (Unit {0}) Refusal} → Refuses (unrank_code shape k work row) cause → answer ≡ Err cause
      → Unranks shape k work row work row answer
  stopped refuses e = rw e (record { code = refuses.answer; table = refuses.untouched shape work; written = rw refuses.some refl })

  module _ {r : Result (Unit {0}) Refusal} (counted : outcome_code r ≡ first_cause (count_causes shape (length work))) where
    pub unrank_refused : {cause : Refusal} {answer : Result (Unit {0}) Refusal} → r ≡ Err cause → answer ≡ Err cause → Unranks shape k work row work row answer
    unfolding unrank_code
    unrank_refused was = stopped (refused first (own ++ seven) (count-early shape (length work)) refl counted was)

    module _ {v : Unit {0}} (passed : r ≡ Ok v) where
      pub unrank_limits : InLimits shape × (table_length shape ≤ length work)
      unrank_limits = count-passed shape (length work) (granted-none first passed counted)

      module _ {s : Result (Unit {0}) Refusal} (sized : outcome_code s ≡ first_cause ((ltb (length row) shape.chains, 6) ∷ [])) where
        pub unrank_row_refused : {cause : Refusal} {answer : Result (Unit {0}) Refusal} → s ≡ Err cause → answer ≡ Err cause
            → Unranks shape k work row work row answer
        unfolding unrank_code
        unrank_row_refused was = stopped (refused-own first own seven (count-early shape (length work)) (refl, tt) refl counted passed sized was)

        module _ {u : Unit {0}} (granted : s ≡ Ok u) where
          pub unrank_room : shape.chains ≤ length row
          unrank_room = ltb-false (length row) shape.chains (none_here (ltb (length row) shape.chains) 6 [] refl (granted-none own granted sized)).0

          pub unrank_answers : {left row' : List ℕ} {answer : Result (Unit {0}) Refusal} → left ≡ with_table shape work → PlacesNumber shape k row row' answer
              → Unranks shape k work row left row' answer
          unfolding unrank_code
          unrank_answers filled places =
              let rest = (granted-own first own seven (count-early shape (length work)) (refl, tt) refl counted passed sized granted).rest in
              let code = places.answer ∙ sym rest in
              record { code = code; table = table-left seven (refl, tt) rest shape work filled; written = rw code at places.placed }
