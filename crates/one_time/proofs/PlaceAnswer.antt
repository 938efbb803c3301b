-- What Reveal and Recover share: what is answered and left on each way out, and what that tells.
use mathlib.Core.Path.{◌≡◌, refl, ◌∙◌, ap, sym}
use mathlib.Core.Bool.{Bool, false}
use mathlib.Core.List.{List, [], ◌∷◌, ◌++◌}
use Prim.Native.Nat.{ℕ}
use lib.Dec.{leb, eqb}
use lib.ListN.{length, take, drop}
use Rattle.std.specs.Prelude.{Result, Ok, Err}
use Rattle.refusal.specs.Code.{outcome_code, first_cause}
use Rattle.refusal.specs.declared.Refusal.{Refusal}
use Rattle.refusal.proofs.Causes.{Avoids, none_here, none-of-append, granted-none}
use Rattle.profile.specs.Checks.{InLimits, leaf_beyond}
use Rattle.profile.specs.declared.Profile.{Profile}
use Rattle.counts.specs.Counts.{count}
use Rattle.counts.specs.Table.{with_table, table_causes, leaves_table}
use Rattle.counts.proofs.Room.{TablePassed, table-early, table-numbered, table-passed}
use Rattle.counts.proofs.TableOperation.{Refuses, refused, refused-own, granted-own, table-left}
use Rattle.codewords.specs.Operations.{row_of}
use Rattle.codewords.specs.inner.Placing.{PlacesNumber}
use Rattle.codewords.proofs.RowLaws.{row_front}
use Rattle.codewords.proofs.UnrankAnswer.{below_count}
use Rattle.one_time.specs.Operations.{own_causes, place_code}
use Rattle.one_time.specs.inner.Placing.{Places}

-- the causes before 7: those of the table, then the size of the values and the leaf
module _ (p : Profile) (leaf n : ℕ) (wrong : Bool) (size : ℕ) (work : List ℕ) (other : leaves_table size ≡ false) where
  abbrev first : List (Bool × ℕ)
  first = table_causes p (length work)

  abbrev own : List (Bool × ℕ)
  own = own_causes p.height leaf wrong size

  abbrev seven : List (Bool × ℕ)
  seven = (leb (count p.shape) n, 7) ∷ []

  abbrev between : Avoids leaves_table own
  between = (other, (refl, tt))

  stopped : {cause : Refusal} {answer : Result (List ℕ) Refusal} → Refuses (place_code p leaf n wrong size work) cause → answer ≡ Err cause
      → Places p leaf n wrong size work work answer
  stopped refuses e = rw e (record { code = refuses.answer; table = refuses.untouched p.shape work; placed = tt })

  module _ {r : Result (Unit {0}) Refusal} (checked : outcome_code r ≡ first_cause (table_causes p (length work))) where
    pub table_refused : {cause : Refusal} {answer : Result (List ℕ) Refusal} → r ≡ Err cause → answer ≡ Err cause
        → Places p leaf n wrong size work work answer
    unfolding place_code
    table_refused was = stopped (refused first (own ++ seven) (table-early p (length work)) refl checked was)

    module _ {v : Unit {0}} (passed : r ≡ Ok v) where
      -- the table of the profile fits
      pub table_fits : TablePassed p (length work)
      table_fits = table-passed p (length work) (granted-none first passed checked)

      module _ {s : Result (Unit {0}) Refusal} (looked : outcome_code s ≡ first_cause (own_causes p.height leaf wrong size)) where
        pub own_refused : {cause : Refusal} {answer : Result (List ℕ) Refusal} → s ≡ Err cause → answer ≡ Err cause
            → Places p leaf n wrong size work work answer
        unfolding place_code
        own_refused was = stopped (refused-own first own seven (table-early p (length work)) between refl checked passed looked was)

        module _ {u : Unit {0}} (granted : s ≡ Ok u) where
          rest : place_code p leaf n wrong size work ≡ first_cause seven
          unfolding place_code
          rest = (granted-own first own seven (table-early p (length work)) between refl checked passed looked granted).rest

          -- 7 leaves the table, and so does a grant
          module _ {left row row' : List ℕ} {t : Result (Unit {0}) Refusal} (filled : left ≡ with_table p.shape work)
              (places : PlacesNumber p.shape n row row' t) where
            pub number_refused : {cause : Refusal} {answer : Result (List ℕ) Refusal} → t ≡ Err cause → answer ≡ Err cause
                → Places p leaf n wrong size work left answer
            number_refused was e =
                rw e (record {
                  code = ap outcome_code (sym was) ∙ places.answer ∙ sym rest;
                  table = table-left seven (refl, tt) rest p.shape work filled;
                  placed = tt;
                })

            pub number_placed : {w : Unit {0}} → t ≡ Ok w → Places p leaf n wrong size work left (Ok row')
            number_placed was =
                let front = row_front p.shape n (below_count p.shape n row places.answer was) (drop p.shape.chains row) in
                record {
                  code = sym (rest ∙ granted-none seven was places.answer);
                  table = table-left seven (refl, tt) rest p.shape work filled;
                  placed = rw (rw was at places.placed) front;
                }

-- what a grant tells: no cause holds, and the row begins with the codeword
pub record Grants (code : ℕ) (p : Profile) (n : ℕ) (wrong : Bool) (row : List ℕ) : Type 0 where
  pub none : code ≡ 0
  pub limits : InLimits p.shape
  pub sized : wrong ≡ false
  pub placed : take p.shape.chains row ≡ row_of p.shape n

module _ {p : Profile} {leaf n : ℕ} {wrong : Bool} {size : ℕ} {work work' : List ℕ} {r : Result (List ℕ) Refusal}
    (places : Places p leaf n wrong size work work' r) where
  pub place_grants : {row : List ℕ} → eqb size 0 ≡ false → r ≡ Ok row → Grants (place_code p leaf n wrong size work) p n wrong row
  unfolding place_code
  place_grants positive was =
      let none : place_code p leaf n wrong size work ≡ 0 = sym places.code ∙ ap outcome_code was in
      let seven : List (Bool × ℕ) = (leb (count p.shape) n, 7) ∷ [] in
      let both = none-of-append (table_causes p (length work)) (own_causes p.height leaf wrong size ++ seven) (table-numbered p (length work)) none in
      record {
        none = none;
        limits = (table-passed p (length work) both.0).limits;
        sized = (none_here wrong size ((leaf_beyond p.height leaf, 11) ∷ seven) positive both.1).0;
        placed = rw was at places.placed;
      }
