-- What Reveal and Recover answer and leave where they are granted.
use mathlib.Core.Path.{◌≡◌, refl, ◌∙◌, sym}
use mathlib.Core.Bool.{not}
use mathlib.Core.List.{List, ◌++◌}
use Prim.Native.Nat.{ℕ, ◌+◌, ◌*◌, ◌≤◌}
use native.Mathlib.Nat.{zero-add}
use native.Mathlib.Omega.{arith}
use borrow.Author.Tests.{ltb-false, eqb-true, not-false}
use lib.Dec.{ltb, eqb}
use lib.ListN.{length, take, drop}
use Rattle.std.specs.Prelude.{Result, Ok}
use Rattle.refusal.specs.declared.Refusal.{Refusal}
use Rattle.profile.specs.Checks.{InLimits}
use Rattle.profile.specs.declared.Profile.{Profile}
use Rattle.tweak.specs.Tweak.{first_domain}
use Rattle.chains.specs.Leaves.{chains_of, revealed, recovered, steps_left}
use Rattle.chains.specs.declared.steps.Walked.{Walked}
use Rattle.chains.proofs.RowFront.{revealed-front, recovered-front, steps-left-front}
use Rattle.one_time.specs.Operations.{revealed_by, Reveals, recovered_by, steps_of, Recovers}
use Rattle.one_time.specs.inner.Placing.{Places}
use Rattle.one_time.proofs.PlaceAnswer.{place_grants}

-- Reveal, once the codeword is placed or refused
module _ {p : Profile} {leaf n : ℕ} {work work' : List ℕ} {r : Result (List ℕ) Refusal} (values : List ℕ)
    (places : Places p leaf n (ltb (length values) (16 * p.shape.chains)) 6 work work' r) where
  module _ {row : List ℕ} (granted : r ≡ Ok row) where
    pub reveal_room : InLimits p.shape × (0 + 16 * p.shape.chains ≤ length values)
    reveal_room =
        let grants = place_grants places refl granted in
        (grants.limits, omega (arith, ltb-false (length values) (16 * p.shape.chains) grants.sized))

    pub reveal_granted : (seed secret : List ℕ) {values' : List ℕ}
        → values'
        ≡ take 0 values ++ revealed (first_domain seed) (chains_of p.shape) secret leaf row ++ drop (0 + 16 * p.shape.chains) values
        → Reveals p seed secret leaf n work values work' values' (Ok tt)
    unfolding revealed_by
    reveal_granted seed secret w =
        let grants = place_grants places refl granted in
        let shown = revealed-front (chains_of p.shape) row grants.placed (first_domain seed) secret leaf in
        record { code = sym grants.none; table = places.table; written = rw grants.none (w ∙ rw (zero-add, shown)) }

-- Recover, once the codeword is placed or refused
module _ {p : Profile} {leaf n : ℕ} {work work' : List ℕ} {r : Result (List ℕ) Refusal} (values : List ℕ)
    (places : Places p leaf n (not (eqb (length values) (16 * p.shape.chains))) 13 work work' r) where
  module _ {row : List ℕ} (granted : r ≡ Ok row) where
    pub recover_room : InLimits p.shape × (16 * p.shape.chains ≤ length values)
    recover_room =
        let grants = place_grants places refl granted in
        (grants.limits, omega (arith, eqb-true (length values) (16 * p.shape.chains) (not-false _ grants.sized)))

    pub recover_granted : (seed : List ℕ) {found : Walked} → found.value ≡ recovered (first_domain seed) (chains_of p.shape) leaf row values
        → found.steps ≡ steps_left (chains_of p.shape) row → Recovers p seed leaf n values work work' (Ok found)
    unfolding recovered_by steps_of
    recover_granted seed k made =
        let grants = place_grants places refl granted in
        record {
          code = sym grants.none;
          key = rw grants.none (k ∙ recovered-front (chains_of p.shape) row grants.placed (first_domain seed) values leaf);
          steps = rw grants.none (made ∙ steps-left-front (chains_of p.shape) row grants.placed);
          table = places.table;
        }
