-- What Root answers, refused and granted.
use mathlib.Core.Path.{◌≡◌, sym, ap, ◌∙◌}
use mathlib.Core.List.{List}
use Prim.Native.Nat.{ℕ}
use Rattle.std.specs.Prelude.{Result, Ok, Err}
use Rattle.refusal.specs.Code.{outcome_code, first_cause}
use Rattle.refusal.specs.declared.Refusal.{Refusal}
use Rattle.refusal.proofs.Causes.{granted-none, refused-number}
use Rattle.profile.specs.Checks.{profile_causes}
use Rattle.profile.specs.declared.Profile.{Profile}
use Rattle.tweak.specs.Tweak.{first_domain}
use Rattle.chains.specs.Leaves.{chains_of, leaf_key}
use Rattle.merkle.specs.Nodes.{node}
use Rattle.tree.specs.Tree.{root_at}
use Rattle.tree.specs.Operations.{root_code, Roots}

module _ (p : Profile) (seed secret : List ℕ) {checked : Result Unit Refusal} (e : outcome_code checked ≡ first_cause (profile_causes p)) where
  pub root-refused : {cause : Refusal} → checked ≡ Err cause → Roots p seed secret (Err cause)
  unfolding root_code
  root-refused q = record { code = ap outcome_code (sym q) ∙ e; root = rw (refused-number q e) }

  pub root-granted : {v : Unit} {n : List ℕ} → checked ≡ Ok v
      → n ≡ node (first_domain seed) (leaf_key (first_domain seed) (chains_of p.shape) secret) p.height 0 → Roots p seed secret (Ok n)
  unfolding root_code root_at
  root-granted q made = let none = granted-none (profile_causes p) q e in record { code = sym none; root = rw none made }
