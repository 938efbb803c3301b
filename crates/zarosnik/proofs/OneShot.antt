-- Hash in one call: the digest that is handed out where the bytes were granted.
use mathlib.Core.Path.{◌≡◌, sym, ap, ◌∙◌}
use mathlib.Core.Bool.{cond}
use mathlib.Core.List.{List, [], ◌∷◌, append-nil}
use Prim.Native.Nat.{ℕ}
use lib.Dec.{eqb}
use lib.ListN.{replicate}
use Rattle.std.specs.Prelude.{Ok}
use Rattle.refusal.specs.Code.{outcome_code}
use Rattle.sha256.specs.Digest.{digest, word_bytes}
use Rattle.sha256.specs.Running.{started, add_code, Adds, finished, add_all, joined}
use Rattle.sha256.specs.declared.running.Added.{Added}
use Rattle.sha256.proofs.Joined.{running_hash}

pub granted-digest : (bytes : List ℕ) {added : Added} → Adds started bytes added → added.outcome ≡ Ok tt
    → word_bytes (finished added.hash).words ≡ cond (eqb (add_code started bytes) 0) (digest bytes) (replicate 32 0)
unfolding add_all joined
granted-digest bytes adds q =
    let granted : add_code started bytes ≡ 0 = sym adds.code ∙ ap outcome_code q in
    rw (granted, adds.state, running_hash (bytes ∷ []) (granted, tt), append-nil)
