-- Document 02, point 4, where some of one key's orders are lost on the way.
use mathlib.Core.List.{List, ◌++◌, map, Permᴰ}
use Rattle.std.specs.Prelude.{ℕ}
use Rattle.profile.specs.declared.Profile.{Profile}
use Rattle.tweak.specs.Tweak.{first_domain}
use Rattle.tree.specs.Tree.{root_of}
use Rattle.signing_key.specs.Key.{fresh_key}
use Rattle.verifier.specs.Verifying.{fresh_verifier}
use Rattle.claims.specs.Arrivals.{InTime}
use Rattle.claims.specs.Orders.{KeyCall, Issued, issued, leaf_of, Check, AllAccepted}

-- "One fresh key's issued orders … are all accepted in every arrival order in which each comes before any leaf 32 or more above it", and no
-- less where some of them never come: of all that was issued, some arrive, in such an order, and the others are lost
abbrev pub ArrivedAccepted : Type 0
ArrivedAccepted =
    (p : Profile) (seed secret : List ℕ) (calls : List KeyCall) (arrivals lost : List Issued)
    → Permᴰ (arrivals ++ lost) (issued (fresh_key p seed secret) calls)
    → InTime (map leaf_of arrivals)
    → (checks : List Check) → AllAccepted p.shape (fresh_verifier p seed (root_of (first_domain seed) p secret)) arrivals checks
