-- What the limits tell: a message within them is short.
use mathlib.Core.Path.{◌≡◌}
use mathlib.Core.Bool.{false}
use Prim.Native.Nat.{ℕ, ◌≤◌}
use Rattle.profile.proofs.Limits.{not_outside}
use Rattle.signature.specs.Signature.{outside_text}

pub short_text : (bytes : ℕ) → outside_text bytes ≡ false → bytes ≤ 200
unfolding outside_text
short_text bytes within = (not_outside 1 200 bytes within).1
