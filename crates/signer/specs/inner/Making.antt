-- Sign behind its causes: what is known there.
use Rattle.std.specs.Prelude.{◌≡◌, false, List, ℕ, ◌^◌, ◌≤◌, ◌<◌, length}
use Rattle.numbers.specs.Number.{value}
use Rattle.profile.specs.Checks.{InLimits}
use Rattle.signing_key.specs.declared.SigningKey.{SigningKey}
use Rattle.counts.specs.Counts.{count}
use Rattle.counts.specs.Table.{Holds}
use Rattle.message.specs.Message.{count_too_small}
use Rattle.signer.specs.Signing.{leaf_to_sign}

-- everything is within its limits, and a leaf of the tree is marked; the work slice holds the table, and its count is given and not too
-- small
pub record ReadyToSign (key : SigningKey) (counted message work : List ℕ) : Type 0 where
  pub limits : InLimits key.profile.shape
  pub low : key.profile.height ≤ 10
  pub short : length message ≤ 200
  pub some : 1 ≤ key.counter.next
  pub in_tree : leaf_to_sign key < 2 ^ key.profile.height
  pub held : Holds key.profile.shape work
  pub number : value counted ≡ count key.profile.shape
  pub large : count_too_small (count key.profile.shape) ≡ false
