-- The last block is compressed behind the seed's, and the front is read.
use Rattle.std.proofs.Common.{◌≡◌, length, ap, ◌∙◌, rules}
use Rattle.sha256_block.specs.Compression.{compress}
use Rattle.tweak.proofs.TweakLaws.{block_compressed}
use Rattle.tweak.proofs.tweaked_hash.Goals as goal

pub returns : goal.returns
returns c =
    let a = c.args in
    let long : (length a.hasher.domain.seed ≡ 16) × (length a.address ≡ 22) × (length a.value ≡ 16) = search rules in
    block_compressed a.hasher.domain a.address a.value long.0 long.1 long.2 a.hasher.after_seed
    (c.compress.ensures ∙ ap (compress a.hasher.words) c.last_block.ensures) c.front.ensures
