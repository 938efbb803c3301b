-- The address and the value are put in front of the padding.
use Rattle.std.proofs.Common.{◌≡◌, length, rules, ◌∙◌}
use Rattle.tweak.proofs.TweakLaws.{block_made}
use Rattle.tweak.proofs.last_block.Goals as goal

pub returns : goal.returns
returns c =
    let a = c.args in
    let long : (length a.address ≡ 22) × (length a.value ≡ 16) = search rules in
    block_made a.address a.value long.0 long.1 (c.copy.ensures ∙ rw (c.copy_from_slice.ensures.after, c.to_be_bytes.ensures)) c.copy-2.ensures
