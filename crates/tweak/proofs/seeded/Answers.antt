-- The seed is written into 64 zero bytes, which are compressed.
use Rattle.std.proofs.Common.{◌∙◌}
use Rattle.tweak.specs.Tweak.{seed_block}
use Rattle.tweak.proofs.seeded.Goals as goal

pub invariant_of-result : goal.invariant_of-result
unfolding seed_block
invariant_of-result c = record { after_seed = c.compress.ensures ∙ rw (c.initial.ensures, c.copy_from_slice.ensures.after) }
