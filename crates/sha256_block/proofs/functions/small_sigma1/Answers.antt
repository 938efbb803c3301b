-- `small_sigma1` meets its contract: the library's rotations are those of the standard.
use Rattle.sha256_block.specs.Functions.{σ₁, rotr, shr, shl}
use Rattle.sha256_block.proofs.functions.small_sigma1.Goals as goal

pub returns : goal.returns
unfolding σ₁ rotr shr shl
returns c = rw (c.rotate_right.ensures, c.rotate_right-2.ensures)
