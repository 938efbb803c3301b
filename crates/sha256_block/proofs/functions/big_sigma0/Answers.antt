-- `big_sigma0` meets its contract: the library's rotations are those of the standard.
use Rattle.sha256_block.specs.Functions.{Σ₀, rotr, shr, shl}
use Rattle.sha256_block.proofs.functions.big_sigma0.Goals as goal

pub returns : goal.returns
unfolding Σ₀ rotr shr shl
returns c = rw (c.rotate_right.ensures, c.rotate_right-2.ensures, c.rotate_right-3.ensures)
