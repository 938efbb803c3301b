-- A granted add, on a state that has taken the seed block.
use Rattle.std.proofs.Common.{◌≡◌, length, arith, rules}
use Rattle.sha256.proofs.Joined.{more-taken}
use Rattle.tweak.specs.Tweak.{seed_block}
use Rattle.tweak.proofs.TweakLaws.{length_seed_block, seed_taken}
use Rattle.tweak.proofs.begin.Goals as goal

pub returns : goal.returns
returns c =
    let seed = c.args.hasher.domain.seed in
    let long : (length seed ≡ 16) × (length c.args.address ≡ 22) = search rules in
    more-taken (seed_block seed) c.args.address (omega (arith, length_seed_block seed long.0, long.1)) (seed_taken seed long.0 c.args.hasher.after_seed)
    c.add.ensures.state
