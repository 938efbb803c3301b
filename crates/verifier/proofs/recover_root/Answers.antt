-- The values and the siblings are parts of a signature of its full length.
use Rattle.std.proofs.Common.{◌≡◌, ◌∙◌, ℕ, ◌+◌, ◌-◌, ◌*◌, List, length, take, drop, arith, rules, length-drop}
use Rattle.std.proofs.Math.Seq.{take_all}
use Rattle.signature.specs.Signature.{signature_length, values_in, siblings_in}
use Rattle.verifier.proofs.recover_root.Goals as goal

-- how long the values are, and that the siblings are all that follows
all_values : (l : ℕ) → 20 + 16 * l - 20 ≡ 16 * l
all_values l = omega arith

all_behind : (n : ℕ) (s : List ℕ) → take (length s - n) (drop n s) ≡ drop n s
all_behind n s = take_all (length s - n) (drop n s) (omega (arith, length-drop n s))

pub slice_bounds-values-end : goal.slice_bounds-values-end
unfolding signature_length
slice_bounds-values-end c = search rules

pub recover_root-requires : goal.recover_root-requires
unfolding signature_length
recover_root-requires c = search rules

pub returns-clause-root : goal.returns-clause-root
unfolding values_in siblings_in
returns-clause-root c =
    let l = c.args.v.now.profile.shape.chains in
    c.recover_root.ensures.value
    ∙ rw (c.first_hasher.ensures, c.limited_chains.ensures, c.requires.same_shape, all_values l, all_behind (20 + 16 * l) c.args.signature.now)
