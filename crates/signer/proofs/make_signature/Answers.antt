-- Each part of the signature is written behind those before it.
use Rattle.std.proofs.Common.{◌≡◌, ◌*◌, ◌≤◌, length, take, replicate, arith, rules}
use Rattle.chains.specs.Leaves.{revealed}
use Rattle.chains.proofs.LeafRecover.{length-revealed}
use Rattle.octets.proofs.ByteLaws.{length-to_bytes}
use Rattle.profile.specs.declared.Profile.{Profile}
use Rattle.signature.specs.Signature.{signature_length}
use Rattle.signature.proofs.Written.{signature-made}
use Rattle.signer.proofs.make_signature.Goals as goal

pub returns : goal.returns
unfolding signature_length
returns c =
    let a = c.args in
    let d = a.hasher.domain in
    let chains = a.limited.chains in
    let h = a.key.now.profile.height in
    let p : Profile = record { shape = record { chains = chains.count; width = chains.width; sum = 0 }; height = h; edition = 1 } in
    let four = length-to_bytes 4 a.leaf in
    let long : length a.r ≡ 16 = search rules in
    let room : length a.siblings ≡ 160 = search rules in
    let enough : 16 * h ≤ length a.siblings = omega (arith, c.requires) in
    let part : length (take (16 * h) a.siblings) ≡ 16 * h = search rules in
    signature-made p a.leaf a.r (revealed d chains a.key.now.secret a.leaf a.row) a.siblings (replicate 820 0)
    long (length-revealed d chains a.key.now.secret a.leaf a.row) enough
    (rw (c.word_bytes.ensures, four) at c.copy.ensures) (rw long at c.copy-2.ensures) c.write_values.ensures
    (rw part at c.copy-3.ensures)
