-- The library's bytes of the number of bits are the definition's.
use Rattle.std.proofs.Common.{◌≡◌, [], ◌*◌, length, drop, ◌∙◌, append-nil, arith, rules, length-drop}
use Rattle.std.proofs.Math.ListN.{drop_of_length-le}
use Rattle.std.proofs.Math.Nat.{div-one}
use Rattle.octets.specs.Bytes.{to_bytes}
use Rattle.sha256.proofs.running.with_length.Goals as goal

pub returns : goal.returns
unfolding to_bytes
returns c =
    let block = c.args.block in
    let room : length block ≡ 64 = search rules in
    let end : drop 8 (drop 56 block) ≡ [] = drop_of_length-le (drop 56 block) {i = 8} (omega (arith, length-drop 56 block)) in
    let bits : c.copy_from_slice.new.self ≡ to_bytes 8 (8 * c.args.total) = c.copy_from_slice.ensures.after ∙ c.to_be_bytes.ensures ∙ rw (c.from.ensures, div-one) in
    rw (end, append-nil, bits)
