-- Each byte is the one of the definition; a quotient by 256^0 is the number itself.
use Rattle.std.proofs.Common.{◌≡◌, ◌/◌, ◌%◌, ◌<◌, rules}
use Rattle.std.proofs.Math.Nat.{div-one, mod-eq_of_lt}
use Rattle.octets.specs.Bytes.{to_bytes}
use Rattle.tweak.specs.Tweak.{address}
use Rattle.tweak.proofs.address.Goals as goal

pub returns : goal.returns
unfolding address to_bytes
returns c =
    let small : (c.args.d.layer < 256) × (c.args.kind < 256) = search rules in
    let layer : c.args.d.layer / 1 % 256 ≡ c.args.d.layer = rw div-one (mod-eq_of_lt small.0) in
    let kind : c.args.kind / 1 % 256 ≡ c.args.kind = rw div-one (mod-eq_of_lt small.1) in
    rw (
      c.copy_from_slice.ensures.after,
      c.to_be_bytes.ensures,
      c.copy_from_slice-2.ensures.after,
      c.to_be_bytes-2.ensures,
      c.copy_from_slice-3.ensures.after,
      c.to_be_bytes-3.ensures,
      c.copy_from_slice-4.ensures.after,
      c.to_be_bytes-4.ensures,
      layer,
      kind,
      div-one c.args.d.tree,
      div-one c.args.first,
      div-one c.args.second,
      div-one c.args.third,
    )
