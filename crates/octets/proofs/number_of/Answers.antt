-- A turn takes one byte more into the number, for which what stands so far leaves room.
use Rattle.std.proofs.Common.{◌≡◌, length, arith, refl, ap, ◌∙◌}
use Rattle.std.proofs.Math.Dec.{lit<}
use Rattle.std.proofs.Math.Seq.{take-length}
use Rattle.octets.specs.Bytes.{from_bytes}
use Rattle.octets.proofs.ByteLaws.{front-next, front_wider, front-small}
use Rattle.octets.proofs.number_of.Goals as goal

pub loop-byte-init : goal.loop-byte-init
unfolding from_bytes
loop-byte-init c = record { front = refl; fits = lit< tt }

pub overflow_mul-number : goal.overflow_mul-number
overflow_mul-number c = omega (arith, front-small c.loop-byte.invariant.fits (omega arith))

pub overflow_add-number : goal.overflow_add-number
overflow_add-number c = omega (arith, front-small c.loop-byte.invariant.fits (omega arith), c.from.ensures, c.type_inv.bytes c.loop-byte.byte-index)

pub loop-byte-preserved : goal.loop-byte-preserved
loop-byte-preserved c = record {
  front = rw (c.from.ensures, c.loop-byte.invariant.front, front-next c.args.bytes.now c.loop-byte.byte-index c.loop-byte-test.true);
  fits = front_wider c.loop-byte.byte-index c.loop-byte.invariant.fits (omega (arith, c.from.ensures, c.type_inv.bytes c.loop-byte.byte-index));
}

pub returns : goal.returns
returns c =
    let all : c.loop-byte.byte-index ≡ length c.args.bytes.now = omega arith in
    rw all at c.loop-byte.invariant.front ∙ ap from_bytes (take-length c.args.bytes.now)
