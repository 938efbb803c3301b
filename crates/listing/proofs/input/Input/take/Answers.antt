-- There is room for the next byte.
use Rattle.std.proofs.Common.{◌≡◌, ◌<◌, length, add-one, arith, rules, ◌∙◌, ap, eqb}
use Rattle.std.proofs.Math.Seq.{take-suc-set}
use Rattle.listing.proofs.Reading.{room, one_item, not_ended}
use Rattle.listing.proofs.input.Input.take.Goals as goal

pub bounds-self-self : goal.bounds-self-self
bounds-self-self c = room c.args.self.now (search rules) c.requires.0

pub invariant_of-self-in-Some : goal.invariant_of-self-in-Some
invariant_of-self-in-Some c =
    let fits : c.args.self.now.long < 11 = room c.args.self.now (search rules) c.requires.0 in
    record { fits = omega arith }

pub returns-in-Some : goal.returns-in-Some
returns-in-Some c =
    let self = c.args.self.now in
    let all : length self.bytes ≡ 11 = search rules in
    let fits : self.long < 11 = room self all c.requires.0 in
    let one = one_item c.args.found.now c.in-Some.ensures.value c.requires.1 in (
      rw (add-one, take-suc-set self.bytes self.long c.in-Some.byte.now (omega arith), one),
      not_ended self c.requires.0 ∙ ap (λ l. eqb (length l) 0) one,
    )
