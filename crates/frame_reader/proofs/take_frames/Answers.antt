-- The reader stands in front of frame 0 at first, and each frame is due where the reader stands.
use Rattle.std.proofs.Common.{◌≡◌, ap, ◌∙◌, refl, add-one, arith}
use Rattle.std.proofs.lemmas.Result.{err_from_is_err_and}
use Rattle.frame_reader.specs.Places.{place_at}
use Rattle.frame_reader.proofs.PlaceLaws.{due_at, taken, missed}
use Rattle.frame_reader.proofs.take_frames.Goals as goal

pub loop-k-init : goal.loop-k-init
unfolding place_at
loop-k-init c = record { same_sheet = refl; stands = refl }

pub next-requires : goal.next-requires
next-requires c =
    let i = c.loop-k.invariant in
    rw i.same_sheet (due_at c.args.limited.profile c.args.sheet.now c.loop-k.k i.stands)

pub returns-in_err-reader : goal.returns-in_err-reader
returns-in_err-reader c =
    let i = c.loop-k.invariant in
    let told = err_from_is_err_and c.from_residual.result c.from_residual.ensures.1 in
    rw (told.1, told.2)
    (missed c.args.limited.profile c.args.sheet.now c.loop-k.k i.stands (rw i.same_sheet at c.in_err-reader.ensures) (omega arith))

pub loop-k-preserved : goal.loop-k-preserved
loop-k-preserved c =
    let i = c.loop-k.invariant in
    let next = c.in_ok-reader.ensures in
    record {
      same_sheet = ap (λ s. s.now) next.0 ∙ i.same_sheet;
      stands = rw (add-one c.loop-k.k) (taken c.args.limited.profile c.args.sheet.now c.loop-k.k i.stands (rw i.same_sheet at next.1));
    }

-- once the loop ends, k is the number of frames
pub next-requires-2 : goal.next-requires-2
next-requires-2 c =
    let i = c.loop-k.invariant in
    let all : c.loop-k.k ≡ c.args.count = omega arith in
    rw i.same_sheet (due_at c.args.limited.profile c.args.sheet.now c.args.count (rw all at i.stands))

pub returns-in_err-end : goal.returns-in_err-end
returns-in_err-end c =
    let i = c.loop-k.invariant in
    let told = err_from_is_err_and c.from_residual-in_err-end.result c.from_residual-in_err-end.ensures.1 in
    let all : c.loop-k.k ≡ c.args.count = omega arith in
    rw (told.1, told.2)
    (missed c.args.limited.profile c.args.sheet.now c.args.count (rw all at i.stands) (rw i.same_sheet at c.in_err-end.ensures) (omega arith))

pub returns : goal.returns
returns c =
    let i = c.loop-k.invariant in
    let all : c.loop-k.k ≡ c.args.count = omega arith in
    let stands = rw all at i.stands in
    (stands, taken c.args.limited.profile c.args.sheet.now c.args.count stands (rw i.same_sheet at c.in_ok-end.ensures.1))
