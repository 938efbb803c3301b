-- Frame k is the next: its payload has room in the slice and is copied there.
use Rattle.std.proofs.Common.{◌≡◌, ◌+◌, ◌*◌, ◌-◌, ◌≤◌, [], ◌∷◌, length, drop, take, ◌∙◌, arith}
use lib.ListN.{drop_of_length-le, length-drop}
use lib.Seq.{length-take-le}
use Rattle.frames.specs.Frames.{frames, frame_at}
use Rattle.frames.proofs.FrameList.{frames-total}
use Rattle.frames.proofs.FrameNumbers.{frames-few, frames-cut}
use Rattle.sheet_reader.specs.inner.Payload.{bytes_in}
use Rattle.sheet_reader.proofs.PayloadLaws.{Copying, part-filled, copying_next, copying_all}
use Rattle.sheet_reader.proofs.payload.copy_signature.Goals as goal
use Rattle.sheet_reader.proofs.payload.copy_signature.Goals.{After-frame_size-size}

-- frame k is the next of those that are still to come
next_frame : (c : After-frame_size-size)
    → Copying c.args.sheet.now (frames c.args.limited.profile) c.args.signature.now c.loop-k.signature c.loop-k.at c.loop-k.from
    (frame_at c.args.limited.profile c.loop-k.k ∷ drop (c.loop-k.k + 1) (frames c.args.limited.profile))
next_frame c = rw (frames-cut c.args.limited.profile c.loop-k.k (omega (arith, c.frame_count-k-end.ensures))) at c.loop-k.invariant.copying

-- its bytes are few, and it begins near the front
small : (c : After-frame_size-size) → (c.frame_size-size.result.fixed ≤ 7) × (c.frame_size-size.result.high ≤ 200) × (c.loop-k.at ≤ 415 * 54)
small c =
    let few : c.loop-k.k ≤ 54 = omega (arith, frames-few c.args.limited.profile c.args.limited.sizes, c.frame_count-k-end.ensures) in
    (c.frame_size-size.ensures.few, c.frame_size-size.ensures.short, omega (arith, few, c.loop-k.invariant.near))

room : (c : After-frame_size-size) → c.loop-k.from + c.frame_size-size.result.high ≤ length c.loop-k.signature
room c = omega (arith, (next_frame c).room, (next_frame c).long, frames-total c.args.limited.profile, c.requires, c.frame_size-size.ensures.high)

part_room : (c : After-frame_size-size)
    → c.loop-k.from + c.frame_size-size.result.high - c.loop-k.from ≤ length (drop c.loop-k.from c.loop-k.signature)
part_room c = omega (arith, room c, length-drop c.loop-k.from c.loop-k.signature)

pub overflow_add-to : goal.overflow_add-to
overflow_add-to c = let size = (goal.at.overflow_add-to c).After-frame_size-size in omega (arith, small size, room size)

pub overflow_add-at : goal.overflow_add-at
overflow_add-at c = omega (arith, small (goal.at.overflow_add-at c).After-frame_size-size)

pub slice_bounds-copy-end : goal.slice_bounds-copy-end
slice_bounds-copy-end c = let size = (goal.at.slice_bounds-copy-end c).After-frame_size-size in omega (arith, room size)

pub copy-requires : goal.copy-requires
copy-requires c =
    let size = (goal.at.copy-requires c).After-frame_size-size in
    let l = c.loop-k in
    omega (arith, small size, length-take-le (l.from + c.frame_size-size.result.high - l.from) (drop l.from l.signature) (part_room size))

pub overflow_add-at-in-loop-k-3 : goal.overflow_add-at-in-loop-k-3
overflow_add-at-in-loop-k-3 c = omega (arith, small (goal.at.overflow_add-at-in-loop-k-3 c).After-frame_size-size)

pub loop-k-preserved : goal.loop-k-preserved
loop-k-preserved c =
    let a = c.args in
    let l = c.loop-k in
    let f = c.frame_size-size in
    let n = f.result.high in
    let size = (goal.at.loop-k-preserved c).After-frame_size-size in
    let count : l.from + n - l.from ≡ n = omega arith in
    let long : length (take (l.from + n - l.from) (drop l.from l.signature)) ≡ n =
    length-take-le (l.from + n - l.from) (drop l.from l.signature) (part_room size) ∙ count in
    let filled = part-filled l.from (l.from + n - l.from) n l.signature (bytes_in a.sheet.now (l.at + 2 * f.result.fixed) n) count in
    let next : l.at + (2 * (f.result.fixed + n) + 1) ≡ l.at + 2 * (f.result.fixed + n) + 1 = omega arith in
    record {
      near = omega (arith, f.ensures.few, f.ensures.short, l.invariant.near);
      copying = rw (next, rw long at c.copy.ensures) (copying_next a.sheet.now (frames a.limited.profile) a.signature.now (frame_at a.limited.profile l.k) (drop (l.k + 1) (frames a.limited.profile)) l.signature l.at l.from
          f.result.fixed n f.ensures.fixed f.ensures.high (next_frame size) (room size) filled);
    }

pub returns : goal.returns
returns c =
    let a = c.args in
    let l = c.loop-k in
    let none : drop l.k (frames a.limited.profile) ≡ [] = drop_of_length-le (frames a.limited.profile) {i = l.k} (omega (arith, c.frame_count-k-end.ensures)) in
    rw (← frames-total a.limited.profile) (copying_all a.sheet.now (frames a.limited.profile) a.signature.now l.signature l.at l.from (rw none at l.invariant.copying))
