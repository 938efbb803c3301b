-- `head_byte` meets its contract, frame by frame.
use Rattle.std.proofs.Common.{length, get_or, sym, ap, ◌∙◌, arith}
use Rattle.lists.proofs.Lists.{get_or_only}
use Rattle.frames.proofs.FrameNumbers.{length-frames, value-at, sibling-at, profile-at, text_at, kind-at, profile-long, edition_long, profile_byte}
use Rattle.frames.proofs.limited.LimitedProfile.head_byte.Goals as goal

pub bounds-profile_head-i : goal.bounds-profile_head-i
bounds-profile_head-i c =
    let long = ap (λ f. length f.head) (profile-at c.args.self.profile c.args.k c.in-1.is) ∙ profile-long c.args.self.profile in
    omega (arith, edition_long c.args.self.profile.edition, c.requires.1)

pub returns-in-1 : goal.returns-in-1
returns-in-1 c =
    let same = profile-at c.args.self.profile c.args.k c.in-1.is in
    profile_byte c.args.self.profile c.args.i (rw c.byte.ensures at c.profile_head.ensures) (omega (arith, ap (λ f. length f.head) same, c.requires.1))
    ∙ ap (λ f. get_or f.head c.args.i 0) (sym same)

pub returns-in-2 : goal.returns-in-2
returns-in-2 c = c.byte-in-2.ensures ∙ sym (kind-at c.args.self.profile c.args.k c.args.i (omega arith) (omega arith) c.requires.1 ∙ c.in-2.is)

pub returns-in-3 : goal.returns-in-3
returns-in-3 c = c.byte-in-3.ensures ∙ sym (kind-at c.args.self.profile c.args.k c.args.i (omega arith) (omega arith) c.requires.1 ∙ c.in-3.is)

pub numbered_head-requires : goal.numbered_head-requires
numbered_head-requires c = omega (arith, c.args.self.sizes.0.few_chains)

pub bounds-numbered_head-i : goal.bounds-numbered_head-i
bounds-numbered_head-i c =
    omega (arith, ap (λ f. length f.head) (value-at c.args.self.profile c.args.k (omega arith) (omega arith)), c.requires.1)

pub returns-in_default : goal.returns-in_default
returns-in_default c =
    ap (λ l. get_or l c.args.i 0) c.numbered_head.ensures
    ∙ sym (ap (λ f. get_or f.head c.args.i 0) (value-at c.args.self.profile c.args.k (omega arith) (omega arith)))

pub numbered_head-requires-in_default-2 : goal.numbered_head-requires-in_default-2
numbered_head-requires-in_default-2 c = omega (arith, c.args.self.sizes.1, c.frame_count.ensures, length-frames c.args.self.profile)

pub bounds-numbered_head-i-in_default-2 : goal.bounds-numbered_head-i-in_default-2
bounds-numbered_head-i-in_default-2 c =
    let count = c.frame_count.ensures ∙ length-frames c.args.self.profile in
    omega (arith, ap (λ f. length f.head) (sibling-at c.args.self.profile c.args.k (omega arith) (omega arith)), c.requires.1)

pub returns-in_default-2 : goal.returns-in_default-2
returns-in_default-2 c =
    let count = c.frame_count.ensures ∙ length-frames c.args.self.profile in
    ap (λ l. get_or l c.args.i 0) c.numbered_head-in_default-2.ensures
    ∙ sym (ap (λ f. get_or f.head c.args.i 0) (sibling-at c.args.self.profile c.args.k (omega arith) (omega arith)))

pub returns-in_default-3 : goal.returns-in_default-3
returns-in_default-3 c =
    let text = text_at c.args.self.profile c.args.k (omega (arith, c.frame_count.ensures)) in
    let long = ap (λ f. length f.head) text in
    c.byte-in_default-3.ensures ∙ sym (ap (λ f. get_or f.head c.args.i 0) text ∙ get_or_only 6 c.args.i (omega (arith, long, c.requires.1)))
