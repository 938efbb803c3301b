-- At each place the search skips the shares before the one that holds the number; the length found is that of the codeword, and what is left goes on to the
-- next place.
use Rattle.std.proofs.Common.{arith, ℕ, true, ltb, List, ◌≡◌, ◌+◌, ◌-◌, ◌*◌, ◌^◌, ◌<◌, ◌≤◌, ◌++◌, length, take, drop, length-set, refl, sym, ap, ◌∙◌}
use Rattle.std.proofs.Math.ListN.{take-append-drop}
use Rattle.std.proofs.Math.Nat.{lt_of_le_of_lt, lt_trans, sub-zero, zero-add}
use mathlib.Core.List.{append-nil}
use Rattle.lists.proofs.Fill.{behind-next}
use Rattle.numbers.specs.Number.{value, to_words}
use Rattle.profile.proofs.Limits.{sum-small}
use Rattle.profile.specs.Checks.{InLimits}
use Rattle.profile.specs.declared.Shape.{Shape}
use Rattle.counts.specs.Counts.{sum_to, share, D, count}
use Rattle.counts.specs.Table.{rows, table_length, Holds}
use Rattle.counts.proofs.CountLaws.{D-small}
use Rattle.counts.proofs.TableLaws.{cell_of, cell_within}
use Rattle.codewords.specs.Codeword.{place as search-from, codeword}
use Rattle.codewords.proofs.PlaceLaws.{one_more, one_less, behind-within, behind-few, from-few}
use Rattle.codewords.proofs.PlaceLaws.{less_left, left-within, share-at, share-within, not_above}
use Rattle.codewords.proofs.SearchLaws.{still, skipped, searched, found, number-next, row_next, holds, too_small, taken_off}
use Rattle.codewords.proofs.unranking.write_codeword.Goals as goal
use Rattle.codewords.proofs.unranking.write_codeword.Goals.{At-loop-share}

-- what is known of the shape
limits : (shape : Shape) → InLimits shape → (1 ≤ shape.width) × (shape.width ≤ 16) × (shape.chains ≤ 40) × (shape.sum ≤ 600)
limits shape h = (omega (arith, h.wide), h.narrow, h.few_chains, sum-small shape h)

-- the table as it is filled
table_is : (shape : Shape) (work : List ℕ) → Holds shape work
    → take (5 * ((shape.chains + 1) * (shape.sum + 1))) work ≡ rows shape.width shape.sum (shape.chains + 1)
unfolding Holds table_length
table_is shape work held = held

-- the places behind this one
abbrev places : At-loop-share → ℕ
places c = c.args.limited.shape.chains - 1 - c.loop-place.place

-- the number lies in one of the shares
number-below : (c : At-loop-share) → value c.loop-place.n < sum_to (share (D c.args.limited.shape.width (places c)) c.loop-place.left) c.args.limited.shape.width
unfolding D
number-below c = rw (one_more c.args.limited.shape.chains c.loop-place.place c.loop-place-test.true) at c.loop-place.invariant.below

-- the length looked at is one that can be placed
placing : (c : At-loop-share) → (c.loop-share.j < c.args.limited.shape.width) × (c.loop-share.j ≤ c.loop-place.left)
placing c =
    still (D c.args.limited.shape.width (places c)) c.loop-place.left c.args.limited.shape.width c.loop-share.j (value c.loop-place.n) (value c.loop-share.n)
    c.loop-share.invariant.split (number-below c)

few : (c : At-loop-share) → places c ≤ 40
few c = behind-few c.args.limited.shape.chains c.loop-place.place (limits c.args.limited.shape c.args.limited.limits).2

read-room : (c : At-loop-share) → 5 * (places c * (c.args.limited.shape.sum + 1) + c.loop-place.left) + 5 ≤ length c.args.table.now
read-room c =
    let shape = c.args.limited.shape in
    cell_within shape.width shape.sum (shape.chains + 1) c.args.table.now (table_is shape c.args.table.now c.requires.holds) (places c) c.loop-place.left
    (behind-within shape.chains c.loop-place.place) c.loop-place.invariant.most

-- the number left fits five words
small : (c : At-loop-share) → value c.loop-share.n < 2 ^ 160
small c =
    let shape = c.args.limited.shape in
    let l = c.loop-place in
    let h = limits shape c.args.limited.limits in
    lt_of_le_of_lt (not_above (sum_to (share (D shape.width (places c)) l.left) c.loop-share.j) (value c.loop-share.n) c.loop-share.invariant.split)
    (lt_trans l.invariant.below (D-small shape.width (shape.chains - l.place) l.left h.0 h.1 (from-few shape.chains l.place h.2)))

-- the number read is the share of the length
share-read : (c : At-loop-share) {s : List ℕ}
    → s ≡ take 5 (drop (5 * (places c * (c.args.limited.shape.sum + 1) + c.loop-place.left - c.loop-share.j)) c.args.table.now)
    → s ≡ to_words 5 (D c.args.limited.shape.width (places c) (c.loop-place.left - c.loop-share.j))
share-read c read =
    let shape = c.args.limited.shape in
    let table = c.args.table.now in
    let left = c.loop-place.left in
    let at = share-at (places c * (shape.sum + 1)) left c.loop-share.j (placing c).1 in
    read ∙ ap (λ k. take 5 (drop (5 * k) table)) at
    ∙ cell_of shape.width shape.sum (shape.chains + 1) (places c) (left - c.loop-share.j) table (table_is shape table c.requires.holds)
    (behind-within shape.chains c.loop-place.place) (left-within left c.loop-share.j c.loop-place.invariant.most)

-- the length found is that of the definition
found_here : (c : At-loop-share) (s : List ℕ) → s ≡ to_words 5 (D c.args.limited.shape.width (places c) (c.loop-place.left - c.loop-share.j))
    → ltb (value c.loop-share.n) (value s) ≡ true
    → search-from (share (D c.args.limited.shape.width (places c)) c.loop-place.left) c.args.limited.shape.width 0 (value c.loop-place.n)
    ≡ record { digit = c.loop-share.j; number = value c.loop-share.n }
found_here c s read test =
    let w = c.args.limited.shape.width in
    let left = c.loop-place.left in
    let h = limits c.args.limited.shape c.args.limited.limits in
    let inside = holds w (places c) left c.loop-share.j h.0 h.1 (few c) (placing c).1 c.loop-share.n s read test in
    sym c.loop-share.invariant.searched ∙ found (share (D w (places c)) left) w c.loop-share.j (value c.loop-share.n) (placing c).0 inside

pub loop-place-init : goal.loop-place-init
unfolding count
loop-place-init c = record {
  most = omega arith;
  same_length = refl;
  below = rw sub-zero c.requires.number_bound;
  written = rw sub-zero;
  behind = refl;
}

pub loop-share-init : goal.loop-share-init
unfolding sum_to
loop-share-init c = record { split = zero-add _; searched = rw sub-zero }

pub overflow_sub-above-in-loop-share : goal.overflow_sub-above-in-loop-share
overflow_sub-above-in-loop-share c = omega (arith, (placing (goal.at.overflow_sub-above-in-loop-share c).At-loop-share).1)

pub load-share-requires : goal.load-share-requires
load-share-requires c =
    let q = (goal.at.load-share-requires c).At-loop-share in
    share-within (places q * (c.args.limited.shape.sum + 1)) c.loop-place.left c.loop-share.j (read-room q)

pub overflow_add-j : goal.overflow_add-j
overflow_add-j c = omega (arith, (placing (goal.at.overflow_add-j c).At-loop-share).0, limits c.args.limited.shape c.args.limited.limits)

pub loop-share-smaller : goal.loop-share-smaller
loop-share-smaller c = omega (arith, (placing (goal.at.loop-share-smaller c).At-loop-share).0)

pub loop-share-preserved : goal.loop-share-preserved
loop-share-preserved c =
    let q = (goal.at.loop-share-preserved c).At-loop-share in
    let read = share-read q c.load-share.ensures in
    let w = c.args.limited.shape.width in
    let left = c.loop-place.left in
    let j = c.loop-share.j in
    let n = c.loop-share.n in
    let h = limits c.args.limited.shape c.args.limited.limits in
    let f = share (D w (places q)) left in
    let more = too_small w (places q) left j h.0 h.1 (few q) (placing q).1 n _ read (sym c.if-less.ensures) in
    let off = taken_off w (places q) left j h.0 h.1 (few q) (placing q).1 n _ read _ (small q) c.subtract-rest.ensures in
    record {
      split = rw off (skipped f w j (value n) (placing q).0 more ∙ c.loop-share.invariant.split);
      searched = rw off (sym (searched f w j (value n) (placing q).0 more) ∙ c.loop-share.invariant.searched);
    }

pub overflow_cast-row : goal.overflow_cast-row
overflow_cast-row c = omega (arith, (placing (goal.at.overflow_cast-row c).At-loop-share).0, limits c.args.limited.shape c.args.limited.limits)

pub overflow_sub-left : goal.overflow_sub-left
overflow_sub-left c = (placing (goal.at.overflow_sub-left c).At-loop-share).1

pub loop-place-preserved : goal.loop-place-preserved
loop-place-preserved c =
    let q = (goal.at.loop-place-preserved c).At-loop-share in
    let shape = c.args.limited.shape in
    let l = c.loop-place in
    let j = c.loop-share.j in
    let m = value c.loop-share.n in
    let here = one_more shape.chains l.place c.loop-place-test.true in
    let behind = one_less shape.chains l.place in
    let e = found_here q _ (share-read q c.load-share.ensures) (sym c.if-less.ensures) in
    let inside : l.place < length l.row = omega (arith, c.requires.chains_in_bounds, l.invariant.same_length) in
    record {
      most = less_left l.left j l.invariant.most;
      same_length = simp length-set l.invariant.same_length;
      below = rw behind (number-next shape.width (places q) l.left (value l.n) j m e (rw here at l.invariant.below));
      written = rw behind (row_next shape.width (places q) l.left (value l.n) j m e l.row _ l.place inside (rw here at l.invariant.written));
      behind = behind-next l.row c.args.row.now l.place j l.invariant.behind;
    }

pub returns : goal.returns
unfolding codeword
returns c =
    let l = c.loop-place in
    let a = c.args in
    let all : l.place ≡ a.limited.shape.chains = omega arith in
    let none : a.limited.shape.chains - l.place ≡ 0 = omega arith in
    let whole = sym (append-nil (take l.place l.row)) ∙ rw none at l.invariant.written in
    sym (take-append-drop l.place l.row) ∙ ap (λ front. front ++ drop l.place l.row) whole
    ∙ ap (λ rest. codeword a.limited.shape.width a.limited.shape.chains a.limited.shape.sum (value a.number) ++ rest) (l.invariant.behind ∙ ap (λ k. drop k a.row.now) all)
