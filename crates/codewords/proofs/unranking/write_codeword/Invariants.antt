-- Over the places: the lengths written and the codeword of what is left make the whole, and what is behind them is as it was. Over the lengths of a place:
-- the shares skipped and the number left make the number, and the search for the length goes on from there.
use Rattle.std.proofs.Common.{◌-◌, ◌+◌, ◌≡◌, ◌<◌, ◌≤◌, ◌++◌, length, take, drop}
use Rattle.numbers.specs.Number.{value}
use Rattle.counts.specs.Counts.{sum_to, share, D}
use Rattle.codewords.specs.Codeword.{place as search-from, codeword}
use Rattle.codewords.proofs.unranking.write_codeword.Given as goal

abbrev pub invariant-loop-share : goal.invariant-loop-share
invariant-loop-share l =
    let shares = share (D l.fn.limited.shape.width (l.chains - 1 - l.place)) l.left in
    record {
      split : sum_to shares l.j + value l.n ≡ value l.initial.n;
      searched : search-from shares (l.fn.limited.shape.width - l.j) l.j (value l.n) ≡ search-from shares l.fn.limited.shape.width 0 (value l.initial.n);
    }

abbrev pub decreases-loop-share : goal.decreases-loop-share
decreases-loop-share l = l.fn.limited.shape.width - l.j

abbrev pub invariant-loop-place : goal.invariant-loop-place
invariant-loop-place l = record {
  most : l.left ≤ l.sum;
  same_length : length l.row ≡ length l.fn.row;
  below : value l.n < D l.fn.limited.shape.width (l.chains - l.place) l.left;
  written : take l.place l.row ++ codeword l.fn.limited.shape.width (l.chains - l.place) l.left (value l.n) ≡ codeword l.fn.limited.shape.width l.chains l.sum (value l.fn.number);
  behind : drop l.place l.row ≡ drop l.place l.fn.row;
}
