-- The numbers read are those of the window, and the sum and the difference are exact.
use Rattle.std.proofs.Common.{arith, ◌≡◌, ◌+◌, ◌-◌, ◌*◌, take, drop, ap, ◌∙◌}
use Rattle.numbers.specs.Number.{value}
use Rattle.numbers.specs.inner.Limbs.{number}
use Rattle.counts.specs.Counts.{D}
use Rattle.counts.proofs.NextCell.{above, grown-fits, grown, out_within, shrunk}
use Rattle.counts.proofs.table.cell.Goals as goal
use Rattle.counts.proofs.table.cell.Goals.{Start, After-from-incoming, After-from-outgoing}

-- the number that comes into the window
incoming : (c : After-from-incoming) → number c.from-incoming.result ≡ D c.args.width (c.args.i - 1) c.args.t
incoming c =
    let a = c.args in
    let limits = c.requires.le_width in
    c.from-incoming.ensures ∙ ap value c.load.ensures
    ∙ above a.width a.i a.t limits.0 limits.1 limits.2 limits.3 a.sum a.t a.table.now c.requires.table_value limits.4

-- the number that falls out of the window
outgoing : (c : After-from-outgoing) → number c.from-outgoing.result ≡ D c.args.width (c.args.i - 1) (c.args.t - c.args.width)
outgoing c =
    let a = c.args in
    let limits = c.requires.le_width in
    let place : (a.i - 1) * (a.sum + 1) + a.t - a.width ≡ (a.i - 1) * (a.sum + 1) + (a.t - a.width) = omega arith in
    c.from-outgoing.ensures ∙ ap value (c.load-2.ensures ∙ ap (λ k. take 5 (drop (5 * k) a.table.now)) place)
    ∙ above a.width a.i a.t limits.0 limits.1 limits.2 limits.3 a.sum (a.t - a.width) a.table.now c.requires.table_value (omega arith)

pub add-grown-requires : goal.add-grown-requires
add-grown-requires c =
    let a = c.args in
    let limits = c.requires.le_width in
    grown-fits a.width a.i a.t limits.0 limits.1 limits.2 limits.3 _ _ c.requires.previous_value
    (incoming (goal.at.add-grown-requires c).After-from-incoming)

pub returns-then-t-width : goal.returns-then-t-width
returns-then-t-width c =
    let a = c.args in
    let limits = c.requires.le_width in
    grown a.width a.i a.t limits.0 limits.1 limits.2 limits.3 _ _ c.requires.previous_value
    (incoming (goal.at.returns-then-t-width c).After-from-incoming) _ c.if-t-width.true c.add-grown.ensures

pub subtract-requires : goal.subtract-requires
subtract-requires c =
    let a = c.args in
    let limits = c.requires.le_width in
    out_within a.width a.i a.t limits.0 limits.1 limits.2 limits.3 _ _ c.requires.previous_value
    (incoming (goal.at.subtract-requires c).After-from-incoming) _ _ c.if-t-width.false
    (outgoing (goal.at.subtract-requires c).After-from-outgoing) c.add-grown.ensures

pub returns : goal.returns
returns c =
    let a = c.args in
    let limits = c.requires.le_width in
    shrunk a.width a.i a.t limits.0 limits.1 limits.2 limits.3 _ _ c.requires.previous_value
    (incoming (goal.at.returns c).After-from-incoming) _ _ c.if-t-width.false
    (outgoing (goal.at.returns c).After-from-outgoing) c.add-grown.ensures _ c.subtract.ensures
