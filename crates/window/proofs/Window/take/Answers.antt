-- A leaf above the highest moves the marks up; the mark of any other is not set, and is one of 32.
use Rattle.std.proofs.Common.{◌≡◌, ℕ, ◌+◌, ◌-◌, ◌*◌, ◌%◌, ◌^◌, ◌<◌, ap, ◌∙◌, one-mul, ne_eqb, lt-ltb, le-ltb, arith, rules}
use Rattle.std.proofs.Math.Dec.{lit<}
use Rattle.std.proofs.Math.Pow.{shl_exact}
use Rattle.window.specs.Window.{taken}
use Rattle.window.proofs.MarkLaws.{moved_shift, moved-fits, added-fits}
use Rattle.window.proofs.WindowLaws.{near-highest, mark-free}
use Rattle.window.proofs.Window.take.Goals as goal
use Rattle.window.proofs.Window.take.Goals.{Else-self-leaf}

-- a leaf that is not above the highest is less than 32 below it
low : (c : Else-self-leaf) → c.args.self.highest - c.args.leaf < 32
low c = omega (arith, near-highest c.args.self c.args.leaf c.if-self-eq0.false c.if-self-leaf.false c.requires)

-- its own mark
own : (j : ℕ) → j < 32 → 1 * 2 ^ j % 2 ^ 32 ≡ 2 ^ j
own j h = shl_exact 1 j 32 (lit< tt) (omega arith) ∙ one-mul (2 ^ j)

pub overflow_shl-result : goal.overflow_shl-result
overflow_shl-result c = low (goal.at.overflow_shl-result c).Else-self-leaf

pub overflow_add-result : goal.overflow_add-result
overflow_add-result c =
    let up = c.args.leaf - c.args.self.highest in
    let moved = c.unbounded_shl.ensures ∙ moved_shift c.args.self.marks up in
    record { fits = omega (arith, moved, moved-fits c.args.self.marks up (omega arith)) }

pub overflow_add-result-else-self-leaf : goal.overflow_add-result-else-self-leaf
overflow_add-result-else-self-leaf c =
    let j = c.args.self.highest - c.args.leaf in
    let few : j < 32 = low (goal.at.overflow_add-result-else-self-leaf c).Else-self-leaf in
    let word : c.args.self.marks < 2 ^ 32 = search rules in
    let free = mark-free c.args.self c.args.leaf c.if-self-eq0.false c.if-self-leaf.false c.requires in
    record { fits = omega (arith, own j few, added-fits c.args.self.marks j free few word) }

pub returns-then-self-leaf : goal.returns-then-self-leaf
unfolding taken
returns-then-self-leaf c =
    rw (ne_eqb c.args.self.marks 0 c.if-self-eq0.false, lt-ltb c.args.self.highest c.args.leaf c.if-self-leaf.true)
    (ap (λ marks. record { highest = c.args.leaf; marks = marks + 1 })
    (c.unbounded_shl.ensures ∙ moved_shift c.args.self.marks (c.args.leaf - c.args.self.highest)))

pub returns-else-self-leaf : goal.returns-else-self-leaf
unfolding taken
returns-else-self-leaf c =
    rw (ne_eqb c.args.self.marks 0 c.if-self-eq0.false, le-ltb c.args.self.highest c.args.leaf c.if-self-leaf.false)
    (ap (λ mark. record { highest = c.args.self.highest; marks = c.args.self.marks + mark })
    (own (c.args.self.highest - c.args.leaf) (low (goal.at.returns-else-self-leaf c).Else-self-leaf)))
