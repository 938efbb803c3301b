-- A turn goes one place down where the two words are the same; where they differ, they decide.
use Rattle.std.proofs.Common.{◌≡◌, ℕ, suc, ◌-◌, ◌^◌, ◌<◌, List, length, get_or, ◌∙◌, refl, arith, w32, rules}
use Rattle.std.proofs.Math.Option.{Option, none, some}
use Rattle.numbers.specs.Order.{order_code, order_at, highest_below, highest_differing, pairs_looked, Compares}
use Rattle.std.specs.declared.cmp.Ordering.{Ordering}
use Rattle.lists.proofs.Lists.{Below, below-fits}
use Rattle.numbers.proofs.Comparison.{highest-none, highest-lower, highest-here, highest_decides, order_of_cmp}
use Rattle.numbers.proofs.number.compare.Goals as goal

-- in a turn, no words above the pair that is looked at differ
above : (a b : List ℕ) (i : ℕ) → 0 < i → highest_differing a b ≡ highest_below i a b → highest_differing a b ≡ highest_below (suc (i - 1)) a b
above a b i turn e =
    let here : suc (i - 1) ≡ i = omega arith in
    rw here e

-- the answer, where the search of the highest place has come to an end
found : (a b : List ℕ) → length a ≡ 5 → length b ≡ 5 → Below (2 ^ 32) a → Below (2 ^ 32) b → (place : Option ℕ) {order : Ordering} {looked : ℕ}
    → highest_differing a b ≡ place → order_code order ≡ order_at place a b → looked ≡ pairs_looked place
    → Compares a b (record { order = order; looked = looked })
found a b long-a long-b words-a words-b place at ordered pairs = record {
  order = ordered ∙ rw (← at) (highest_decides a b long-a long-b words-a words-b);
  looked = rw at pairs;
}

pub loop-i-preserved : goal.loop-i-preserved
loop-i-preserved c = record {
  same =
      above c.args.a c.args.b c.loop-i.i (omega arith) c.loop-i.invariant.same
      ∙ highest-lower c.args.a c.args.b (c.loop-i.i - 1) c.if-a-i.false;
  counted = omega arith;
}

pub returns : goal.returns
returns c =
    let end : c.loop-i.i ≡ 0 = omega arith in
    found c.args.a c.args.b (search rules) (search rules) (below-fits w32 c.args.a (λ j. search rules)) (below-fits w32 c.args.b (λ j. search rules))
    none (rw end at c.loop-i.invariant.same ∙ highest-none _ _) refl (omega arith)

pub returns-then-a-i : goal.returns-then-a-i
returns-then-a-i c =
    found c.args.a c.args.b (search rules) (search rules) (below-fits w32 c.args.a (λ j. search rules)) (below-fits w32 c.args.b (λ j. search rules))
    (some (c.loop-i.i - 1))
    (above c.args.a c.args.b c.loop-i.i (omega arith) c.loop-i.invariant.same
    ∙ highest-here c.args.a c.args.b (c.loop-i.i - 1) c.if-a-i.true)
    (rw c.cmp.ensures (order_of_cmp (get_or c.args.a (c.loop-i.i - 1) 0) (get_or c.args.b (c.loop-i.i - 1) 0)))
    (omega arith)
