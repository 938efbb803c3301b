-- Each turn compresses one block more, and what is left in the end is short of a block.
use Rattle.std.proofs.Common.{◌≡◌, length, ◌∙◌, sym, ap, arith}
use Rattle.sha256.specs.Digest.{compress_all}
use Rattle.sha256.proofs.Blocks.{all_short, all_append}
use Rattle.sha256.proofs.running.absorb.Goals as goal

pub loop-block-preserved : goal.loop-block-preserved
loop-block-preserved c =
    let v = c.loop-block.words in
    let step = c.in-Some.ensures.steps in
    let long : length c.in-Some.block.now ≡ 64 = omega (arith, step.1.1, c.loop-block.invariant.whole) in
    record {
      whole = step.0 ∙ c.loop-block.invariant.whole;
      words =
          rw c.compress-words.ensures
          (sym (all_append v c.in-Some.block.now c.next.new.self.rest.now long) ∙ ap (compress_all v) (sym step.1.0) ∙ c.loop-block.invariant.words);
    }

pub returns : goal.returns
returns c =
    let left = c.loop-block.block-iterator.rest.now in
    sym (all_short c.loop-block.words left (omega (arith, c.in-None.ensures.steps.1.0, c.loop-block.invariant.whole))) ∙ c.loop-block.invariant.words
