-- A turn puts one word more in its place.
use Rattle.std.proofs.Common.{◌≡◌, refl, ◌∙◌, arith}
use Rattle.lists.specs.Joined.{join_to}
use Rattle.sha256.proofs.DigestBytes.{word_put, words_put}
use Rattle.sha256.proofs.running.Hash.digest.Goals as goal

pub loop-k-init : goal.loop-k-init
unfolding join_to
loop-k-init c = refl

pub loop-k-preserved : goal.loop-k-preserved
loop-k-preserved c = word_put c.args.self.words c.loop-k.k (omega arith) c.word_bytes.ensures c.loop-k.invariant c.copy.ensures

pub returns : goal.returns
returns c =
    let all : c.loop-k.k ≡ 8 = omega arith in
    rw all at c.loop-k.invariant ∙ words_put c.args.self.words
