-- The bytes of the leaf that are joined are those that the edition takes.
use Rattle.std.proofs.Common.{◌≡◌, ◌++◌, take, ap, ◌∙◌}
use Rattle.sha256.specs.Digest.{digest}
use Rattle.message.specs.Message.{message_digest, leaf_part}
use Rattle.message.proofs.DigestLaws.{part-taken}
use Rattle.message.proofs.message_digest.Goals as goal

pub returns : goal.returns
unfolding message_digest
returns c =
    let a = c.args in
    let part : take c.leaf_bytes.result c.word_bytes.result ≡ leaf_part a.edition a.leaf =
    rw (c.leaf_bytes.ensures, c.word_bytes.ensures) (part-taken a.edition a.leaf) in
    c.joined_digest.ensures ∙ ap (λ leaf. digest (a.r ++ a.seed ++ a.root ++ leaf ++ a.message.now)) part
