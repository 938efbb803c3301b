-- The bytes of the five adds, one after another, fit.
use Rattle.std.proofs.Common.{◌++◌, ap, ◌∙◌}
use Rattle.sha256.specs.Digest.{word_bytes}
use Rattle.sha256.specs.declared.running.Hash.{Hash}
use Rattle.message.proofs.DigestLaws.{all-taken, digest-made}
use Rattle.message.proofs.joined_digest.Goals as goal

pub returns : goal.returns
returns c =
    let a = c.args in
    let short = c.requires in
    let taken =
    all-taken a.r.now a.seed.now a.root.now a.leaf.now a.message.now
    short.0 short.1 short.2 short.3 short.4 c.start.ensures
    c.add.ensures.state c.add-2.ensures.state c.add-3.ensures.state c.add-4.ensures.state c.add-5.ensures.state in
    digest-made (a.r.now ++ a.seed.now ++ a.root.now ++ a.leaf.now ++ a.message.now) taken
    (c.digest.ensures ∙ ap (λ (h : Hash). word_bytes h.words) c.finish.ensures)
