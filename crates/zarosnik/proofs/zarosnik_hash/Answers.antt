-- The digest where the bytes were granted, else zeros.
use Rattle.std.proofs.Common.{refl, ap, ◌∙◌}
use Rattle.refusal.proofs.Causes.{refused-number}
use Rattle.sha256.specs.Digest.{word_bytes}
use Rattle.sha256.specs.Running.{started, Adds}
use Rattle.sha256.specs.declared.running.Hash.{Hash}
use Rattle.zarosnik.proofs.OneShot.{granted-digest}
use Rattle.zarosnik.proofs.zarosnik_hash.Goals as goal
use Rattle.zarosnik.proofs.zarosnik_hash.Goals.{in-Ok, in-Err}

pub returns : goal.returns
returns c =
    let bytes = c.args.bytes.now in
    let adds : Adds started bytes c.add-added.result = rw c.start.ensures at c.add-added.ensures in
    let returned = c.returned.ensures ∙ adds.code in
    elim c.match-added.branch [
      | in-Ok w ↦ record {
        returned = returned;
        written =
            w.digest-is ∙ w.digest.ensures ∙ ap (λ (h : Hash). word_bytes h.words) w.finish.ensures ∙ granted-digest bytes adds w.in-Ok.is;
      }
      | in-Err w ↦ record { returned = returned; written = w.digest-is ∙ rw (refused-number w.in-Err.is adds.code) refl }
    ]
