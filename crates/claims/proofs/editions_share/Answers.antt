-- Leaf keys, the root, the signature of a number and what Recover finds go by shape and height alone; a leaf in front of a text is hashed as part of it.
use mathlib.Core.Path.{refl, sym, ap, ◌∙◌}
use mathlib.Core.List.{◌++◌, append_assoc, append-nil}
use Rattle.octets.specs.Bytes.{to_bytes}
use Rattle.sha256.specs.Digest as sha256
use Rattle.one_time.specs.Operations.{revealed_by, recovered_by}
use Rattle.message.specs.Message.{message_digest, leaf_part}
use Rattle.signer.specs.Signing.{signature_of}
use Rattle.claims.proofs.editions_share.Goals as goal

pub returns : goal.returns
unfolding revealed_by recovered_by signature_of message_digest leaf_part
returns c =
    record {
      leaf_key_lem = λ edition d p secret leaf. refl;
      root = λ edition d p secret. refl;
      signature = λ edition d p secret leaf r row. refl;
      recovered = λ edition d p leaf n values. refl;
      old_rule = λ leaf r seed root message. ap (λ front. sha256.digest (front ++ message)) (append-nil (r ++ seed ++ root));
      shifted = λ leaf other r seed root message.
          let front = r ++ seed ++ root in
          ap sha256.digest (append_assoc front (to_bytes 4 leaf) message ∙ ap (λ l. l ++ (to_bytes 4 leaf ++ message)) (sym (append-nil front)));
    }
