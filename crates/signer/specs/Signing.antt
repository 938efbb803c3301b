-- Document 01, Tree, key and cabinet, with document 02, points 3, 5 and 6: the leaf and the number that a key signs, and the signature.
use Rattle.std.specs.Prelude.{List, ℕ}
use Rattle.profile.specs.declared.Profile.{Profile}
use Rattle.signature.specs.Signature.{joined_parts}
use Rattle.signing_key.specs.Counter.{marked_leaf}
use Rattle.signing_key.specs.declared.SigningKey.{SigningKey}
use Rattle.codewords.specs.Operations.{row_of}
use Rattle.tweak.specs.Tweak.{first_domain}
use Rattle.tweak.specs.declared.Domain.{Domain}
use Rattle.chains.specs.Leaves.{chains_of, revealed}
use Rattle.tree.specs.Tree.{root_of, siblings_of}
use Rattle.message.specs.Message.{message_number}

-- "sign uses the marked leaf"
abbrev pub leaf_to_sign : SigningKey → ℕ
leaf_to_sign key = marked_leaf key.counter

-- the number of a message that a key's marked leaf signs: in edition 2 that leaf stands in its digest
unfoldable pub key_number : SigningKey → (r message : List ℕ) → ℕ
key_number key r message =
    message_number key.profile (leaf_to_sign key) r key.seed (root_of (first_domain key.seed) key.profile key.secret) message

-- "leaf …, R, l values, h siblings from the bottom": the values that a row shows of the leaf's chains, and the path up from the leaf
unfoldable pub signature_of : Domain → Profile → (secret : List ℕ) (leaf : ℕ) (r row : List ℕ) → List ℕ
signature_of d p secret leaf r row =
    joined_parts leaf r (revealed d (chains_of p.shape) secret leaf row) (siblings_of d (chains_of p.shape) secret p.height leaf)

-- the signature that a key makes of a message: with its marked leaf and the row of the message's number, in layer 0 and tree 0
unfoldable pub key_signature : SigningKey → (r message : List ℕ) → List ℕ
key_signature key r message =
    signature_of (first_domain key.seed) key.profile key.secret (leaf_to_sign key) r
    (row_of key.profile.shape (key_number key r message))
