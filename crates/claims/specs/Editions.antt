-- Document 02, point 6: one key and one cabinet in the two editions. The other claims hold for every profile, and so in either edition.
use Rattle.std.specs.Prelude.{◌≡◌, ◌↔◌, List, ◌++◌, ℕ}
use Rattle.refusal.specs.Code.{first_cause}
use Rattle.octets.specs.Bytes.{to_bytes, first_bits}
use Rattle.sha256.specs.Digest as sha256
use Rattle.profile.specs.declared.Profile.{Profile}
use Rattle.counts.specs.Counts.{count}
use Rattle.codewords.specs.Operations.{row_of}
use Rattle.tweak.specs.declared.Domain.{Domain}
use Rattle.chains.specs.Leaves.{leaf_key_of}
use Rattle.one_time.specs.Operations.{recovered_by}
use Rattle.tree.specs.Tree.{root_of}
use Rattle.message.specs.Message.{message_digest, number_bits}
use Rattle.signer.specs.Signing.{signature_of}
use Rattle.verifier.specs.Verifying.{root_along}
use Rattle.verifier.specs.Operations.{VerifyingCall, causes_before_root, verify_code}
use Rattle.signature.specs.Signature.{leaf_in, random_in}
use Rattle.verifier.specs.declared.Verifier.{Verifier}

-- a profile in an edition
abbrev pub profile_in : (edition : ℕ) → Profile → Profile
profile_in edition p = record { shape = p.shape; height = p.height; edition = edition }

-- a cabinet in an edition
abbrev pub cabinet_in : (edition : ℕ) → Verifier → Verifier
cabinet_in edition v = record { profile = profile_in edition v.profile; seed = v.seed; root = v.root; window = v.window }

-- the number by which a cabinet judges a signature: the first b bits of the digest of the cabinet's edition, with the leaf and R that the
-- signature has
abbrev pub number_judged : Verifier → (message signature : List ℕ) → ℕ
number_judged v message signature =
    first_bits (number_bits (count v.profile.shape))
    (message_digest v.profile.edition (leaf_in signature) (random_in signature) v.seed v.root message)

-- a signature of one edition is judged by the digest of the cabinet's edition alone; the number is written out down to the digest, so that
-- this is seen
pub record JudgedByEdition : Type 0 where
  -- the causes in front of the root are the same at a cabinet of either edition: none asks in which a signature was made
  pub before : (v : Verifier) (call : VerifyingCall) → causes_before_root (cabinet_in 1 v) call ≡ causes_before_root (cabinet_in 2 v) call
  -- past them every signature, in whichever edition it was made, is accepted exactly when it leads to the root by the number of the
  -- cabinet's edition
  pub verdict : (v : Verifier) (call : VerifyingCall) → first_cause (causes_before_root v call) ≡ 0
      → (verify_code v call ≡ 0)
      ↔ (root_along v (row_of v.profile.shape (number_judged v call.message call.signature)) call.signature ≡ v.root)

-- what the edition has no part in, and how the digests stand to each other
pub record EditionsShare : Type 0 where
  pub leaf_key_lem : (edition : ℕ) (d : Domain) (p : Profile) (secret : List ℕ) (leaf : ℕ)
      → leaf_key_of d (profile_in edition p) secret leaf ≡ leaf_key_of d p secret leaf
  pub root : (edition : ℕ) (d : Domain) (p : Profile) (secret : List ℕ) → root_of d (profile_in edition p) secret ≡ root_of d p secret
  pub signature : (edition : ℕ) (d : Domain) (p : Profile) (secret : List ℕ) (leaf : ℕ) (r row : List ℕ)
      → signature_of d (profile_in edition p) secret leaf r row ≡ signature_of d p secret leaf r row
  pub recovered : (edition : ℕ) (d : Domain) (p : Profile) (leaf n : ℕ) (values : List ℕ)
      → recovered_by d (profile_in edition p) leaf n values ≡ recovered_by d p leaf n values
  -- "Old cabinets keep the old rule": in edition 1 the digest is document 01's, over "R …, public seed, root, order text"
  pub old_rule : (leaf : ℕ) (r seed root message : List ℕ)
      → message_digest 1 leaf r seed root message ≡ sha256.digest (r ++ seed ++ root ++ message)
  -- what is hashed does not name its edition: the digest of a text in edition 2 is, in edition 1, that of the leaf's bytes with the text
  -- behind them, whatever the leaf is there
  pub shifted : (leaf other : ℕ) (r seed root message : List ℕ)
      → message_digest 2 leaf r seed root message ≡ message_digest 1 other r seed root (to_bytes 4 leaf ++ message)
