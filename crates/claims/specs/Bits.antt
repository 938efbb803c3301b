-- Document 02, point 3: bits by the count, and 19.
use Rattle.std.specs.Prelude.{◌≡◌, ◌↔◌, List, ◌++◌, ℕ, ◌^◌, ◌≤◌, ◌<◌, length, take}
use Rattle.refusal.specs.Code.{first_cause}
use Rattle.octets.specs.Bytes.{from_bytes}
use Rattle.profile.specs.Checks.{InLimits}
use Rattle.profile.specs.declared.Shape.{Shape}
use Rattle.profile.specs.declared.Profile.{Profile}
use Rattle.counts.specs.Counts.{count}
use Rattle.counts.specs.Table.{table_causes}
use Rattle.message.specs.Message.{message_digest, number_bits, message_number}
use Rattle.signer.specs.Operations.{SigningCall, sign_causes, sign_code}
use Rattle.signing_key.specs.declared.SigningKey.{SigningKey}
use Rattle.verifier.specs.Operations.{VerifyingCall, verify_causes, verify_code}
use Rattle.verifier.specs.declared.Verifier.{Verifier}

-- "b is the largest value up to 128 with 2^b not above the count", for the count of every shape within its limits
abbrev pub LargestBits : Type 0
LargestBits =
    (p : Shape) → InLimits p
    → (number_bits (count p) ≤ 128) × (2 ^ number_bits (count p) ≤ count p) × ((b : ℕ) → b ≤ 128 → 2 ^ b ≤ count p → b ≤ number_bits (count p))

-- "the number is the first b bits of the digest", for every leaf of every profile, and every R, seed, root and text
pub record NumbersFit : Type 0 where
  -- it is one of the numbers of b bits
  pub bits : (p : Profile) (leaf : ℕ) (r seed root message : List ℕ)
      → message_number p leaf r seed root message < 2 ^ number_bits (count p.shape)
  -- and so below the count
  pub below : (p : Profile) (leaf : ℕ) (r seed root message : List ℕ) → InLimits p.shape
      → message_number p leaf r seed root message < count p.shape
  -- with 128 bits it is document 01's: "the first 16 digest bytes, most significant first"
  pub earlier : (p : Profile) (leaf : ℕ) (r seed root message : List ℕ) → 2 ^ 128 ≤ count p.shape
      → message_number p leaf r seed root message ≡ from_bytes (take 16 (message_digest p.edition leaf r seed root message))

-- what 19 does in 7's place, for every call
pub record SmallCounts : Type 0 where
  -- "Issue and Check no longer give 7": Sign in Issue's place
  pub sign_seven : (key : SigningKey) (call : SigningCall) → sign_code key call ≡ 7 → ⊥
  pub verify_seven : (v : Verifier) (call : VerifyingCall) → verify_code v call ≡ 7 → ⊥
  -- "19 when the count is below 256": where no cause before it holds, exactly then
  pub sign_nineteen : (key : SigningKey) (call : SigningCall)
      → (sign_code key call ≡ 19)
      ↔ ((first_cause (table_causes key.profile (length call.work) ++ sign_causes key (length call.message) (length call.out)) ≡ 0)
      × (count key.profile.shape < 256))
  pub verify_nineteen : (v : Verifier) (call : VerifyingCall)
      → (verify_code v call ≡ 19)
      ↔ ((first_cause (table_causes v.profile (length call.work) ++ verify_causes v (length call.message) call.signature) ≡ 0)
      × (count v.profile.shape < 256))
