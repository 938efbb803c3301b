-- The gate profile, its figures in the price list, and its count.
use Rattle.std.specs.Prelude.{◌≡◌, ℕ, ◌-◌, ◌*◌, ◌/◌, ◌^◌, ◌≤◌, ◌<◌}
use Rattle.profile.specs.declared.Shape.{Shape}
use Rattle.profile.specs.declared.Profile.{Profile}
use Rattle.counts.specs.Counts.{count}
use Rattle.one_time.specs.Operations.{steps_of}
use Rattle.message.specs.Message.{number_bits}
use Rattle.signature.specs.Signature.{signature_length}
use Rattle.signer.specs.Operations.{SigningCall, sign_code}
use Rattle.signing_key.specs.declared.SigningKey.{SigningKey}
use Rattle.verifier.specs.Operations.{VerifyingCall, verify_code}
use Rattle.verifier.specs.declared.Verifier.{Verifier}

-- "The gate profile is l = 34, w = 16, s = 255, h = 10": its shape
abbrev pub gate_shape : Shape
gate_shape = record { chains = 34; width = 16; sum = 255 }

-- the gate profile in an edition
abbrev pub gate : (edition : ℕ) → Profile
gate edition = record { shape = gate_shape; height = 10; edition = edition }

-- "724 bytes an order, 255 chain steps a check, for every order a key can sign": for every number below the count
pub record GateFigures : Type 0 where
  pub bytes : (edition : ℕ) → signature_length (gate edition) ≡ 724
  pub steps : (n : ℕ) → n < count gate_shape → steps_of gate_shape n ≡ 255

-- document 02, point 13: "For the gate profile the count is at least 2^128, so b is 128 and 19 never occurs there"
pub record GateCount : Type 0 where
  -- its s is the whole part of l × (w − 1) / 2
  pub middle : gate_shape.sum ≡ gate_shape.chains * (gate_shape.width - 1) / 2
  pub counted : count gate_shape ≡ 1287155674008337910149577743336952677632
  pub large : 2 ^ 128 ≤ count gate_shape
  pub bits : number_bits (count gate_shape) ≡ 128
  -- of Sign and Check, in either edition and whatever else they are handed
  pub sign_never_nineteen : (key : SigningKey) (call : SigningCall) (edition : ℕ) → key.profile ≡ gate edition → sign_code key call ≡ 19 → ⊥
  pub verify_never_nineteen : (v : Verifier) (call : VerifyingCall) (edition : ℕ) → v.profile ≡ gate edition → verify_code v call ≡ 19 → ⊥
