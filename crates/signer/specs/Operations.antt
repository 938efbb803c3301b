-- Document 02, point 5, "sign uses the marked leaf and clears the mark", with document 01, "Issue", which Reserve and Sign have replaced:
-- what Sign answers and leaves.
use Rattle.std.specs.Prelude.{◌≡◌, Bool, not, cond, List, [], ◌∷◌, ◌++◌, ℕ, ◌^◌, ltb, eqb, length, drop, Result}
use Rattle.refusal.specs.Code.{outcome_code, first_cause}
use Rattle.refusal.specs.declared.Refusal.{Refusal}
use Rattle.signature.specs.Signature.{outside_text, signature_length}
use Rattle.signing_key.specs.Counter.{mark_counts, cleared}
use Rattle.signing_key.specs.Key.{recounted}
use Rattle.signing_key.specs.declared.SigningKey.{SigningKey}
use Rattle.counts.specs.Counts.{count}
use Rattle.counts.specs.Table.{table_causes, table_after}
use Rattle.message.specs.Message.{count_too_small}
use Rattle.signer.specs.Signing.{key_signature}

-- a call of Sign: R, order text, work slice and output slice, each as it is when the call begins
pub record SigningCall : Type 0 where
  pub r : List ℕ
  pub message : List ℕ
  pub work : List ℕ
  pub out : List ℕ

-- "16 order text empty or over 200 bytes; 6 (20 + 16 × l + 16 × h)", and "20 when sign finds no mark, in 12's place"
abbrev pub sign_causes : SigningKey → (text bytes : ℕ) → List (Bool × ℕ)
sign_causes key text bytes =
    (outside_text text, 16) ∷ (ltb bytes (signature_length key.profile), 6)
    ∷ (not (mark_counts (2 ^ key.profile.height) key.counter), 20) ∷ []

-- "profile checks, 5; 16 …; 6 …; 12 …; 7", with 20 "in 12's place" and 19 "in 7's place"
unfoldable pub sign_code : SigningKey → SigningCall → ℕ
sign_code key call =
    first_cause
    (table_causes key.profile (length call.work)
    ++ (sign_causes key (length call.message) (length call.out) ++ ((count_too_small (count key.profile.shape), 19) ∷ [])))

-- the key that is left: sign "clears the mark"; "a sign refused keeps the mark", an idle one too
unfoldable pub key_after : SigningKey → SigningCall → SigningKey
key_after key call = cond (eqb (sign_code key call) 0) (recounted key (cleared key.counter)) key

-- what the output slice holds afterwards: the signature, and behind it what stood there; refused, what it held
unfoldable pub output_after : SigningKey → SigningCall → List ℕ
output_after key call =
    cond (eqb (sign_code key call) 0)
    (key_signature key call.r call.message ++ drop (signature_length key.profile) call.out)
    call.out

-- what Sign answers and leaves, the key among it
pub record Signs (key : SigningKey) (call : SigningCall) (work' out' : List ℕ) (left : SigningKey)
    (answer : Result (Unit {0}) Refusal) : Type 0 where
  pub code : outcome_code answer ≡ sign_code key call
  pub key' : left ≡ key_after key call
  pub table : work' ≡ table_after (sign_code key call) key.profile.shape call.work
  pub written : out' ≡ output_after key call
