-- The bits of a message number, and where Sign and Check answer 19.
use mathlib.Core.Path.{◌≡◌, refl, sym, ap, ◌∙◌}
use mathlib.Core.Bool.{Bool, not}
use mathlib.Core.List.{List, [], ◌∷◌, ◌++◌, append_assoc}
use mathlib.Core.Logic.{◌↔◌}
use Prim.Native.Nat.{ℕ, ◌<◌}
use native.Mathlib.Omega.{arith}
use borrow.Author.Tests.{ltb-true, lt-ltb}
use lib.Dec.{lit<}
use lib.ListN.{length}
use Rattle.refusal.specs.Code.{first_cause}
use Rattle.refusal.proofs.Causes.{Without, Numbered, without-append, smaller_number, first-without, cause_answers}
use Rattle.profile.specs.Checks.{profile_causes}
use Rattle.profile.specs.declared.Profile.{Profile}
use Rattle.profile.proofs.Limits.{profile-without}
use Rattle.counts.specs.Counts.{count}
use Rattle.counts.specs.Table.{table_causes}
use Rattle.counts.proofs.Answer.{count-some}
use Rattle.counts.proofs.Room.{table-numbered}
use Rattle.message.specs.Message.{count_too_small}
use Rattle.message.proofs.NumberLaws.{bits-few, bits-held, bits-largest, number-of-bits, number-below-count, number_of_16_bytes}
use Rattle.signer.specs.Operations.{SigningCall, sign_causes, sign_code}
use Rattle.signing_key.specs.declared.SigningKey.{SigningKey}
use Rattle.verifier.specs.Verifying.{root_in, same_bytes}
use Rattle.verifier.specs.Operations.{VerifyingCall, verify_causes, causes_before_root, verify_code}
use Rattle.verifier.specs.declared.Verifier.{Verifier}
use Rattle.claims.specs.Bits.{LargestBits, NumbersFit, SmallCounts}

pub largest-bits : LargestBits
largest-bits p limits = (bits-few (count p), bits-held (count p) (count-some p limits), bits-largest (count p))

pub numbers_fit : NumbersFit
numbers_fit =
    record {
      bits = number-of-bits;
      below = λ p leaf r seed root message limits. number-below-count p leaf r seed root message (count-some p.shape limits);
      earlier = number_of_16_bytes;
    }

-- the causes of the table are 1 to 5, and 22
pub table-without : (k : ℕ) (p : Profile) (words : ℕ) → 5 < k → k < 22 → Without k (table_causes p words)
unfolding table_causes
table-without k p words low high = without-append k (profile_causes p) _ (profile-without p k (omega arith) high) (smaller_number 5 k low, tt)

-- an operation over the table that has no 7 of its own does not answer 7
never_seven : (p : Profile) (words : ℕ) (own : List (Bool × ℕ)) → Without 7 own → first_cause (table_causes p words ++ own) ≡ 7 → ⊥
never_seven p words own other =
    first-without 7 (table_causes p words ++ own) (without-append 7 (table_causes p words) own (table-without 7 p words (lit< tt) (lit< tt)) other) (lit< tt)

-- the cause of 19, among others that are not 19
nineteen : (first own last : List (Bool × ℕ)) (counted : ℕ) → Numbered (first ++ own) → Without 19 (first ++ own) → Without 19 last
    → (first_cause (first ++ (own ++ ((count_too_small counted, 19) ∷ last))) ≡ 19) ↔ ((first_cause (first ++ own) ≡ 0) × (counted < 256))
unfolding count_too_small
nineteen first own last counted numbered before behind =
    let answers = cause_answers (first ++ own) last (count_too_small counted) 19 numbered before behind (lit< tt) in
    let joined = append_assoc first own ((count_too_small counted, 19) ∷ last) in (
      (λ e. let holds = answers.0 (ap first_cause joined ∙ e) in (holds.0, ltb-true counted 256 holds.1)),
      (λ holds. sym (ap first_cause joined) ∙ answers.1 (holds.0, lt-ltb counted 256 holds.1)),
    )

module _ (key : SigningKey) (call : SigningCall) where
  abbrev sign-first : List (Bool × ℕ)
  sign-first = table_causes key.profile (length call.work)

  abbrev sign-own : List (Bool × ℕ)
  sign-own = sign_causes key (length call.message) (length call.out)

  sign_seven : sign_code key call ≡ 7 → ⊥
  unfolding sign_code
  sign_seven = never_seven key.profile (length call.work) (sign-own ++ ((count_too_small (count key.profile.shape), 19) ∷ []))
      (refl, (refl, (refl, (refl, tt))))

  sign_nineteen : (sign_code key call ≡ 19) ↔ ((first_cause (sign-first ++ sign-own) ≡ 0) × (count key.profile.shape < 256))
  unfolding sign_code
  sign_nineteen =
      nineteen sign-first sign-own [] (count key.profile.shape)
      (without-append 0 sign-first sign-own (table-numbered key.profile (length call.work)) (refl, (refl, (refl, tt))))
      (without-append 19 sign-first sign-own (table-without 19 key.profile (length call.work) (lit< tt) (lit< tt)) (refl, (refl, (refl, tt)))) tt

module _ (v : Verifier) (call : VerifyingCall) where
  abbrev pub verify_first : List (Bool × ℕ)
  verify_first = table_causes v.profile (length call.work)

  abbrev pub verify_own : List (Bool × ℕ)
  verify_own = verify_causes v (length call.message) call.signature

  abbrev pub verify_last : List (Bool × ℕ)
  verify_last = (not (same_bytes (root_in v call.message call.signature) v.root), 15) ∷ []

  pub verify_causes_lem : verify_code v call ≡ first_cause (verify_first ++ (verify_own ++ ((count_too_small (count v.profile.shape), 19) ∷ verify_last)))
  unfolding verify_code causes_before_root
  verify_causes_lem = ap first_cause (append_assoc verify_first (verify_own ++ ((count_too_small (count v.profile.shape), 19) ∷ [])) verify_last)

  verify_seven : verify_code v call ≡ 7 → ⊥
  verify_seven e =
      never_seven v.profile (length call.work) (verify_own ++ ((count_too_small (count v.profile.shape), 19) ∷ verify_last))
      (refl, (refl, (refl, (refl, (refl, (refl, tt)))))) (sym verify_causes_lem ∙ e)

  verify_nineteen : (verify_code v call ≡ 19) ↔ ((first_cause (verify_first ++ verify_own) ≡ 0) × (count v.profile.shape < 256))
  verify_nineteen =
      rw verify_causes_lem
      (nineteen verify_first verify_own verify_last (count v.profile.shape)
      (without-append 0 verify_first verify_own (table-numbered v.profile (length call.work)) (refl, (refl, (refl, (refl, tt)))))
      (without-append 19 verify_first verify_own (table-without 19 v.profile (length call.work) (lit< tt) (lit< tt)) (refl, (refl, (refl, (refl, tt)))))
      (refl, tt))

pub small-counts : SmallCounts
small-counts = record { sign_seven = sign_seven; verify_seven = verify_seven; sign_nineteen = sign_nineteen; verify_nineteen = verify_nineteen }
