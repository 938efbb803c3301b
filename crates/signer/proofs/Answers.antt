-- What Sign answers and leaves on each way out.
use mathlib.Core.Path.{◌≡◌, refl, ◌∙◌, sym, ap}
use mathlib.Core.Bool.{Bool, false, not}
use mathlib.Core.List.{List, [], ◌∷◌, ◌++◌}
use Prim.Native.Nat.{ℕ, ◌+◌, ◌^◌, ◌<◌, ◌≤◌}
use native.Mathlib.Nat.{zero-add}
use native.Mathlib.Omega.{arith}
use borrow.Author.Tests.{ltb-false, not-false}
use lib.Dec.{ltb}
use lib.ListN.{length, take, drop}
use Rattle.std.specs.Prelude.{Result, Ok, Err}
use Rattle.refusal.specs.Code.{outcome_code, first_cause}
use Rattle.refusal.specs.declared.Refusal.{Refusal}
use Rattle.refusal.proofs.Causes.{Avoids, none_here, granted-none, refused-number}
use Rattle.numbers.specs.Number.{value, to_words}
use Rattle.profile.specs.declared.Shape.{Shape}
use Rattle.signature.specs.Signature.{outside_text, joined_parts, signature_length}
use Rattle.signature.proofs.Fits.{short_text}
use Rattle.signing_key.specs.Counter.{mark_counts, cleared}
use Rattle.signing_key.specs.Key.{recounted}
use Rattle.signing_key.specs.declared.SigningKey.{SigningKey}
use Rattle.signing_key.proofs.CounterLaws.{mark-within}
use Rattle.counts.specs.Counts.{count}
use Rattle.counts.specs.Table.{with_table, table_causes, leaves_table}
use Rattle.counts.proofs.Answer.{count-value, table-held}
use Rattle.counts.proofs.Room.{TablePassed, table-early, table-passed}
use Rattle.counts.proofs.TableOperation.{Refuses, refused, refused-own, granted-own, table-left}
use Rattle.codewords.specs.Operations.{row_of}
use Rattle.codewords.proofs.RowLaws.{row_front}
use Rattle.tweak.specs.Tweak.{first_domain}
use Rattle.tweak.specs.declared.Domain.{Domain}
use Rattle.chains.specs.Leaves.{chains_of, revealed}
use Rattle.chains.proofs.RowFront.{revealed-front}
use Rattle.tree.specs.Tree.{root_of, siblings_of}
use Rattle.message.specs.Message.{message_number, count_too_small}
use Rattle.message.proofs.NumberLaws.{number_fits}
use Rattle.signer.specs.Signing.{leaf_to_sign, key_number, signature_of, key_signature}
use Rattle.signer.specs.inner.Making.{ReadyToSign}
use Rattle.signer.specs.Operations.{SigningCall, sign_causes, sign_code, key_after, output_after, Signs}

-- the message number, with the root that the key's seeds give
pub number_is : (key : SigningKey) (r message : List ℕ) {d : Domain} {root : List ℕ} {n : ℕ} → d ≡ first_domain key.seed
    → root ≡ root_of d key.profile key.secret
    → n ≡ message_number key.profile (leaf_to_sign key) r key.seed root message → n ≡ key_number key r message
unfolding key_number
number_is key r message domain above e = e ∙ rw (above, domain)

-- below the count, where that is not too small
pub key-number-fits : (key : SigningKey) (r message : List ℕ) → count_too_small (count key.profile.shape) ≡ false
    → key_number key r message < count key.profile.shape
unfolding key_number
key-number-fits key r message =
    number_fits key.profile (leaf_to_sign key) r key.seed (root_of (first_domain key.seed) key.profile key.secret) message

-- the codeword in the row, in front of what else it has, and the signature made of it
pub signature-is : (key : SigningKey) (r message : List ℕ) → count_too_small (count key.profile.shape) ≡ false
    → (more made : List ℕ) {d : Domain} {row siblings : List ℕ} {k : ℕ} → d ≡ first_domain key.seed
    → k ≡ key_number key r message → row ≡ row_of key.profile.shape k ++ more
    → siblings ≡ siblings_of d (chains_of key.profile.shape) key.secret key.profile.height (leaf_to_sign key)
    → take (signature_length key.profile) made
    ≡ joined_parts (leaf_to_sign key) r (revealed d (chains_of key.profile.shape) key.secret (leaf_to_sign key) row) siblings
    → take (signature_length key.profile) made ≡ key_signature key r message
unfolding key_signature signature_of
signature-is key r message large more made {d} {row} domain number placed way parts =
    let shape = key.profile.shape in
    let n = key_number key r message in
    let front : take shape.chains row ≡ row_of shape n = rw (placed, number) (row_front shape n (key-number-fits key r message large) more) in
    parts ∙ rw (revealed-front (chains_of shape) row front d key.secret (leaf_to_sign key), way, domain)

-- the causes before 19: those of the table, then those of the order
module _ (key : SigningKey) (call : SigningCall) where
  abbrev shape : Shape
  shape = key.profile.shape

  abbrev first : List (Bool × ℕ)
  first = table_causes key.profile (length call.work)

  abbrev own : List (Bool × ℕ)
  own = sign_causes key (length call.message) (length call.out)

  -- the cause behind the table
  abbrev after : List (Bool × ℕ)
  after = (count_too_small (count shape), 19) ∷ []

  early : Avoids leaves_table first
  early = table-early key.profile (length call.work)

  between : Avoids leaves_table own
  between = (refl, (refl, (refl, tt)))

  -- all causes
  causes : sign_code key call ≡ first_cause (first ++ (own ++ after))
  unfolding sign_code
  causes = refl

  stopped : {cause : Refusal} {answer : Result (Unit {0}) Refusal} → Refuses (sign_code key call) cause → answer ≡ Err cause
      → Signs key call call.work call.out key answer
  unfolding key_after output_after
  stopped refuses e =
      rw e (record { code = refuses.answer; key' = rw refuses.some refl; table = refuses.untouched shape call.work; written = rw refuses.some refl })

  module _ {r : Result (Unit {0}) Refusal} (checked : outcome_code r ≡ first_cause (table_causes key.profile (length call.work))) where
    pub sign_table_refused : {cause : Refusal} {answer : Result (Unit {0}) Refusal} → r ≡ Err cause → answer ≡ Err cause
        → Signs key call call.work call.out key answer
    sign_table_refused was = stopped (refused first (own ++ after) early causes checked was)

    module _ {v : Unit {0}} (passed : r ≡ Ok v) where
      -- the table may be filled
      pub sign_filled : TablePassed key.profile (length call.work)
      sign_filled = table-passed key.profile (length call.work) (granted-none first passed checked)

      -- and a signature is not longer than what it is made in
      pub sign_within : (made : List ℕ) {bytes : ℕ} → bytes ≡ signature_length key.profile → length made ≡ 820 → bytes ≤ length made
      unfolding signature_length
      sign_within made e long = omega (arith, sign_filled.limits.few_chains, sign_filled.low)

      module _ {s : Result (Unit {0}) Refusal} (ordered : outcome_code s ≡ first_cause (sign_causes key (length call.message) (length call.out))) where
        pub sign_order_refused : {cause : Refusal} {answer : Result (Unit {0}) Refusal} → s ≡ Err cause → answer ≡ Err cause
            → Signs key call call.work call.out key answer
        sign_order_refused was = stopped (refused-own first own after early between causes checked passed ordered was)

        module _ {u : Unit {0}} (granted : s ≡ Ok u) where
          rest : sign_code key call ≡ first_cause after
          rest = (granted-own first own after early between causes checked passed ordered granted).rest

          -- the table is filled, and the count is looked at
          module _ {left counted : List ℕ} (numbered : counted ≡ to_words 5 (count key.profile.shape))
              (filled : left ≡ with_table key.profile.shape call.work) where
            answer-code : {m : ℕ} → m ≡ first_cause ((count_too_small (value counted), 19) ∷ []) → m ≡ sign_code key call
            answer-code looked = looked ∙ rw (count-value shape sign_filled.limits numbered) (sym rest)

            module _ {t : Result (Unit {0}) Refusal} (looked : outcome_code t ≡ first_cause ((count_too_small (value counted), 19) ∷ [])) where
              pub sign_count_refused : {cause : Refusal} {answer : Result (Unit {0}) Refusal} → t ≡ Err cause → answer ≡ Err cause
                  → Signs key call left call.out key answer
              unfolding key_after output_after
              sign_count_refused was e =
                  let some = refused-number was (answer-code looked) in
                  rw e
                  (record {
                    code = ap outcome_code (sym was) ∙ answer-code looked;
                    key' = rw some refl;
                    table = table-left after (refl, tt) rest shape call.work filled;
                    written = rw some refl;
                  })

              module _ {w : Unit {0}} (large : t ≡ Ok w) where
                none : sign_code key call ≡ 0
                none = sym (answer-code looked) ∙ ap outcome_code large

                -- everything is ready, and the output has room
                pub sign_ready : ReadyToSign key counted call.message left × (signature_length key.profile ≤ length call.out)
                sign_ready =
                    let unmarked : Bool = not (mark_counts (2 ^ key.profile.height) key.counter) in
                    let size = ltb (length call.out) (signature_length key.profile) in
                    let text = none_here (outside_text (length call.message)) 16 ((size, 6) ∷ (unmarked, 20) ∷ []) refl (granted-none own granted ordered) in
                    let room = none_here size 6 ((unmarked, 20) ∷ []) refl text.1 in
                    let leaf = mark-within (2 ^ key.profile.height) key.counter (not-false _ (none_here unmarked 20 [] refl room.1).0) in
                    let known : ReadyToSign key counted call.message left =
                    record {
                      limits = sign_filled.limits;
                      low = sign_filled.low;
                      short = short_text (length call.message) text.0;
                      some = leaf.0;
                      in_tree = omega arith;
                      held = table-held shape call.work filled;
                      number = count-value shape sign_filled.limits numbered;
                      large = (none_here (count_too_small (count shape)) 19 [] refl (sym rest ∙ none)).0;
                    } in
                    (known, ltb-false (length call.out) (signature_length key.profile) room.0)

                -- the signature made, and copied to the output
                pub sign_granted : (made : List ℕ) {out' : List ℕ} → made ≡ key_signature key call.r call.message
                    → length made ≡ signature_length key.profile → out' ≡ take 0 call.out ++ made ++ drop (0 + length made) call.out
                    → Signs key call left out' (recounted key (cleared key.counter)) (Ok tt)
                unfolding key_after output_after
                sign_granted made is long written =
                    record {
                      code = sym none;
                      key' = rw none refl;
                      table = table-left after (refl, tt) rest shape call.work filled;
                      written = rw none (written ∙ rw (long, zero-add, is));
                    }
