-- What the causes before the table give, what the judging of one order answers, and that Check answers what both together do.
use mathlib.Core.Path.{◌≡◌, refl, ◌∙◌, ap, sym}
use mathlib.Core.Bool.{Bool, true, false, not, ◌||◌, cond}
use mathlib.Core.List.{List, [], ◌∷◌, ◌++◌, append_assoc}
use Prim.Native.Nat.{ℕ, ◌<◌, ◌≤◌}
use native.Mathlib.Omega.{arith}
use borrow.Author.Tests.{eqb-true, not-false}
use lib.Dec.{eqb}
use lib.ListN.{length, take}
use Rattle.std.specs.Prelude.{Result, Ok, Err, is_ok}
use Rattle.std.specs.Str.{bytes_eq}
use Rattle.refusal.specs.Code.{code, outcome_code, first_cause}
use Rattle.refusal.specs.declared.Refusal.{Refusal}
use Rattle.refusal.specs.declared.Refusal.TheVariants.{CountTooSmall}
use Rattle.refusal.proofs.Causes.{Avoids, none_here, avoids_append, refused-number, refused_first, granted-none, granted_first}
use Rattle.numbers.specs.Number.{to_words}
use Rattle.profile.specs.Checks.{InLimits, leaf_beyond}
use Rattle.signature.specs.Signature.{outside_text, signature_length, leaf_in, random_in, values_in, siblings_in}
use Rattle.signature.proofs.Fits.{short_text}
use Rattle.counts.specs.Counts.{count}
use Rattle.counts.specs.Table.{table_length, with_table, table_causes, leaves_table}
use Rattle.counts.proofs.Answer.{count-value, table-held}
use Rattle.counts.proofs.Room.{table-early, table-numbered, TablePassed, table-passed}
use Rattle.counts.proofs.TableOperation.{refused, granted, table-left}
use Rattle.tweak.specs.Tweak.{first_domain}
use Rattle.chains.specs.Leaves.{chains_of, steps_left}
use Rattle.chains.proofs.RowFront.{recovered-front, steps-left-front}
use Rattle.tree.specs.Tree.{recovered_root}
use Rattle.message.specs.Message.{count_too_small}
use Rattle.message.proofs.NumberLaws.{number_fits}
use Rattle.window.specs.Window.{passed, taken}
use Rattle.window.specs.declared.Window.{Window}
use Rattle.verifier.specs.Verifying.{with_accepted, number_in, row_in, root_along, root_in, steps_in, same_bytes}
use Rattle.verifier.specs.Operations.{VerifyingCall, verify_causes, causes_before_root, verify_code, verifier_after, steps_made, Verifies}
use Rattle.verifier.specs.inner.Judging.{Ready, judge_causes, judge_code, judge_steps, Judges, JudgesBehind, causes_before_table, Fills}
use Rattle.verifier.specs.declared.Verifier.{Verifier}
use Rattle.verifier.specs.declared.Verdict.{Verdict}
use Rattle.verifier.proofs.SameLaws.{same_compared}

-- the message number is below the count, where that is not too small
pub number_in_fits : (v : Verifier) (message signature : List ℕ) → count_too_small (count v.profile.shape) ≡ false
    → number_in v message signature < count v.profile.shape
unfolding number_in
number_in_fits v message signature = number_fits v.profile (leaf_in signature) (random_in signature) v.seed v.root message

-- a signature of its full length has a leaf and R in front
pub ready_front : (v : Verifier) (counted message signature work : List ℕ) → Ready v counted message signature work → 20 ≤ length signature
unfolding signature_length
ready_front v counted message signature work ready = omega (arith, ready.long)

-- the causes before the table: those of the table, and then those of the order
module _ (v : Verifier) (message signature work : List ℕ) where
  abbrev first : List (Bool × ℕ)
  first = table_causes v.profile (length work)

  abbrev own : List (Bool × ℕ)
  own = verify_causes v (length message) signature

  module _ {r : Result (Unit {0}) Refusal} (checked : outcome_code r ≡ first_cause (table_causes v.profile (length work))) where
    pub table_refused : {cause : Refusal} {answer : Result (List ℕ) Refusal} → r ≡ Err cause → answer ≡ Err cause
        → Fills v message signature work work answer
    table_refused was e = rw e (record { code = refused_first first own was checked; kept = refl; filled = tt; ready = tt })

    module _ {u : Unit {0}} (sized : r ≡ Ok u) where
      behind : first_cause (first ++ own) ≡ first_cause own
      behind = granted_first first own (table-numbered v.profile (length work)) sized checked

      within : TablePassed v.profile (length work)
      within = table-passed v.profile (length work) (granted-none first sized checked)

      -- the table may be filled
      pub order_room : InLimits v.profile.shape × (table_length v.profile.shape ≤ length work)
      order_room = (within.limits, within.room)

      module _ {s : Result (Unit {0}) Refusal} (looked : outcome_code s ≡ first_cause (verify_causes v (length message) signature)) where
        pub order_refused : {cause : Refusal} {answer : Result (List ℕ) Refusal} → s ≡ Err cause → answer ≡ Err cause
            → Fills v message signature work work answer
        order_refused was e = rw e (record { code = ap outcome_code (sym was) ∙ looked ∙ sym behind; kept = refl; filled = tt; ready = tt })

        -- and, once it is, the order may be judged
        pub order_filled : {w : Unit {0}} {n left : List ℕ} → s ≡ Ok w → n ≡ to_words 5 (count v.profile.shape) → left ≡ with_table v.profile.shape work
            → Fills v message signature work left (Ok n)
        order_filled granted counted filled =
            let last : List (Bool × ℕ) = (passed v.window (leaf_in signature), 14) ∷ [] in
            let beyond = leaf_beyond v.profile.height (leaf_in signature) in
            let exact = eqb (length signature) (signature_length v.profile) in
            let text = none_here (outside_text (length message)) 16 ((not exact, 13) ∷ (beyond, 11) ∷ last) refl (granted-none own granted looked) in
            let long = none_here (not exact) 13 ((beyond, 11) ∷ last) refl text.1 in
            let leaf = none_here beyond 11 last refl long.1 in
            record {
              code = ap outcome_code (sym granted) ∙ looked ∙ sym behind;
              kept = tt;
              filled = filled;
              ready = record {
                limits = within.limits;
                low = within.low;
                short = short_text (length message) text.0;
                long = eqb-true (length signature) (signature_length v.profile) (not-false exact long.0);
                free = (none_here (passed v.window (leaf_in signature)) 14 [] refl leaf.1).0;
                held = table-held v.profile.shape work filled;
                number = count-value v.profile.shape within.limits counted;
              };
            }

-- an answer is granted exactly where its code is 0
granted_exactly : (o : Result (Unit {0}) Refusal) → eqb (outcome_code o) 0 ≡ is_ok o
granted_exactly (Ok u) = refl
granted_exactly (Err cause) = refused-number {A = Unit {0}} {r = Err cause} refl refl

-- the judging of one order
module _ (v : Verifier) (message signature : List ℕ) where
  -- whether the count is too small, and whether the recovered root differs
  abbrev few : Bool
  few = count_too_small (count v.profile.shape)

  abbrev differs : Bool
  differs = not (same_bytes (root_in v message signature) v.root)

  -- refused before the chains
  pub judge_few : few ≡ true → Judges v message signature v (record { outcome = Err CountTooSmall; steps = 0 })
  unfolding judge_code judge_steps
  judge_few f = record { code = rw f; verifier = rw f; steps = rw f }

  -- the root and the steps found over a row that begins with that of the order's number
  module _ (row : List ℕ) (placed : take v.profile.shape.chains row ≡ row_in v message signature) {leaf : ℕ} (own : leaf ≡ leaf_in signature) where
    root_found : {top : List ℕ}
        → top
        ≡ recovered_root (first_domain v.seed) (chains_of v.profile.shape) v.profile.height leaf row (values_in v.profile signature)
        (siblings_in v.profile signature)
        → top ≡ root_in v message signature
    unfolding root_along recovered_root
    root_found climb =
        climb ∙ rw (own, recovered-front (chains_of v.profile.shape) row placed (first_domain v.seed) (values_in v.profile signature) (leaf_in signature))

    -- past 19, the comparison of the roots decides: granted, the leaf is taken
    pub judge_decided : {o : Result (Unit {0}) Refusal} {left : Verifier} {top : List ℕ} {unequal : Bool} {steps : ℕ} → few ≡ false
        → top
        ≡ recovered_root (first_domain v.seed) (chains_of v.profile.shape) v.profile.height leaf row (values_in v.profile signature)
        (siblings_in v.profile signature)
        → steps ≡ steps_left (chains_of v.profile.shape) row → unequal ≡ not (bytes_eq top v.root)
        → outcome_code o ≡ first_cause ((unequal, 15) ∷ [])
        → left ≡ cond (is_ok o) (with_accepted v (leaf_in signature)) v
        → Judges v message signature left (record { outcome = o; steps = steps })
    unfolding judge_code judge_steps
    judge_decided {o} {top} {unequal} enough climb made compared looked kept =
        let same : unequal ≡ differs = compared ∙ ap not (same_compared top v.root) ∙ rw (root_found climb) refl in
        let code : outcome_code o ≡ first_cause (judge_causes v message signature) = looked ∙ rw (enough, same) in
        record {
          code = code;
          verifier = kept ∙ rw (← granted_exactly o, code);
          steps = made ∙ steps-left-front (chains_of v.profile.shape) row placed ∙ rw enough;
        }

  -- the cabinet once its window has taken the leaf
  pub leaf_accepted : {leaf : ℕ} {window : Window} → leaf ≡ leaf_in signature → window ≡ taken v.window leaf
      → record { profile = v.profile; seed = v.seed; root = v.root; window = window } ≡ with_accepted v (leaf_in signature)
  unfolding with_accepted
  leaf_accepted own e = rw (e, own) refl

-- Check: the causes before the table, and the judging behind it
module _ (v : Verifier) (call : VerifyingCall) where
  abbrev before : List (Bool × ℕ)
  before = causes_before_table v call.message call.signature call.work

  abbrev after : List (Bool × ℕ)
  after = judge_causes v call.message call.signature

  -- document 01's list
  causes : verify_code v call ≡ first_cause (before ++ after)
  unfolding verify_code causes_before_root
  causes =
      let list : List (Bool × ℕ) = table_causes v.profile (length call.work) in
      let order : List (Bool × ℕ) = verify_causes v (length call.message) call.signature in
      ap first_cause
      (append_assoc list (order ++ ((few v call.message call.signature, 19) ∷ [])) ((differs v call.message call.signature, 15) ∷ [])
      ∙ sym (append_assoc list order after))

  -- none of the causes before the table leaves it
  early : Avoids leaves_table before
  early =
      avoids_append leaves_table (table_causes v.profile (length call.work)) (verify_causes v (length call.message) call.signature)
      (table-early v.profile (length call.work)) (refl, (refl, (refl, (refl, tt))))

  -- the steps are made exactly for success and 15
  same_steps : verify_code v call ≡ judge_code v call.message call.signature → judge_steps v call.message call.signature ≡ steps_made v call
  unfolding judge_code judge_steps steps_made
  same_steps rest = rw rest (which (few v call.message call.signature) (differs v call.message call.signature))
    where
      which : (small other : Bool)
          → cond small 0 (steps_in v call.message call.signature)
          ≡ (let k = first_cause ((small, 19) ∷ (other, 15) ∷ []) in cond (eqb k 0 || eqb k 15) (steps_in v call.message call.signature) 0)
      which true other = refl
      which false true = refl
      which false false = refl

  module _ {work' : List ℕ} {r : Result (List ℕ) Refusal} (fills : Fills v call.message call.signature call.work work' r) where
    pub verify_refused : {cause : Refusal} {left : Verifier} {answer : Verdict} → r ≡ Err cause → outcome_code answer.outcome ≡ code cause → left ≡ v
        → answer.steps ≡ 0 → Verifies v call work' left answer
    unfolding verifier_after steps_made
    verify_refused was told same none =
        let refuses = refused before after early causes fills.code was in
        let kept : work' ≡ call.work = rw was at fills.kept in
        record {
          code = told ∙ refuses.answer;
          verifier = same ∙ rw refuses.some refl;
          steps = none ∙ rw (refuses.some, refuses.not_fifteen) refl;
          table = kept ∙ refuses.untouched v.profile.shape call.work;
        }

    pub verify_judged : {counted : List ℕ} {left : Verifier} {answer : Verdict} → r ≡ Ok counted → Judges v call.message call.signature left answer
        → Verifies v call work' left answer
    unfolding verifier_after judge_code
    verify_judged was judged =
        let rest : verify_code v call ≡ judge_code v call.message call.signature = (granted before after early causes fills.code was).rest in
        let filled : work' ≡ with_table v.profile.shape call.work = rw was at fills.filled in
        record {
          code = judged.code ∙ sym rest;
          verifier = judged.verifier ∙ rw rest;
          steps = judged.steps ∙ same_steps rest;
          table = table-left after (refl, (refl, tt)) rest v.profile.shape call.work filled;
        }

    -- the judging behind those causes answers what Check does
    pub verify_behind : {left : Verifier} {answer : Verdict} → JudgesBehind r v call.message call.signature left answer → Verifies v call work' left answer
    verify_behind {left} {answer} judged = by r refl judged
      where
        by : (s : Result (List ℕ) Refusal) → r ≡ s → JudgesBehind s v call.message call.signature left answer → Verifies v call work' left answer
        by (Ok counted) was behind = verify_judged was behind.granted
        by (Err cause) was behind = verify_refused was behind.code behind.verifier behind.steps
