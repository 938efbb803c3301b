-- A cabinet's window says, after every list of checks, exactly which leaves were accepted, and 14 is what it says.
use mathlib.Core.Path.{◌≡◌, refl}
use mathlib.Core.Bool.{Bool, true, false}
use mathlib.Core.List.{List, [], ◌∷◌, ◌++◌, append_assoc, append-nil, map, map-append}
use mathlib.Core.Logic.{◌↔◌}
use Prim.Native.Nat.{ℕ}
use borrow.Author.Tests.{eqb-true}
use lib.Dec.{eqb, lit<}
use lib.ListN.{length, take}
use Rattle.refusal.specs.Code.{first_cause}
use Rattle.refusal.proofs.Causes.{without-append, cause_answers}
use Rattle.counts.specs.Counts.{count}
use Rattle.counts.specs.Table.{table_causes}
use Rattle.counts.proofs.Room.{table-numbered}
use Rattle.message.specs.Message.{count_too_small}
use Rattle.window.specs.Window.{passed}
use Rattle.window.specs.History.{History}
use Rattle.window.proofs.HistoryLaws.{fresh_history, taken_history}
use Rattle.verifier.specs.Verifying.{fresh_verifier, with_accepted}
use Rattle.verifier.specs.Operations.{VerifyingCall, verify_causes, verify_code, verifier_after}
use Rattle.verifier.specs.declared.Verifier.{Verifier}
use Rattle.claims.specs.Orders.{given_along, state_along}
use Rattle.claims.specs.Arrivals.{accepted_by, accepted, leaf_checked}
use Rattle.claims.specs.History.{cabinet_after, leaves_accepted, causes_before_fourteen, WindowHistory}
use Rattle.claims.proofs.AcceptedOnce.{accepted-free}
use Rattle.claims.proofs.Bits.{table-without, verify_last, verify_causes_lem}

-- one check more: what it accepts is behind what was accepted before
module _ (v : Verifier) (before : List ℕ) (c : VerifyingCall) (was : History before v.window) where
  checked_history : History (before ++ map leaf_checked (accepted_by v c)) (verifier_after v c).window
  unfolding accepted_by verifier_after with_accepted
  checked_history = by (eqb (verify_code v c) 0) refl
    where
      by : (granted : Bool) → eqb (verify_code v c) 0 ≡ granted → History (before ++ map leaf_checked (accepted_by v c)) (verifier_after v c).window
      by true e = rw e (taken_history before v.window (leaf_checked c) was (accepted-free v c (eqb-true _ 0 e)))
      by false e = rw (e, append-nil) was

-- all that is accepted in a list, behind what was before
history_along : (calls : List VerifyingCall) (v : Verifier) (before : List ℕ) → History before v.window
    → History (before ++ leaves_accepted v calls) (cabinet_after v calls).window
unfolding given_along state_along
history_along [] v before was = rw append-nil was
history_along (c ∷ calls) v before was =
    let rest = history_along calls (verifier_after v c) (before ++ map leaf_checked (accepted_by v c)) (checked_history v before c was) in
    rw (map-append leaf_checked (accepted_by v c) (accepted (verifier_after v c) calls), ← append_assoc) rest

-- 14, by the window
module _ (v : Verifier) (call : VerifyingCall) where
  abbrev first : List (Bool × ℕ)
  first = table_causes v.profile (length call.work)

  abbrev own : List (Bool × ℕ)
  own = take 3 (verify_causes v (length call.message) call.signature)

  abbrev later : List (Bool × ℕ)
  later = (count_too_small (count v.profile.shape), 19) ∷ verify_last v call

  refused-by-window : (verify_code v call ≡ 14)
      ↔ ((first_cause (causes_before_fourteen v call) ≡ 0) × (passed v.window (leaf_checked call) ≡ true))
  refused-by-window =
      rw (verify_causes_lem v call, ← append_assoc first own)
      (cause_answers (first ++ own) later (passed v.window (leaf_checked call)) 14
      (without-append 0 first own (table-numbered v.profile (length call.work)) (refl, (refl, (refl, tt))))
      (without-append 14 first own (table-without 14 v.profile (length call.work) (lit< tt) (lit< tt)) (refl, (refl, (refl, tt))))
      (refl, (refl, tt)) (lit< tt))

pub window_history : WindowHistory
window_history =
    record {
      window = λ p seed root calls. history_along calls (fresh_verifier p seed root) [] fresh_history;
      fourteen = λ p seed root calls call.
          let fresh = fresh_verifier p seed root in
          let refused = refused-by-window (cabinet_after fresh calls) call in
          let says = (history_along calls fresh [] fresh_history).passes (leaf_checked call) in
          (λ e. ((refused.0 e).0, says.0 (refused.0 e).1), λ holds. refused.1 (holds.0, says.1 holds.1));
    }
