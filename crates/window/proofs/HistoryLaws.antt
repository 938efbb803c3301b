-- A window that takes leaves that it does not call passed says of each leaf what was accepted.
use mathlib.Core.Path.{◌≡◌, refl, sym, ap, ◌∙◌}
use mathlib.Core.Bool.{Bool, true, false, ◌||◌, true≢false, or-true}
use mathlib.Core.List.Memᴰ
use mathlib.Core.List.{List, [], ◌∷◌, ◌++◌, Memᴰ}
use mathlib.Core.Logic.{◌⊎◌, inl, inr, ◌↔◌}
use Prim.Native.Nat.{ℕ, ◌+◌, ◌-◌, ◌/◌, ◌%◌, ◌^◌, ◌<◌, ◌≤◌}
use native.Mathlib.Nat.{zero-div}
use native.Mathlib.Omega.{arith}
use borrow.Author.Tests.{eqb-true, eqb-false, ltb-true, ltb-false, leb-true}
use lib.Dec.{ltb, leb, eqb, lit<}
use Rattle.lists.proofs.Numbers.{lt_or_le}
use Rattle.lists.proofs.Tests.{either}
use Rattle.window.specs.Window.{marked, fresh_window, passed, moved, taken}
use Rattle.window.specs.History.{PassedBy, History}
use Rattle.window.specs.declared.Window.{Window}
use Rattle.window.proofs.MarkLaws.{moved-fits, marked-moved, unmarked-moved, added-fits, marked-added}
use Rattle.window.proofs.WindowLaws.{passed_none, passed-near, behind, behind-own, behind-far, near-highest, mark-free, passed-after}

-- where no mark is set
unmarked : (i : ℕ) → marked 0 i ≡ true → ⊥
unfolding marked
unmarked i set = omega (arith, zero-div (2 ^ i), eqb-true (0 / 2 ^ i % 2) 1 set)

pub fresh_history : History [] fresh_window
fresh_history =
    record {
      highest = inl (refl, refl, refl);
      marks = λ i small. (λ set. absurd (unmarked i set), λ found. absurd (Memᴰ.not-nil found.1));
      few = lit< tt;
      passes = λ x. (λ e. absurd (true≢false (sym e ∙ passed_none fresh_window x refl)), none x);
    }
  where
    none : (x : ℕ) → PassedBy [] x → passed fresh_window x ≡ true
    none x (inl m) = absurd (Memᴰ.not-nil m)
    none x (inr found) = absurd (Memᴰ.not-nil found.1)

-- of a window that has accepted leaves: the highest of them, and no mark for a leaf that there is not
record Topped (accepted : List ℕ) (w : Window) : Type 0 where
  some : w.marks ≡ 0 → ⊥
  top : Memᴰ w.highest accepted
  over : (a : ℕ) → Memᴰ a accepted → a ≤ w.highest
  quiet : (i : ℕ) → i < 32 → w.highest < i → marked w.marks i ≡ false
  few : w.marks < 2 ^ 32

-- where it is known what is passed, that is what the other marks say
module _ (accepted : List ℕ) (w : Window) (is : Topped accepted w) (passes : (x : ℕ) → (passed w x ≡ true) ↔ PassedBy accepted x) where
  abbrev Below : ℕ → Type 0
  Below i = (a : ℕ) × Memᴰ a accepted × (a + i ≡ w.highest)

  mark_said : (i : ℕ) → i < 32 → marked w.marks i ≡ true → Below i
  mark_said i small set = by (lt_or_le w.highest i)
    where
      near : i ≤ w.highest → PassedBy accepted (w.highest - i) → Below i
      near within (inl m) = (w.highest - i, m, omega arith)
      near within (inr found) = absurd (omega (arith, is.over found.0 found.1, found.2))

      by : (w.highest < i) ⊎ (i ≤ w.highest) → Below i
      by (inl above) = absurd (true≢false (sym set ∙ is.quiet i small above))
      by (inr within) =
          let back : w.highest - (w.highest - i) ≡ i = omega arith in
          near within
          ((passes (w.highest - i)).0
          (passed-near w (w.highest - i) is.some (omega arith) (omega arith) ∙ ap (marked w.marks) back ∙ set))

  said_mark : (i : ℕ) → i < 32 → Below i → marked w.marks i ≡ true
  said_mark i small found =
      let a = found.0 in
      let down : w.highest - a ≡ i = omega (arith, found.2) in
      sym (ap (marked w.marks) down) ∙ sym (passed-near w a is.some (omega (arith, found.2)) (omega (arith, found.2))) ∙ (passes a).1 (inl found.1)

  topped_history : History accepted w
  topped_history =
      record {
        highest = inr (is.top, is.over);
        marks = λ i small. (mark_said i small, said_mark i small);
        few = is.few;
        passes = passes;
      }

-- one more leaf is taken, which is not passed
module _ (before : List ℕ) (w : Window) (leaf : ℕ) (was : History before w) (free : passed w leaf ≡ false) where
  abbrev accepted : List ℕ
  accepted = before ++ (leaf ∷ [])

  still : {a : ℕ} → Memᴰ a before → Memᴰ a accepted
  still m = Memᴰ.append_left (leaf ∷ []) m

  own : Memᴰ leaf accepted
  own = Memᴰ.append_right before (Memᴰ.head refl)

  earlier_or_own : {a : ℕ} → Memᴰ a accepted → Memᴰ a before ⊎ (a ≡ leaf)
  earlier_or_own m = by (Memᴰ.append_cases before m)
    where
      by : {a : ℕ} → Memᴰ a before ⊎ Memᴰ a (leaf ∷ []) → Memᴰ a before ⊎ (a ≡ leaf)
      by (inl earlier) = inl earlier
      by (inr last) = inr (Memᴰ.eq_of_singleton last)

  -- by the law of the window
  module _ (x : ℕ) where
    law : passed (taken w leaf) x ≡ (passed w x || behind leaf x)
    law = passed-after w leaf x free

    passed_said : passed (taken w leaf) x ≡ true → PassedBy accepted x
    passed_said e = by (either (passed w x) (behind leaf x) (sym law ∙ e))
      where
        earlier : PassedBy before x → PassedBy accepted x
        earlier (inl m) = inl (still m)
        earlier (inr found) = inr (found.0, still found.1, found.2)

        now : (eqb x leaf ≡ true) ⊎ (leb (x + 32) leaf ≡ true) → PassedBy accepted x
        now (inl same) = inl (Memᴰ.cast (eqb-true x leaf same) own)
        now (inr far) = inr (leaf, own, omega (arith, leb-true (x + 32) leaf far))

        by : (passed w x ≡ true) ⊎ (behind leaf x ≡ true) → PassedBy accepted x
        by (inl e) = earlier ((was.passes x).0 e)
        by (inr e) = now (either (eqb x leaf) (leb (x + 32) leaf) e)

    said_earlier : PassedBy before x → passed (taken w leaf) x ≡ true
    said_earlier p = law ∙ rw ((was.passes x).1 p)

    said_now : behind leaf x ≡ true → passed (taken w leaf) x ≡ true
    said_now e = law ∙ rw (e, or-true)

    said_passed : PassedBy accepted x → passed (taken w leaf) x ≡ true
    said_passed (inl m) = by (earlier_or_own m)
      where
        by : Memᴰ x before ⊎ (x ≡ leaf) → passed (taken w leaf) x ≡ true
        by (inl m) = said_earlier (inl m)
        by (inr same) = said_now (behind-own leaf x same)
    said_passed (inr found) = by found.0 found.2 (earlier_or_own found.1)
      where
        by : (a : ℕ) → x + 32 ≤ a → Memᴰ a before ⊎ (a ≡ leaf) → passed (taken w leaf) x ≡ true
        by a far (inl m) = said_earlier (inr (a, m, far))
        by a far (inr same) = said_now (behind-far leaf x (omega arith))

  -- what was known of the window before
  none_before : w.marks ≡ 0 → {a : ℕ} → Memᴰ a before → ⊥
  none_before none {a} m = true≢false (sym ((was.passes a).1 (inl m)) ∙ passed_none w a none)

  module _ (some : w.marks ≡ 0 → ⊥) where
    top-before : Memᴰ w.highest before × ((a : ℕ) → Memᴰ a before → a ≤ w.highest)
    top-before = by was.highest
      where
        by : ((before ≡ []) × (w.highest ≡ 0) × (w.marks ≡ 0)) ⊎ (Memᴰ w.highest before × ((a : ℕ) → Memᴰ a before → a ≤ w.highest))
            → Memᴰ w.highest before × ((a : ℕ) → Memᴰ a before → a ≤ w.highest)
        by (inl fresh) = absurd (some fresh.2)
        by (inr top) = top

    -- the highest is at least every leaf before, and the one taken
    over-all : (n : ℕ) → w.highest ≤ n → leaf ≤ n → (a : ℕ) → Memᴰ a accepted → a ≤ n
    over-all n high low a m = by (earlier_or_own m)
      where
        by : Memᴰ a before ⊎ (a ≡ leaf) → a ≤ n
        by (inl m) = omega (arith, top-before.1 a m)
        by (inr same) = omega arith

  quiet-before : (i : ℕ) → i < 32 → w.highest < i → marked w.marks i ≡ false
  quiet-before i small above = by (marked w.marks i) refl
    where
      by : (set : Bool) → marked w.marks i ≡ set → marked w.marks i ≡ false
      by true e = let found = (was.marks i small).0 e in absurd (omega (arith, found.2))
      by false e = e

  -- the first leaf
  alone : w.marks ≡ 0 → Topped accepted (record { highest = leaf; marks = 1 })
  unfolding moved
  alone none =
      record {
        some = λ e. omega arith;
        top = own;
        over = λ a m. by a (earlier_or_own m);
        quiet = λ i small above. unmarked-moved 0 32 (lit< tt) i (omega arith) small small;
        few = lit< tt;
      }
    where
      by : (a : ℕ) → Memᴰ a before ⊎ (a ≡ leaf) → a ≤ leaf
      by a (inl m) = absurd (none_before none m)
      by a (inr same) = omega arith

  -- a leaf above the highest
  raised : (w.marks ≡ 0 → ⊥) → w.highest < leaf → Topped accepted (record { highest = leaf; marks = moved w.marks (leaf - w.highest) + 1 })
  raised some above =
      let up = leaf - w.highest in
      record {
        some = λ e. omega arith;
        top = own;
        over = over-all some leaf (omega arith) (omega arith);
        quiet = λ i small over. marked-moved w.marks up (omega arith) i (omega arith) small ∙ quiet-before (i - up) (omega arith) (omega arith);
        few = moved-fits w.marks up (omega arith);
      }

  -- a leaf not above it
  added : (w.marks ≡ 0 → ⊥) → leaf ≤ w.highest → Topped accepted (record { highest = w.highest; marks = w.marks + 2 ^ (w.highest - leaf) })
  added some within =
      let j = w.highest - leaf in
      let unset = mark-free w leaf some within free in
      let near = near-highest w leaf some within free in
      record {
        some = λ e. some (omega arith);
        top = still (top-before some).0;
        over = over-all some w.highest (omega arith) within;
        quiet = λ i small over. marked-added w.marks j unset i (λ same. omega arith) ∙ quiet-before i small over;
        few = added-fits w.marks j unset (omega arith) was.few;
      }

  taken_topped : Topped accepted (taken w leaf)
  unfolding taken
  taken_topped = by (eqb w.marks 0) (ltb w.highest leaf) refl refl
    where
      by : (none above : Bool) → eqb w.marks 0 ≡ none → ltb w.highest leaf ≡ above → Topped accepted (taken w leaf)
      by true above e f = rw e (alone (eqb-true w.marks 0 e))
      by false true e f = rw (e, f) (raised (eqb-false w.marks 0 e) (ltb-true w.highest leaf f))
      by false false e f = rw (e, f) (added (eqb-false w.marks 0 e) (ltb-false w.highest leaf f))

  pub taken_history : History accepted (taken w leaf)
  taken_history = topped_history accepted (taken w leaf) taken_topped (λ x. (passed_said x, said_passed x))
