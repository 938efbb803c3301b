-- What is passed once a leaf was taken: what was passed before, the leaf, and every leaf 32 or more below it.
use mathlib.Core.Path.{◌≡◌, refl, sym, ap, ◌∙◌}
use mathlib.Core.Bool.{Bool, true, false, ◌||◌, true≢false, and-false, or-true, or-false}
use mathlib.Core.Logic.{◌⊎◌, inl, inr}
use Prim.Native.Nat.{ℕ, ◌+◌, ◌-◌, ◌^◌, ◌<◌, ◌≤◌}
use native.Mathlib.Omega.{arith}
use borrow.Author.Tests.{eqb-true, eqb-false, ltb-true, ltb-false, le-leb, lt-leb, eq-eqb, ne_eqb}
use lib.Dec.{ltb, leb, eqb, lit<}
use Rattle.lists.proofs.Numbers.{lt_or_le}
use Rattle.lists.proofs.Tests.{neither}
use Rattle.window.specs.Window.{marked, passed, moved, taken}
use Rattle.window.specs.declared.Window.{Window}
use Rattle.window.proofs.MarkLaws.{marked-moved-own, marked-moved, unmarked-moved, marked-added-own, marked-added}

-- where no mark is set, no leaf is passed
pub passed_none : (w : Window) (x : ℕ) → w.marks ≡ 0 → passed w x ≡ false
unfolding passed
passed_none w x none = rw (eq-eqb w.marks 0 none)

module _ (w : Window) (x : ℕ) where
  -- a leaf above the highest is not passed
  pub passed-above : w.highest < x → passed w x ≡ false
  unfolding passed
  passed-above above = rw (lt-leb x w.highest above, and-false)

  module _ (some : w.marks ≡ 0 → ⊥) where
    -- one 32 or more below it is
    pub passed-far : x + 32 ≤ w.highest → passed w x ≡ true
    unfolding passed
    passed-far far = rw (ne_eqb w.marks 0 some, le-leb x w.highest (omega arith), le-leb 32 (w.highest - x) (omega arith))

    -- between them its mark decides
    pub passed-near : x ≤ w.highest → w.highest < x + 32 → passed w x ≡ marked w.marks (w.highest - x)
    unfolding passed
    passed-near within near = rw (ne_eqb w.marks 0 some, le-leb x w.highest within, lt-leb 32 (w.highest - x) (omega arith))

-- the leaf itself, and those 32 or more below it
abbrev pub behind : (leaf x : ℕ) → Bool
behind leaf x = eqb x leaf || leb (x + 32) leaf

module _ (leaf x : ℕ) where
  pub behind-own : x ≡ leaf → behind leaf x ≡ true
  behind-own own = rw (eq-eqb x leaf own)

  pub behind-far : x + 32 ≤ leaf → behind leaf x ≡ true
  behind-far far = rw (le-leb (x + 32) leaf far, or-true)

  pub behind-other : behind leaf x ≡ false → x ≡ leaf → ⊥
  behind-other none = eqb-false x leaf (neither (eqb x leaf) (leb (x + 32) leaf) none).0

  pub not_behind : (x ≡ leaf → ⊥) → leaf < x + 32 → behind leaf x ≡ false
  not_behind other near = rw (ne_eqb x leaf other, lt-leb (x + 32) leaf near)

-- a number is in one of four places about a leaf
data Place (leaf x : ℕ) : Type 0 where
  over : leaf < x → Place leaf x
  own : x ≡ leaf → Place leaf x
  near : x < leaf → leaf < x + 32 → Place leaf x
  far : x + 32 ≤ leaf → Place leaf x

place : (leaf x : ℕ) → Place leaf x
place leaf x = by (lt_or_le leaf x) (lt_or_le x leaf) (lt_or_le leaf (x + 32))
  where
    by : (leaf < x) ⊎ (x ≤ leaf) → (x < leaf) ⊎ (leaf ≤ x) → (leaf < x + 32) ⊎ (x + 32 ≤ leaf) → Place leaf x
    by (inl h) b c = over h
    by (inr h) (inr k) c = own (omega arith)
    by (inr h) (inl k) (inl n) = near k n
    by (inr h) (inl k) (inr n) = far n

-- a leaf not above the highest that is not passed: it is less than 32 below, and its mark is not set
module _ (w : Window) (leaf : ℕ) (some : w.marks ≡ 0 → ⊥) (within : leaf ≤ w.highest) (free : passed w leaf ≡ false) where
  pub near-highest : w.highest < leaf + 32
  near-highest = by (lt_or_le w.highest (leaf + 32))
    where
      by : (w.highest < leaf + 32) ⊎ (leaf + 32 ≤ w.highest) → w.highest < leaf + 32
      by (inl h) = h
      by (inr h) = absurd (true≢false (sym (passed-far w leaf some h) ∙ free))

  pub mark-free : marked w.marks (w.highest - leaf) ≡ false
  mark-free = sym (passed-near w leaf some within near-highest) ∙ free

module _ (w : Window) (leaf x : ℕ) where
  -- what is passed by a window that follows on w
  abbrev Law : Window → Type 0
  Law after = passed after x ≡ (passed w x || behind leaf x)

  -- the leaf becomes the highest, with mark 0 beside marks n that say of the leaves below it what was said before
  higher : (n : ℕ) → marked (n + 1) 0 ≡ true → (leaf < x → passed w x ≡ false) → ((i : ℕ) → 0 < i → i < 32 → x + i ≡ leaf → marked (n + 1) i ≡ passed w x)
      → Law (record { highest = leaf; marks = n + 1 })
  higher n first none same = by (place leaf x)
    where
      some : n + 1 ≡ 0 → ⊥
      some e = omega arith

      by : Place leaf x → Law (record { highest = leaf; marks = n + 1 })
      by (over h) = passed-above _ x h ∙ rw (none h, not_behind leaf x (omega arith) (omega arith))
      by (own e) =
          passed-near _ x some (omega arith) (omega arith) ∙ rw (behind-own leaf x e, or-true) (ap (marked (n + 1)) (omega arith) ∙ first)
      by (near h k) =
          passed-near _ x some (omega arith) (omega arith) ∙ same (leaf - x) (omega arith) (omega arith) (omega arith)
          ∙ rw (not_behind leaf x (omega arith) k, or-false)
      by (far h) = passed-far _ x some h ∙ rw (behind-far leaf x h, or-true)

  -- no mark is set
  alone : w.marks ≡ 0 → Law (record { highest = leaf; marks = 1 })
  unfolding marked moved
  alone none =
      higher 0 refl (λ h. passed_none w x none)
      (λ i some small reached. unmarked-moved 0 32 (lit< tt) i some small small ∙ sym (passed_none w x none))

  module _ (some : w.marks ≡ 0 → ⊥) where
    -- a leaf above the highest
    module _ (above : w.highest < leaf) where
      abbrev up : ℕ
      up = leaf - w.highest

      same-below : (i : ℕ) → 0 < i → i < 32 → x + i ≡ leaf → marked (moved w.marks up + 1) i ≡ passed w x
      same-below i later small reached = by (lt_or_le w.highest x)
        where
          by : (w.highest < x) ⊎ (x ≤ w.highest) → marked (moved w.marks up + 1) i ≡ passed w x
          by (inl h) = unmarked-moved w.marks up (omega arith) i later (omega arith) small ∙ sym (passed-above w x h)
          by (inr h) =
              let down : i - up ≡ w.highest - x = omega arith in
              marked-moved w.marks up (omega arith) i (omega arith) small ∙ ap (marked w.marks) down ∙ sym (passed-near w x some h (omega arith))

      raised : Law (record { highest = leaf; marks = moved w.marks up + 1 })
      raised = higher (moved w.marks up) (marked-moved-own w.marks up (omega arith)) (λ h. passed-above w x (omega arith)) same-below

    -- a leaf not above it, which is not passed
    module _ (within : leaf ≤ w.highest) (free : passed w leaf ≡ false) where
      not_marked : marked w.marks (w.highest - leaf) ≡ false
      not_marked = mark-free w leaf some within free

      -- where the highest is less than 32 above x, marks decide
      decided : x ≤ w.highest → w.highest < x + 32 → (own : Bool) → eqb x leaf ≡ own
          → marked (w.marks + 2 ^ (w.highest - leaf)) (w.highest - x) ≡ (marked w.marks (w.highest - x) || behind leaf x)
      decided h k true test =
          let e = eqb-true x leaf test in
          rw (behind-own leaf x e, or-true, e) (marked-added-own w.marks (w.highest - leaf) not_marked)
      decided h k false test =
          let other = eqb-false x leaf test in
          marked-added w.marks (w.highest - leaf) not_marked (w.highest - x) (omega (arith, other))
          ∙ rw (not_behind leaf x other (omega arith), or-false)

      abbrev Added : Type 0
      Added = Law (record { highest = w.highest; marks = w.marks + 2 ^ (w.highest - leaf) })

      added : Added
      added = by (place w.highest x)
        where
          more : w.marks + 2 ^ (w.highest - leaf) ≡ 0 → ⊥
          more e = some (omega arith)

          inside : x ≤ w.highest → w.highest < x + 32 → Added
          inside h k = passed-near _ x more h k ∙ rw (passed-near w x some h k) (decided h k (eqb x leaf) refl)

          by : Place w.highest x → Added
          by (over h) = passed-above _ x h ∙ rw (passed-above w x h, not_behind leaf x (omega arith) (omega arith))
          by (own e) = inside (omega arith) (omega arith)
          by (near h k) = inside (omega arith) k
          by (far k) = passed-far _ x more k ∙ rw (passed-far w x some k)

  -- the law of the window: passed is what was passed before, the leaf, and every leaf 32 or more below it
  pub passed-after : passed w leaf ≡ false → passed (taken w leaf) x ≡ (passed w x || behind leaf x)
  unfolding taken
  passed-after free = by (eqb w.marks 0) (ltb w.highest leaf) refl refl
    where
      by : (none above : Bool) → eqb w.marks 0 ≡ none → ltb w.highest leaf ≡ above → Law (taken w leaf)
      by true above e f = rw e (alone (eqb-true w.marks 0 e))
      by false true e f = rw (e, f) (raised (eqb-false w.marks 0 e) (ltb-true w.highest leaf f))
      by false false e f = rw (e, f) (added (eqb-false w.marks 0 e) (ltb-false w.highest leaf f) free)
