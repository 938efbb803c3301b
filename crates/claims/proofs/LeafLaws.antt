-- What the list theorems know of the leaves of a tree, of those that a cabinet still takes and of the leaf that a key has marked: no other law of theirs opens
-- `leaf_beyond`, `with_accepted` or `counter_after`, of `passed` they know the laws of `window` alone, and of `mark_counts` those of `signing_key`.
use mathlib.Core.Path.{◌≡◌, refl, sym, ◌∙◌}
use mathlib.Core.Bool.{Bool, true, false, ◌||◌, true≢false}
use mathlib.Core.List.{List}
use Prim.Native.Nat.{ℕ, ◌+◌, ◌^◌, ◌<◌, ◌≤◌}
use native.Mathlib.Nat.{le_refl}
use native.Mathlib.Omega.{arith}
use borrow.Author.Tests.{lt-leb}
use lib.Dec.{eqb}
use Rattle.lists.proofs.Tests.{neither}
use Rattle.profile.specs.Checks.{leaf_beyond}
use Rattle.profile.specs.declared.Profile.{Profile}
use Rattle.signing_key.specs.Counter.{fresh_counter, mark_counts, reserved, cleared, counter_after}
use Rattle.signing_key.specs.Operations.{reserve_code}
use Rattle.signing_key.specs.Key.{fresh_key, recounted, reserved_key}
use Rattle.signing_key.specs.declared.Counter.{Counter}
use Rattle.signing_key.specs.declared.SigningKey.{SigningKey}
use Rattle.signing_key.proofs.CounterLaws.{cleared-unmarked}
use Rattle.window.specs.Window.{fresh_window, passed}
use Rattle.window.proofs.WindowLaws.{passed_none, behind, behind-other, not_behind, passed-after}
use Rattle.verifier.specs.Verifying.{fresh_verifier, with_accepted}
use Rattle.verifier.specs.declared.Verifier.{Verifier}

-- a leaf of the tree is not beyond it
pub leaf_inside : (h leaf : ℕ) → leaf < 2 ^ h → leaf_beyond h leaf ≡ false
unfolding leaf_beyond
leaf_inside h leaf low = lt-leb (2 ^ h) leaf low

-- a leaf that a cabinet does not call passed
abbrev pub Free : Verifier → (leaf : ℕ) → Type 0
Free v leaf = passed v.window leaf ≡ false

module _ (p : Profile) (seed root : List ℕ) where
  -- a cabinet with this profile, public seed and root
  pub record CabinetOf (v : Verifier) : Type 0 where
    pub same-profile : v.profile ≡ p
    pub same_seed : v.seed ≡ seed
    pub same-root : v.root ≡ root

  pub fresh-cabinet : CabinetOf (fresh_verifier p seed root)
  fresh-cabinet = record { same-profile = refl; same_seed = refl; same-root = refl }

  pub fresh-passes-none : (leaf : ℕ) → Free (fresh_verifier p seed root) leaf
  fresh-passes-none leaf = passed_none fresh_window leaf refl

  module _ (v : Verifier) (leaf : ℕ) where
    pub accepted-cabinet : CabinetOf v → CabinetOf (with_accepted v leaf)
    unfolding with_accepted
    accepted-cabinet of = record { same-profile = of.same-profile; same_seed = of.same_seed; same-root = of.same-root }

-- once a leaf was taken
module _ (v : Verifier) (leaf x : ℕ) (free : Free v leaf) where
  now-passed : passed (with_accepted v leaf).window x ≡ (passed v.window x || behind leaf x)
  unfolding with_accepted
  now-passed = passed-after v.window leaf x free

  -- one that is not passed is another, and was not passed before
  pub free-before : Free (with_accepted v leaf) x → Free v x × (leaf ≡ x → ⊥)
  free-before none =
      let parts = neither (passed v.window x) (behind leaf x) (sym now-passed ∙ none) in
      (parts.0, λ same. behind-other leaf x parts.1 (sym same))

  -- another that was not passed is passed only where the leaf is 32 or more above it
  pub free-after : Free v x → (leaf ≡ x → ⊥) → leaf < x + 32 → Free (with_accepted v leaf) x
  free-after none other near = now-passed ∙ rw (none, not_behind leaf x (λ same. other (sym same)) near)

module _ (p : Profile) (seed secret : List ℕ) where
  -- a key with this profile and these seeds
  pub record KeyOf (key : SigningKey) : Type 0 where
    pub same-profile : key.profile ≡ p
    pub same_seed : key.seed ≡ seed
    pub same_secret : key.secret ≡ secret

  -- one that signs with no leaf below n: its next leaf is n or more, and so is a marked one
  pub record KeyFrom (key : SigningKey) (n : ℕ) : Type 0 where
    pub of : KeyOf key
    pub reached : n ≤ key.counter.next
    pub unsigned : mark_counts (2 ^ p.height) key.counter ≡ true → n < key.counter.next

  pub fresh-of : KeyOf (fresh_key p seed secret)
  fresh-of = record { same-profile = refl; same_seed = refl; same_secret = refl }

  pub recounted-of : (key : SigningKey) (c : Counter) → KeyOf key → KeyOf (recounted key c)
  recounted-of key c of = record { same-profile = of.same-profile; same_seed = of.same_seed; same_secret = of.same_secret }

  pub fresh-from : KeyFrom (fresh_key p seed secret) 0
  fresh-from = record { of = fresh-of; reached = le_refl 0; unsigned = λ e. absurd (true≢false (sym e ∙ cleared-unmarked (2 ^ p.height) fresh_counter)) }

  module _ (key : SigningKey) (n : ℕ) where
    -- Reserve, granted, marks the next leaf; refused, it changes nothing
    pub reserved-from : KeyFrom key n → KeyFrom (reserved_key key) n
    unfolding counter_after
    reserved-from from = by (eqb (reserve_code key.profile key.counter) 0) refl
      where
        by : (granted : Bool) → eqb (reserve_code key.profile key.counter) 0 ≡ granted → KeyFrom (reserved_key key) n
        by true e = rw e (record {
          of = recounted-of key (reserved key.counter) from.of;
          reached = omega (arith, from.reached);
          unsigned =
              λ m. omega (arith, from.reached);
        })
        by false e = rw e (record { of = recounted-of key key.counter from.of; reached = from.reached; unsigned = from.unsigned })

    -- a key that has signed: its next leaf is above the one that it used, and none is marked
    pub cleared-from : KeyOf key → KeyFrom (recounted key (cleared key.counter)) key.counter.next
    cleared-from of =
        record {
          of = recounted-of key (cleared key.counter) of;
          reached = le_refl key.counter.next;
          unsigned = λ e. absurd (true≢false (sym e ∙ cleared-unmarked (2 ^ p.height) key.counter));
        }
