-- What a mark that counts tells, and what Reserve answers on each way out.
use mathlib.Core.Path.{◌≡◌, refl, sym, ◌∙◌}
use mathlib.Core.Bool.{Bool, true, false, not, ◌&&◌, true≢false}
use mathlib.Core.List.{[], ◌∷◌}
use Prim.Native.Nat.{ℕ, ◌+◌, ◌^◌, ◌≤◌, ◌<◌}
use native.Mathlib.Omega.{arith}
use borrow.Author.Tests.{leb-true, leb-false, le-leb, lt-leb}
use lib.Dec.{leb}
use Rattle.std.specs.Prelude.{Result, Ok, Err}
use Rattle.refusal.specs.Code.{outcome_code, first_cause}
use Rattle.refusal.specs.declared.Refusal.{Refusal}
use Rattle.refusal.proofs.Causes.{none_here, none_then, none-of-append, refused-number, refused_first, granted_first}
use Rattle.profile.specs.Checks.{outside, profile_causes, counted_leaves}
use Rattle.profile.specs.declared.Profile.{Profile}
use Rattle.profile.proofs.Limits.{inside, not_outside, profile-numbered, counted-leaves}
use Rattle.signing_key.specs.Counter.{mark_counts, spent, reserved, cleared, counter_causes, counter_code, counter_after}
use Rattle.signing_key.specs.Operations.{reserve_code}
use Rattle.signing_key.specs.declared.Counter.{Counter}

module _ (leaves : ℕ) (c : Counter) where
  -- a mark that counts: the marked leaf is one of so many
  pub mark-within : mark_counts leaves c ≡ true → (1 ≤ c.next) × (c.next ≤ leaves)
  unfolding mark_counts
  mark-within e = by c.mark (outside 1 leaves c.next) refl e
    where
      by : (m o : Bool) → outside 1 leaves c.next ≡ o → (m && not o) ≡ true → (1 ≤ c.next) × (c.next ≤ leaves)
      by m false q h = not_outside 1 leaves c.next q
      by true true q h = absurd (true≢false (sym h))
      by false true q h = absurd (true≢false (sym h))

  -- a counter without its mark has none that counts
  pub cleared-unmarked : mark_counts leaves (cleared c) ≡ false
  unfolding mark_counts
  cleared-unmarked = refl

  -- a leaf that is left is marked once it is reserved
  pub reserved-marked : c.next < leaves → mark_counts leaves (reserved c) ≡ true
  unfolding mark_counts
  reserved-marked left = rw (inside 1 leaves (c.next + 1) (omega arith) (omega arith))

  -- past the counter's causes there is no mark that counts, and a leaf is left
  pub record LeafLeft : Type 0 where
    pub no_mark : mark_counts leaves c ≡ false
    pub left : c.next < leaves

  pub leaf_left : first_cause (counter_causes leaves c) ≡ 0 → LeafLeft
  unfolding spent
  leaf_left e =
      let free = none_here (mark_counts leaves c) 21 ((spent leaves c, 12) ∷ []) refl e in
      record { no_mark = free.0; left = leb-false leaves c.next (none_here (spent leaves c) 12 [] refl free.1).0 }

-- the leaves that the code counts tell as 2^h does
pub mark-counted : (h : ℕ) (c : Counter) → c.next < 2 ^ 32 → mark_counts (counted_leaves h) c ≡ mark_counts (2 ^ h) c
unfolding mark_counts
mark-counted h c word = rw (counted-leaves h c.next word).1

module _ (p : Profile) (c : Counter) where
  -- behind what a profile's checks answered, over as many leaves as its tree has, the causes of the counter are those of Reserve
  pub checked-code : {A : Type 0} (r : Result A Refusal) {leaves : ℕ} → outcome_code r ≡ first_cause (profile_causes p)
      → (outcome_code r ≡ 0 → leaves ≡ 2 ^ p.height) → counter_code (outcome_code r) leaves c ≡ reserve_code p c
  unfolding counter_code reserve_code
  checked-code {A} (Ok value) checked counted =
      rw (counted refl) (sym (granted_first {A = A} {r = Ok value} (profile_causes p) (counter_causes (2 ^ p.height) c) {v = value} (profile-numbered p) refl checked))
  checked-code {A} (Err cause) checked counted =
      rw (refused-number {A = A} {r = Err cause} refl refl) (refused_first {A = A} {r = Err cause} (profile_causes p) (counter_causes (2 ^ p.height) c) refl checked)

  -- past the causes of Reserve the profile is within its limits, and a leaf is left
  pub can_reserve : reserve_code p c ≡ 0 → (first_cause (profile_causes p) ≡ 0) × LeafLeft (2 ^ p.height) c
  unfolding reserve_code
  can_reserve e =
      let both = none-of-append (profile_causes p) (counter_causes (2 ^ p.height) c) (profile-numbered p) e in
      (both.0, leaf_left (2 ^ p.height) c both.1)

  -- of a profile that passes its checks
  module _ (passed : first_cause (profile_causes p) ≡ 0) where
    reserve-counted : reserve_code p c ≡ first_cause (counter_causes (2 ^ p.height) c)
    unfolding reserve_code
    reserve-counted = none_then (profile_causes p) (counter_causes (2 ^ p.height) c) passed (profile-numbered p)

    pub reserve-granted : LeafLeft (2 ^ p.height) c → reserve_code p c ≡ 0
    unfolding spent
    reserve-granted free = reserve-counted ∙ rw (free.no_mark, lt-leb (2 ^ p.height) c.next free.left)

    pub reserve-spent : mark_counts (2 ^ p.height) c ≡ false → 2 ^ p.height ≤ c.next → reserve_code p c ≡ 12
    unfolding spent
    reserve-spent no_mark used = reserve-counted ∙ rw (no_mark, le-leb (2 ^ p.height) c.next used)

    -- unless the key is spent, a leaf is marked once Reserve has answered: by it, or before
    pub reserve-marks : (reserve_code p c ≡ 12 → ⊥) → mark_counts (2 ^ p.height) (counter_after (reserve_code p c) c) ≡ true
    unfolding counter_after spent
    reserve-marks unspent = by (mark_counts (2 ^ p.height) c) (leb (2 ^ p.height) c.next) refl refl
      where
        by : (mark used : Bool) → mark_counts (2 ^ p.height) c ≡ mark → leb (2 ^ p.height) c.next ≡ used
            → mark_counts (2 ^ p.height) (counter_after (reserve_code p c) c) ≡ true
        by true used m u = let code : reserve_code p c ≡ 21 = reserve-counted ∙ rw m in rw code m
        by false true m u = absurd (unspent (reserve-spent m (leb-true (2 ^ p.height) c.next u)))
        by false false m u =
            let left = leb-false (2 ^ p.height) c.next u in
            rw (reserve-granted (record { no_mark = m; left = left })) (reserved-marked (2 ^ p.height) c left)
