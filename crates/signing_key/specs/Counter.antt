-- Document 02, point 5: "Reserve marks the next leaf and advances the key". What of a key counts its leaves, and what Reserve does to it,
-- over any number of leaves.
use Rattle.std.specs.Prelude.{◌≡◌, Bool, true, false, not, ◌&&◌, cond, List, [], ◌∷◌, ℕ, ◌+◌, ◌-◌, eqb, leb, Result}
use Rattle.refusal.specs.Code.{outcome_code, first_cause}
use Rattle.refusal.specs.declared.Refusal.{Refusal}
use Rattle.profile.specs.Checks.{outside}
use Rattle.signing_key.specs.declared.Counter.{Counter}

-- "Fresh means 0 in that field", the next leaf; "A fresh key has no mark"
abbrev pub fresh_counter : Counter
fresh_counter = record { next = 0; mark = false }

-- "A mark counts only with a next leaf of 1 to 2^h", and otherwise is "met as none": of so many leaves
unfoldable pub mark_counts : (leaves : ℕ) → Counter → Bool
mark_counts leaves c = c.mark && not (outside 1 leaves c.next)

-- the marked leaf: Reserve has advanced the key past it
abbrev pub marked_leaf : Counter → ℕ
marked_leaf c = c.next - 1

-- "12 next leaf not below 2^h"
unfoldable pub spent : (leaves : ℕ) → Counter → Bool
spent leaves c = leb leaves c.next

-- "Reserve marks the next leaf and advances the key"
abbrev pub reserved : Counter → Counter
reserved c = record { next = c.next + 1; mark = true }

-- without its mark: sign "clears the mark", and so does "a restart from the stored frame with the mark cleared"
abbrev pub cleared : Counter → Counter
cleared c = record { next = c.next; mark = false }

-- "21 when reserve finds a mark, before 12"
abbrev pub counter_causes : (leaves : ℕ) → Counter → List (Bool × ℕ)
counter_causes leaves c = (mark_counts leaves c, 21) ∷ (spent leaves c, 12) ∷ []

-- the code of the first of them that holds, behind a code so far: what is refused stays refused
unfoldable pub counter_code : (checked leaves : ℕ) → Counter → ℕ
counter_code checked leaves c = cond (eqb checked 0) (first_cause (counter_causes leaves c)) checked

-- the counter that is left with the number of a cause, or 0: refused, as it came, an idle mark included
unfoldable pub counter_after : (number : ℕ) → Counter → Counter
counter_after number c = cond (eqb number 0) (reserved c) c

-- the answer with that number, and the counter that is left with it
pub record AnswersWith (number : ℕ) (c c' : Counter) {A : Type 0} (r : Result A Refusal) : Type 0 where
  pub code : outcome_code r ≡ number
  pub counter : c' ≡ counter_after number c
