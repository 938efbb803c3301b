-- Document 02, point 4: what a window says of the leaves that were accepted, as a list, in the order in which they were.
use Rattle.std.specs.Prelude.{◌≡◌, true, ◌⊎◌, ◌↔◌, ℕ, ◌+◌, ◌^◌, ◌<◌, ◌≤◌}
use mathlib.Core.List.{List, [], Memᴰ}
use Rattle.window.specs.Window.{marked, passed}
use Rattle.window.specs.declared.Window.{Window}

-- "a leaf 32 or more below the highest, or one already accepted": 32 or more below the highest is so below any, since none is above it
abbrev pub PassedBy : (accepted : List ℕ) (x : ℕ) → Type 0
PassedBy accepted x = Memᴰ x accepted ⊎ ((a : ℕ) × Memᴰ a accepted × (x + 32 ≤ a))

-- a window that has accepted these leaves and no other (`List.Memᴰ` of the logic's library: a member of a list)
pub record History (accepted : List ℕ) (w : Window) : Type 0 where
  -- "its highest accepted leaf": it was accepted, and none above it. Where none was accepted, the window is fresh: "no mark set, with
  -- highest 0"
  pub highest : ((accepted ≡ []) × (w.highest ≡ 0) × (w.marks ≡ 0))
      ⊎ (Memᴰ w.highest accepted × ((a : ℕ) → Memᴰ a accepted → a ≤ w.highest))
  -- "mark i, from 0, says that the leaf i below the highest was accepted"
  pub marks : (i : ℕ) → i < 32 → (marked w.marks i ≡ true) ↔ ((a : ℕ) × Memᴰ a accepted × (a + i ≡ w.highest))
  -- "32 marks": there are no others
  pub few : w.marks < 2 ^ 32
  -- "14 now means …"
  pub passes : (x : ℕ) → (passed w x ≡ true) ↔ PassedBy accepted x
