-- Document 02, point 4: "A cabinet shall keep its highest accepted leaf and 32 marks". Which leaves it still takes, and what it keeps once
-- it has taken one.
use Rattle.std.specs.Prelude.{Bool, not, ◌&&◌, ◌||◌, cond, ℕ, ◌+◌, ◌-◌, ◌*◌, ◌/◌, ◌%◌, ◌^◌, ltb, leb, eqb}
use Rattle.window.specs.declared.Window.{Window}

-- "mark i, from 0, says that the leaf i below the highest was accepted": the marks are one number of 32 bits, whose bit i is mark i
unfoldable pub marked : (marks i : ℕ) → Bool
marked marks i = eqb (marks / 2 ^ i % 2) 1

-- "Fresh now means no mark set, with highest 0"
abbrev pub fresh_window : Window
fresh_window = record { highest = 0; marks = 0 }

-- "14 now means a leaf 32 or more below the highest, or one already accepted"; but "A cabinet with no mark set takes any leaf"
unfoldable pub passed : Window → (leaf : ℕ) → Bool
passed w leaf =
    not (eqb w.marks 0) && (leb leaf w.highest && (leb 32 (w.highest - leaf) || marked w.marks (w.highest - leaf)))

-- a higher leaf moves the marks up by the difference; those at 32 or more fall away
unfoldable pub moved : (marks up : ℕ) → ℕ
moved marks up = marks * 2 ^ up % 2 ^ 32

-- What is kept once a leaf that is not passed was taken. "A cabinet with no mark set takes any leaf, which on acceptance is its highest,
-- alone marked". A leaf
-- above the highest becomes the highest, with mark 0 beside the marks moved up; for any other its own mark, which is not set, is added.
unfoldable pub taken : Window → (leaf : ℕ) → Window
taken w leaf =
    cond (eqb w.marks 0)
    (record { highest = leaf; marks = 1 })
    (cond (ltb w.highest leaf)
    (record { highest = leaf; marks = moved w.marks (leaf - w.highest) + 1 })
    (record { highest = w.highest; marks = w.marks + 2 ^ (w.highest - leaf) }))
