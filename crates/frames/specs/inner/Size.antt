-- What inner functions say of frames: how many bytes each has, and where their lines end.
use Rattle.std.specs.Prelude.{◌≡◌, List, [], ◌∷◌, ℕ, ◌+◌, ◌*◌, ◌≤◌, length}
use Rattle.frames.specs.Frames.{Frame}
use Rattle.frames.specs.declared.Size.{Size}

-- how many bytes a frame has: the fixed ones, and behind them
pub record HasSize (f : Frame) (r : Size) : Type 0 where
  pub fixed : r.fixed ≡ length f.head
  pub low : r.low ≡ f.low
  pub high : r.high ≡ f.high
  pub few : r.fixed ≤ 7
  pub short : r.high ≤ 200

-- the place behind a frame's line that begins at `at`
abbrev pub behind_frame : (at : ℕ) → Frame → ℕ
behind_frame at f = at + 2 * (length f.head + f.high) + 1

-- the place behind the lines of frames
unfoldable pub behind_all : (at : ℕ) → List Frame → ℕ
behind_all at [] = at
behind_all at (f ∷ fs) = behind_all (behind_frame at f) fs
