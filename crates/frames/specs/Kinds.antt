-- Document 01, Sheet: "kind byte first", 01 to 06; document 02, point 5: 07, the stored key.
use Rattle.std.specs.Prelude.{ℕ}
use Rattle.frames.specs.declared.Kind.{Kind}
use Rattle.frames.specs.declared.Kind.TheVariants as kind

-- the byte that a frame of a kind begins with
abbrev pub kind_byte : Kind → ℕ
kind_byte kind.Profile = 1
kind_byte kind.Leaf = 2
kind_byte kind.Randomizer = 3
kind_byte kind.Value = 4
kind_byte kind.Sibling = 5
kind_byte kind.Text = 6
kind_byte kind.StoredKey = 7
