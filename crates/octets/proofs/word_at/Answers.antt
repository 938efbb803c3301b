-- The library's number of four bytes is the definition's.
use Rattle.std.proofs.Common.{◌≡◌, ℕ, suc, ◌+◌, ◌≤◌, List, [], ◌∷◌, get_or, length, take, drop, sym, refl, ◌∙◌, ap, add-one, arith, drop-cons}
use native.Mathlib.Numerals.{add-two, add-three}
use Rattle.octets.specs.Bytes.{from_bytes}
use Rattle.octets.proofs.ByteLaws.{be_bytes}
use Rattle.octets.proofs.word_at.Goals as goal

-- four elements from an index on
four_at : (s : List ℕ) (at : ℕ) → at + 4 ≤ length s
    → take 4 (drop at s) ≡ get_or s at 0 ∷ get_or s (at + 1) 0 ∷ get_or s (at + 2) 0 ∷ get_or s (at + 3) 0 ∷ []
four_at s at h =
    rw (add-one, add-two, add-three, drop-cons s at 0 (omega arith), drop-cons s (suc at) 0 (omega arith), drop-cons s (suc (suc at)) 0 (omega arith), drop-cons s (suc (suc (suc at))) 0 (omega arith))

pub returns : goal.returns
returns c =
    let s = c.args.bytes.now in
    let at = c.args.at in
    c.from_be_bytes.ensures ∙ be_bytes (get_or s at 0 ∷ get_or s (at + 1) 0 ∷ get_or s (at + 2) 0 ∷ get_or s (at + 3) 0 ∷ []) refl
    ∙ ap from_bytes (sym (four_at s at c.requires))
