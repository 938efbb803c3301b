-- The first line, as a request.
use mathlib.Core.Path.{◌≡◌, refl, sym, ap, ◌∙◌}
use mathlib.Core.Bool.{false}
use mathlib.Core.List.{List}
use Prim.Native.Nat.{ℕ}
use native.Mathlib.Omega.{arith}
use borrow.Author.Tests.{eq-eqb, ne_eqb}
use lib.ListN.{length, get_or, take, drop, length-drop}
use lib.Seq.{take_all}
use Rattle.std.specs.Prelude.{Ok, Err}
use Rattle.octets.specs.Bytes.{from_bytes}
use Rattle.refusal.specs.declared.Refusal.TheVariants.{SheetLine}
use Rattle.hex_lines.specs.inner.Digits.{has_bytes}
use Rattle.hex_lines.specs.Hex.{Line, wrong, right}
use Rattle.profile.specs.declared.Shape.{Shape}
use Rattle.listing.specs.Listing.{request_of, request_in}

-- a line that has not five bytes
pub not_five : (l : Line) → has_bytes 5 l ≡ false → request_in l ≡ Err (SheetLine 1)
unfolding has_bytes request_in request_of
not_five wrong e = refl
not_five (right bytes rest) e = rw e

module _ {l : Line} (bytes : List ℕ) {rest : List ℕ} (e : l ≡ right bytes rest) where
  pub other_kind : (get_or bytes 0 0 ≡ 16 → ⊥) → length bytes ≡ 5 → request_in l ≡ Err (SheetLine 1)
  unfolding request_in request_of
  other_kind kind five = rw (e, eq-eqb (length bytes) 5 five, ne_eqb (get_or bytes 0 0) 16 kind)

  pub asked : (shape : Shape) → get_or bytes 0 0 ≡ 16 → length bytes ≡ 5 → shape.chains ≡ get_or bytes 1 0 → shape.width ≡ get_or bytes 2 0
      → shape.sum ≡ from_bytes (take 4 (take 2 (drop 3 bytes)))
      → request_in l ≡ Ok shape
  unfolding request_in request_of
  asked shape kind five chains width sum =
      let rest : take 2 (drop 3 bytes) ≡ drop 3 bytes = take_all 2 (drop 3 bytes) (omega (arith, length-drop 3 bytes)) in
      let last : take 4 (drop 3 bytes) ≡ drop 3 bytes = take_all 4 (drop 3 bytes) (omega (arith, length-drop 3 bytes)) in
      let all : from_bytes (drop 3 bytes) ≡ shape.sum = sym (sum ∙ ap (λ b. from_bytes (take 4 b)) rest ∙ ap from_bytes last) in
      rw (e, eq-eqb (length bytes) 5 five, eq-eqb (get_or bytes 0 0) 16 kind, all, ← chains, ← width) refl
