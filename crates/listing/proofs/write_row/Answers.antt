-- The row stands behind the kind and the number.
use Rattle.std.proofs.Common.{arith, ◌≡◌, ◌∙◌, ◌/◌, ◌%◌, [], ◌∷◌, refl}
use Rattle.listing.proofs.Rows.{one_word, row_printed}
use Rattle.listing.proofs.write_row.Goals as goal

pub write_codeword-requires-clause-number_bound : goal.write_codeword-requires-clause-number_bound
write_codeword-requires-clause-number_bound c = omega (arith, one_word c.args.n, c.requires.1)

pub returns : goal.returns
returns c =
    let n = c.args.n in
    let high : n / 256 % 256 ≡ n / 256 = omega arith in
    let pair : c.copy_from_slice.new.self ≡ n / 256 ∷ n % 256 ∷ [] = c.copy_from_slice.ensures.after ∙ c.to_be_bytes.ensures ∙ rw high refl in
    let placed = rw pair at c.write_codeword.ensures in
    let line = row_printed c.args.limited.shape n (one_word n) c.requires.1 c.requires.2 placed in
    rw (← line) (rw pair at c.write_line.ensures)
