-- A line of five bytes, of which the first is the kind.
use Rattle.std.proofs.Common.{◌≡◌, true, false, get_or, sym, ◌∙◌, rules}
use Rattle.hex_lines.specs.Hex.{read_line}
use Rattle.listing.proofs.Requests.{not_five, other_kind, asked}
use Rattle.listing.proofs.read_request.Goals as goal

pub returns-in_err-refuse_if : goal.returns-in_err-refuse_if
returns-in_err-refuse_if c =
    let five : c.read_line.result ≡ false = search rules in
    rw (not_five (read_line c.args.input.now) (sym c.read_line.ensures.told ∙ five)) (search rules)

pub returns-in_err-refuse_if-2 : goal.returns-in_err-refuse_if-2
returns-in_err-refuse_if-2 c =
    let bytes = c.read_line.new.bytes in
    let five : c.read_line.result ≡ true = search rules in
    let kind : get_or bytes 0 0 ≡ 16 → ⊥ = search rules in
    rw (other_kind bytes (c.read_line.ensures.bytes five) kind c.read_line.auto.bytes) (search rules)

pub returns : goal.returns
returns c =
    let bytes = c.read_line.new.bytes in
    let five : c.read_line.result ≡ true = search rules in
    let kind : get_or bytes 0 0 ≡ 16 = search rules in
    sym (asked bytes (c.read_line.ensures.bytes five) (record { chains = c.from.result; width = c.from-2.result; sum = c.front_word.result }) kind
    c.read_line.auto.bytes c.from.ensures c.from-2.ensures c.front_word.ensures)
