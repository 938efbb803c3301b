-- The example of document 01, computed from the definitions: "Input 1003030003 prints in full".
use mathlib.Core.Path.{refl}
use Rattle.octets.specs.Bytes.{from_bytes, to_bytes}
use Rattle.lists.specs.Joined.{join_to}
use Rattle.hex_lines.specs.Hex.{hex_digit, hex_of, line_of, digit_of, behind, read_line}
use Rattle.profile.specs.Checks.{shape_causes}
use Rattle.counts.specs.Counts.{sum_to, share, D, count}
use Rattle.counts.specs.Table.{table_length}
use Rattle.counts.specs.Operations.{count_causes}
use Rattle.codewords.specs.Codeword.{place, codeword}
use Rattle.listing.specs.Listing.{request_of, request_in, row_line, row_lines, table_words, listing_code, answer_to, listing_of, Example}

pub example : Example
unfolding from_bytes to_bytes join_to hex_digit hex_of line_of digit_of behind read_line shape_causes sum_to share D count table_length count_causes place codeword
    request_of request_in row_line row_lines table_words listing_code answer_to listing_of
example = refl
