-- The answer to the request that the line is.
use Rattle.std.proofs.Common.{◌≡◌, sym}
use Rattle.hex_lines.specs.Hex.{read_line}
use Rattle.listing.specs.Input.{line_read}
use Rattle.listing.specs.Listing.{request_in, answer_to, work_after, listing_of}
use Rattle.listing.proofs.listing.Goals as goal

pub returns-in-Err : goal.returns-in-Err
unfolding listing_of answer_to work_after
returns-in-Err c =
    let asked : request_in (read_line (line_read c.args.input)) ≡ _ = sym c.in-Err.ensures in
    let written = c.write_refusal.ensures in
    record { length_given = rw asked written.0; printed = rw asked written.1; table = rw asked }

pub returns-in-Ok : goal.returns-in-Ok
unfolding listing_of
returns-in-Ok c =
    let asked : request_in (read_line (line_read c.args.input)) ≡ _ = sym c.in-Ok.ensures in
    let written = c.write_answer.ensures in
    record { length_given = rw asked written.0; printed = rw asked written.1; table = rw asked written.2 }
