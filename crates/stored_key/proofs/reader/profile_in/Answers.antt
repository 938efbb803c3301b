-- Each part of the profile from its place.
use Rattle.std.proofs.Common.{◌∙◌}
use Rattle.stored_key.proofs.ReadAnswer.{sum-behind, profile-behind}
use Rattle.stored_key.proofs.reader.profile_in.Goals as goal

pub returns : goal.returns
returns c =
    let sum = c.from-3.ensures ∙ c.from_be_bytes.ensures ∙ sum-behind c.args.bytes.now c.requires c.array_at.ensures in
    rw (c.from.ensures, c.from-2.ensures, c.from-4.ensures) (profile-behind c.args.bytes.now c.requires sum c.edition_of.ensures)
