-- The profile's line of a sheet is its frame alone.
use Rattle.sheet_reader.proofs.OtherProfile.{profile-line}
use Rattle.claims.proofs.profile_line.Goals as goal

pub returns : goal.returns
returns c = profile-line
