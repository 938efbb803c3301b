-- `profile_head` meets its contract: the last two bytes of the sum's four are those of the sum in two.
use Rattle.octets.specs.Bytes.{to_bytes}
use Rattle.frames.specs.Frames.{edition_byte}
use Rattle.frames.proofs.limited.LimitedProfile.profile_head.Goals as goal

pub returns : goal.returns
unfolding to_bytes edition_byte
returns c = rw c.word_bytes.ensures
