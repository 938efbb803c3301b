-- Each part of the key from its place.
use Rattle.stored_key.proofs.ReadAnswer.{key-behind}
use Rattle.stored_key.proofs.reader.key_in.Goals as goal

pub returns : goal.returns
returns c = key-behind c.args.bytes.now c.requires c.profile_in-profile.ensures c.array_at.ensures c.array_at-2.ensures c.word_at.ensures c.mark_stands.ensures
