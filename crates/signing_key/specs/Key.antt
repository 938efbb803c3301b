-- Document 01: "A key holds profile, both seeds and its next leaf", with document 02, point 5: and a mark.
use Rattle.std.specs.Prelude.{List, ℕ}
use Rattle.profile.specs.declared.Profile.{Profile}
use Rattle.signing_key.specs.Counter.{fresh_counter, counter_after, cleared}
use Rattle.signing_key.specs.Operations.{reserve_code}
use Rattle.signing_key.specs.declared.Counter.{Counter}
use Rattle.signing_key.specs.declared.SigningKey.{SigningKey}

-- a key with these seeds, and its leaves counted so
abbrev pub key_with : Profile → (seed secret : List ℕ) → Counter → SigningKey
key_with p seed secret c = record { profile = p; seed = seed; secret = secret; counter = c }

-- a fresh key of any profile and seeds
abbrev pub fresh_key : Profile → (seed secret : List ℕ) → SigningKey
fresh_key p seed secret = key_with p seed secret fresh_counter

-- a key with its leaves counted otherwise, the rest the same
abbrev pub recounted : SigningKey → Counter → SigningKey
recounted key c = key_with key.profile key.seed key.secret c

-- the key that Reserve leaves
abbrev pub reserved_key : SigningKey → SigningKey
reserved_key key = recounted key (counter_after (reserve_code key.profile key.counter) key.counter)

-- "a restart … with the mark cleared"
abbrev pub restarted_key : SigningKey → SigningKey
restarted_key key = recounted key (cleared key.counter)
