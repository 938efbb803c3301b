-- What inner functions say of a frame's bytes, the kind among them, and of the key that is found.
use Rattle.std.specs.Prelude.{Bool, ◌&&◌, cond, Option, Some, None, List, ◌∷◌, ◌++◌, ℕ, ◌+◌, ◌-◌, ltb, eqb, get_or}
use Rattle.octets.specs.Bytes.{to_bytes}
use Rattle.profile.specs.declared.Profile.{Profile}
use Rattle.frames.specs.Frames.{edition_byte}
use Rattle.signing_key.specs.declared.SigningKey.{SigningKey}
use Rattle.stored_key.specs.KeyFields.{next_field, mark_field, offset, key_length}
use Rattle.stored_key.specs.KeyFrame.{Stored, wrong_frame, stored}

-- where a field stands in a frame's bytes: the kind is in front of all
abbrev pub field_place : (field : ℕ) → ℕ
field_place field = 1 + offset field

-- how many bytes a frame has in edition 1
abbrev pub frame_length : ℕ
frame_length = 1 + key_length

-- how many of them stand behind the seeds
abbrev pub last_length : ℕ
last_length = key_length - offset next_field

-- in front of the seeds: the kind, and the profile but for its edition
abbrev pub front_bytes : Profile → List ℕ
front_bytes p = 7 ∷ p.shape.chains ∷ p.shape.width ∷ p.height ∷ to_bytes 2 p.shape.sum

-- behind the seeds: the next leaf, the mark, and the edition's byte
abbrev pub last_bytes : (next : ℕ) (mark : Bool) (edition : ℕ) → List ℕ
last_bytes next mark edition = to_bytes 4 next ++ (cond mark 1 0 ∷ edition_byte edition)

-- the kind, the mark and the edition's byte are right: edition 2 alone has the last
abbrev pub framed_test : (bytes : List ℕ) → Bool
framed_test bytes = eqb (get_or bytes 0 0) 7 && (ltb (get_or bytes (field_place mark_field) 0) 2 && eqb (get_or bytes frame_length 2) 2)

-- the key that is found, where the frame is right
unfoldable pub key_found : Stored → Option SigningKey
key_found wrong_frame = None
key_found (stored key) = Some key
