-- The published example of SHA-256.
use Rattle.std.specs.Prelude.{◌≡◌, [], ◌∷◌}
use Rattle.octets.specs.Bytes.{to_bytes}
use Rattle.sha256.specs.Digest.{digest}

-- FIPS 180-4's example: the message "abc"
abbrev pub AbcDigest : Type 0
AbcDigest = to_bytes 32 0xba7816bf8f01cfea414140de5dae2223b00361a396177a9cb410ff61f20015ad ≡ digest (97 ∷ 98 ∷ 99 ∷ [])
