-- FIPS 180-4, sections 5.1.1, 5.2.1 and 6.2: the digest of a whole list of bytes.
use Rattle.std.specs.Prelude.{List, ◌∷◌, ◌++◌, ℕ, zero, suc, ◌-◌, ◌*◌, ◌/◌, ◌%◌, length, take, drop, replicate}
use Rattle.octets.specs.Bytes.{to_bytes}
use Rattle.sha256_block.specs.Compression.{compress, initial}
use Rattle.sha256_block.specs.declared.compression.HashWords.{HashWords}

-- 5.1.1, for n bytes: the bit 1 and seven bits 0, then the fewest zero bytes that leave 8 bytes to the end of a block, then the 8-byte
-- number of bits
unfoldable pub padding : ℕ → List ℕ
padding n = 128 ∷ replicate ((119 - n % 64) % 64) 0 ++ to_bytes 8 (8 * n)

-- 6.2.2: the hash value after the first n blocks of the bytes
unfoldable pub compress_blocks : ℕ → HashWords → List ℕ → HashWords
compress_blocks zero v bytes = v
compress_blocks (suc n) v bytes = compress_blocks n (compress v (take 64 bytes)) (drop 64 bytes)

-- the hash value after every whole block of the bytes
unfoldable pub compress_all : HashWords → List ℕ → HashWords
compress_all v bytes = compress_blocks (length bytes / 64) v bytes

-- 6.2: the final hash value of a message
unfoldable pub final_words : List ℕ → HashWords
final_words message = compress_all initial (message ++ padding (length message))

-- the 32 bytes of a hash value
unfoldable pub word_bytes : HashWords → List ℕ
word_bytes v =
    to_bytes 4 v.a ++ (to_bytes 4 v.b ++ (to_bytes 4 v.c ++ (to_bytes 4 v.d
    ++ (to_bytes 4 v.e ++ (to_bytes 4 v.f ++ (to_bytes 4 v.g ++ to_bytes 4 v.h))))))

-- 6.2: the message digest
unfoldable pub digest : List ℕ → List ℕ
digest message = word_bytes (final_words message)
