-- FIPS 180-4's example "abc", computed from the definitions.
use mathlib.Core.Path.{◌≡◌, refl}
use mathlib.Core.List.{[], ◌∷◌}
use Rattle.octets.specs.Bytes.{from_bytes, to_bytes}
use Rattle.sha256_block.specs.Functions.{◌⊞◌, complement, shr, shl, rotr, Ch, Maj, Σ₀, Σ₁, σ₀, σ₁}
use Rattle.sha256_block.specs.Constants.{has_divisor, is_prime, primes_from, primes, root_from, whole_root, root_word, round_words, initial_words}
use Rattle.sha256_block.specs.Compression.{words_of, next_word, extend, schedule, round, rounds, add_words, compress, hash_words, initial}
use Rattle.sha256.specs.Digest.{padding, compress_blocks, compress_all, final_words, word_bytes, digest}

pub abc : to_bytes 32 0xba7816bf8f01cfea414140de5dae2223b00361a396177a9cb410ff61f20015ad ≡ digest (97 ∷ 98 ∷ 99 ∷ [])
unfolding from_bytes to_bytes ◌⊞◌ complement shr shl rotr Ch Maj Σ₀ Σ₁ σ₀ σ₁ has_divisor is_prime primes_from primes root_from whole_root root_word round_words
    initial_words words_of next_word extend schedule round rounds add_words compress hash_words initial padding compress_blocks compress_all final_words word_bytes
    digest
abc = refl
