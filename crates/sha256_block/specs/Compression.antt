-- FIPS 180-4, section 6.2.2: one block.
use Rattle.std.specs.Prelude.{ℕ, zero, suc, ◌-◌, List, [], ◌∷◌, ◌++◌, length, take, drop, slice_index, slice_index_or}
use Rattle.octets.specs.Bytes.{from_bytes}
use Rattle.sha256_block.specs.Functions.{◌⊞◌, Ch, Maj, Σ₀, Σ₁, σ₀, σ₁}
use Rattle.sha256_block.specs.Constants.{round_words, initial_words}
use Rattle.sha256_block.specs.declared.compression.HashWords.{HashWords}

-- 3.1, 5.2.1: the first n words of the bytes, each of four bytes, most significant first
unfoldable pub words_of : ℕ → List ℕ → List ℕ
words_of zero bytes = []
words_of (suc n) bytes = from_bytes (take 4 bytes) ∷ words_of n (drop 4 bytes)

-- step 1: W_t from the words before it, for t from 16 on
unfoldable pub next_word : ℕ → List ℕ → ℕ
next_word t ws = σ₁ (slice_index ws (t - 2)) ⊞ slice_index_or ws (t - 7) 0 ⊞ σ₀ (slice_index ws (t - 15)) ⊞ slice_index_or ws (t - 16) 0

-- n words more
unfoldable pub extend : ℕ → List ℕ → List ℕ
extend zero ws = ws
extend (suc n) ws = let before = extend n ws in before ++ (next_word (length before) before ∷ [])

-- step 1: the message schedule W_0, …, W_63 of a block of 64 bytes
unfoldable pub schedule : List ℕ → List ℕ
schedule block = extend 48 (words_of 16 block)

-- step 3: one round on the working variables, with K_t and W_t
unfoldable pub round : HashWords → ℕ → ℕ → HashWords
round v k w =
    let t₁ = v.h ⊞ Σ₁ v.e ⊞ Ch v.e v.f v.g ⊞ k ⊞ w in
    let t₂ = Σ₀ v.a ⊞ Maj v.a v.b v.c in
    record { a = t₁ ⊞ t₂; b = v.a; c = v.b; d = v.c; e = v.d ⊞ t₁; f = v.e; g = v.f; h = v.g }

-- step 3: the first n rounds with the schedule ws
unfoldable pub rounds : ℕ → HashWords → List ℕ → HashWords
rounds zero v ws = v
rounds (suc n) v ws = round (rounds n v ws) (slice_index round_words n) (slice_index ws n)

-- step 4: the words added one by one
unfoldable pub add_words : HashWords → HashWords → HashWords
add_words x y =
    record {
      a = x.a ⊞ y.a;
      b = x.b ⊞ y.b;
      c = x.c ⊞ y.c;
      d = x.d ⊞ y.d;
      e = x.e ⊞ y.e;
      f = x.f ⊞ y.f;
      g = x.g ⊞ y.g;
      h = x.h ⊞ y.h;
    }

-- steps 1 to 4: the hash value after a block of 64 bytes
unfoldable pub compress : HashWords → List ℕ → HashWords
compress v block = add_words (rounds 64 v (schedule block)) v

-- the hash value of eight words, in order
unfoldable pub hash_words : List ℕ → HashWords
hash_words ws =
    record {
      a = slice_index ws 0;
      b = slice_index ws 1;
      c = slice_index ws 2;
      d = slice_index ws 3;
      e = slice_index ws 4;
      f = slice_index ws 5;
      g = slice_index ws 6;
      h = slice_index ws 7;
    }

-- 5.3.3: H(0)
unfoldable pub initial : HashWords
initial = hash_words initial_words
