-- Numbers of several 32-bit words, least word first (document 01, Profile: "five 32-bit words, least word first").
use Rattle.std.specs.Prelude.{ℕ, zero, suc, ◌+◌, ◌*◌, ◌/◌, ◌%◌, ◌^◌, List, [], ◌∷◌}

-- the number that the words are, least word first
unfoldable pub value : List ℕ → ℕ
value [] = 0
value (x ∷ xs) = x + 2 ^ 32 * value xs

-- n in k words, least word first; of a larger n, its lowest k words
unfoldable pub to_words : ℕ → ℕ → List ℕ
to_words zero n = []
to_words (suc k) n = n % 2 ^ 32 ∷ to_words k (n / 2 ^ 32)
