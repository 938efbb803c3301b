-- Document 01, Trial values: those marked *, each as what the definitions give and what the document says.
use Rattle.std.specs.Prelude.{◌≡◌, List, [], ◌∷◌, map, ℕ, replicate}
use Rattle.profile.specs.declared.Shape.{Shape}
use Rattle.counts.specs.Counts.{count}
use Rattle.counts.specs.Operations.{count_code}
use Rattle.codewords.specs.Codeword.{codeword, rank}
use Rattle.codewords.specs.Operations.{unrank_code, rank_code}
use Rattle.chains.specs.Leaves.{chains_of, steps_left}

-- l chains of width w with sum s
abbrev shape : (l w s : ℕ) → Shape
shape l w s = record { chains = l; width = w; sum = s }

-- a row for an output
abbrev row3 : List ℕ
row3 = replicate 3 0

-- a work slice that is long enough for the shapes below
abbrev work : List ℕ
work = replicate 160 0

-- what the definitions give, and what the document says
abbrev pub Value : Type 0
Value = record { given : List ℕ; said : List ℕ }

-- the values marked *
unfoldable pub trials : List Value
trials =
    -- l = 3, w = 3, s = 3: the count, four rows and numbers, three refusals
    record { given = count (shape 3 3 3) ∷ []; said = 7 ∷ [] }
    ∷ record { given = codeword 3 3 3 0; said = 0 ∷ 1 ∷ 2 ∷ [] }
    ∷ record { given = codeword 3 3 3 3; said = 1 ∷ 1 ∷ 1 ∷ [] }
    ∷ record { given = codeword 3 3 3 6; said = 2 ∷ 1 ∷ 0 ∷ [] }
    ∷ record { given = rank 3 3 (2 ∷ 0 ∷ 1 ∷ []) ∷ []; said = 5 ∷ [] }
    ∷ record { given = unrank_code (shape 3 3 3) 7 work row3 ∷ []; said = 7 ∷ [] }
    ∷ record { given = rank_code (shape 3 3 3) (1 ∷ 2 ∷ 1 ∷ []) work ∷ []; said = 10 ∷ [] }
    ∷ record { given = rank_code (shape 3 3 3) (3 ∷ 0 ∷ 0 ∷ []) work ∷ []; said = 9 ∷ [] }
    -- l = 1, w = 16, s = 15: one row, no step
    ∷ record { given = count (shape 1 16 15) ∷ []; said = 1 ∷ [] }
    ∷ record { given = codeword 16 1 15 0; said = 15 ∷ [] }
    ∷ record { given = steps_left (chains_of (shape 1 16 15)) (codeword 16 1 15 0) ∷ []; said = 0 ∷ [] }
    -- l = 4, w = 2, s = 2
    ∷ record { given = count (shape 4 2 2) ∷ []; said = 6 ∷ [] }
    ∷ record { given = codeword 2 4 2 2; said = 0 ∷ 1 ∷ 1 ∷ 0 ∷ [] }
    ∷ record { given = codeword 2 4 2 3; said = 1 ∷ 0 ∷ 0 ∷ 1 ∷ [] }
    -- l = 3, w = 3: the largest sum, and one more
    ∷ record { given = count (shape 3 3 6) ∷ []; said = 1 ∷ [] }
    ∷ record { given = count_code (shape 3 3 7) work ∷ []; said = 3 ∷ [] }
    ∷ []

-- each is what the document says
abbrev pub TrialValues : Type 0
TrialValues = map (λ (v : Value). v.given) trials ≡ map (λ (v : Value). v.said) trials
