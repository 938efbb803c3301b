-- Lists without repetition.
use Rattle.std.specs.Prelude.{◌≡◌, List, ℕ, ◌<◌, length, get_or}

-- no two places of the list hold the same; d stands past its end, where the definition does not look
abbrev pub Distinct : {A : Type 0} → (d : A) → List A → Type 0
Distinct d l = (i j : ℕ) → i < j → j < length l → get_or l i d ≡ get_or l j d → ⊥
