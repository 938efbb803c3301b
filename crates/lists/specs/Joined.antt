-- Values joined (document 01, Chains and leaves: "the l tops joined").
use Rattle.std.specs.Prelude.{List, [], ◌++◌, ℕ, zero, suc}

-- f 0, …, f (n − 1), joined
unfoldable pub join_to : (ℕ → List ℕ) → ℕ → List ℕ
join_to f zero = []
join_to f (suc n) = join_to f n ++ f n
