-- Document 01, Tree, key and cabinet, with document 02, points 3, 4 and 6: a cabinet, and how it reads a signature.
use Rattle.std.specs.Prelude.{Bool, true, false, ◌&&◌, List, [], ◌∷◌, ℕ, eqb}
use Rattle.profile.specs.declared.Profile.{Profile}
use Rattle.signature.specs.Signature.{leaf_in, random_in, values_in, siblings_in}
use Rattle.codewords.specs.Operations.{row_of}
use Rattle.tweak.specs.Tweak.{first_domain}
use Rattle.chains.specs.Leaves.{chains_of, steps_left}
use Rattle.tree.specs.Tree.{recovered_root}
use Rattle.message.specs.Message.{message_number}
use Rattle.window.specs.Window.{fresh_window, taken}
use Rattle.verifier.specs.declared.Verifier.{Verifier}

-- document 02, point 4: "Fresh now means no mark set, with highest 0"
abbrev pub fresh_verifier : Profile → (seed root : List ℕ) → Verifier
fresh_verifier p seed root = record { profile = p; seed = seed; root = root; window = fresh_window }

-- the cabinet that has accepted a leaf: its window has taken it
unfoldable pub with_accepted : Verifier → (leaf : ℕ) → Verifier
with_accepted v leaf = record { profile = v.profile; seed = v.seed; root = v.root; window = taken v.window leaf }

-- the message number, by the edition and the root that the cabinet holds, with the leaf and R that the signature has
unfoldable pub number_in : Verifier → (message signature : List ℕ) → ℕ
number_in v message signature = message_number v.profile (leaf_in signature) (random_in signature) v.seed v.root message

-- the row of that number
abbrev pub row_in : Verifier → (message signature : List ℕ) → List ℕ
row_in v message signature = row_of v.profile.shape (number_in v message signature)

-- the root that a signature leads to under the cabinet's seed, over any row: in layer 0 and tree 0
unfoldable pub root_along : Verifier → (row signature : List ℕ) → List ℕ
root_along v row signature =
    recovered_root (first_domain v.seed) (chains_of v.profile.shape) v.profile.height (leaf_in signature) row
    (values_in v.profile signature) (siblings_in v.profile signature)

-- over the row of the message's number
abbrev pub root_in : Verifier → (message signature : List ℕ) → List ℕ
root_in v message signature = root_along v (row_in v message signature) signature

-- "A chain step is one type 0 hash; the steps reported are those made": the sum over the chains
abbrev pub steps_in : Verifier → (message signature : List ℕ) → ℕ
steps_in v message signature = steps_left (chains_of v.profile.shape) (row_in v message signature)

-- whether two byte strings are the same
unfoldable pub same_bytes : List ℕ → List ℕ → Bool
same_bytes [] [] = true
same_bytes [] (y ∷ ys) = false
same_bytes (x ∷ xs) [] = false
same_bytes (x ∷ xs) (y ∷ ys) = eqb x y && same_bytes xs ys
