-- What each function of the C interface returns, writes through its pointers and leaves in the lent slices: the contract of its
-- operation, carried over. A record names the operation's answer, says that the operation's own contract holds of it, that its code
-- is what the call returns, and that its value is what the call writes: zeros where it is refused.
use Rattle.std.specs.Prelude.{◌≡◌, Bool, cond, List, [], ◌∷◌, ℕ, eqb, replicate, Result}
use Rattle.std.specs.Result.{result_unwrap_or}
use Rattle.refusal.specs.Code.{outcome_code, line_told}
use Rattle.refusal.specs.declared.Refusal.{Refusal}
use Rattle.numbers.specs.Number.{value}
use Rattle.numbers.specs.Order.{order_code, Compares}
use Rattle.numbers.specs.declared.number.Compared.{Compared}
use Rattle.sha256.specs.Digest.{digest}
use Rattle.sha256.specs.Running.{started, add_code}
use Rattle.profile.specs.declared.Shape.{Shape}
use Rattle.profile.specs.declared.Profile.{Profile}
use Rattle.signing_key.specs.Operations.{Reserves}
use Rattle.signing_key.specs.Key.{key_with, recounted}
use Rattle.signing_key.specs.declared.Counter.{Counter}
use Rattle.signing_key.specs.declared.SigningKey.{SigningKey}
use Rattle.counts.specs.Operations.{Counts}
use Rattle.codewords.specs.Operations.{Unranks, Ranks}
use Rattle.one_time.specs.Operations.{LeafKeys, Reveals, no_walk, Recovers}
use Rattle.chains.specs.declared.steps.Walked.{Walked}
use Rattle.tree.specs.Operations.{Roots}
use Rattle.signer.specs.Operations.{SigningCall, Signs}
use Rattle.verifier.specs.Operations.{VerifyingCall, Verifies}
use Rattle.verifier.specs.declared.Verifier.{Verifier}
use Rattle.verifier.specs.declared.Verdict.{Verdict}
use Rattle.sheet_reader.specs.Operations.{ReadsSheet}
use Rattle.sheet_writer.specs.Operations.{WritesSheet}
use Rattle.stored_key.specs.Operations.{WritesKey, no_key, ReadsKey}

-- a shape by its three numbers
abbrev pub shape_of : (l w s : ℕ) → Shape
shape_of l w s = record { chains = l; width = w; sum = s }

-- a profile by its five numbers
abbrev pub profile_of : (l w s h edition : ℕ) → Profile
profile_of l w s h edition = record { shape = shape_of l w s; height = h; edition = edition }

-- the five numbers of a profile
abbrev pub numbers_of : Profile → List ℕ
numbers_of p = p.shape.chains ∷ p.shape.width ∷ p.shape.sum ∷ p.height ∷ p.edition ∷ []

-- a counter by its next leaf and the word of its mark: a mark is the word 1, and every other word is none
abbrev pub counter_of : (next mark : ℕ) → Counter
counter_of next mark = record { next = next; mark = eqb mark 1 }

-- a key by its fields
abbrev pub signing_key_of : Profile → (seed secret : List ℕ) (next mark : ℕ) → SigningKey
signing_key_of p seed secret next mark = key_with p seed secret (counter_of next mark)

-- what a mark is written as
abbrev pub mark_word : Bool → ℕ
mark_word mark = cond mark 1 0

-- what a call that changes a mark leaves of its word: refused, the word as it was
abbrev pub mark_left : (code old : ℕ) (mark : Bool) → ℕ
mark_left code old mark = cond (eqb code 0) (mark_word mark) old

-- a cabinet by its fields
abbrev pub verifier_of : Profile → (seed root : List ℕ) (highest marks : ℕ) → Verifier
verifier_of p seed root highest marks =
    record { profile = p; seed = seed; root = root; window = record { highest = highest; marks = marks } }

-- "Hash, as start, add and finish", in one call: add's code on a started hash; granted, the digest, else 32 zero bytes
pub record HashCall (bytes digest' : List ℕ) (r : ℕ) : Type 0 where
  pub returned : r ≡ add_code started bytes
  pub written : digest' ≡ cond (eqb (add_code started bytes) 0) (digest bytes) (replicate 32 0)

-- Count
pub record CountCall (p : Shape) (work work' number' : List ℕ) (r : ℕ) : Type 0 where
  pub answer : Result (List ℕ) Refusal
  pub counts : Counts p work work' answer
  pub returned : r ≡ outcome_code answer
  pub written : number' ≡ result_unwrap_or answer (replicate 5 0)

-- Spread
pub record UnrankCall (p : Shape) (number work row work' row' : List ℕ) (r : ℕ) : Type 0 where
  pub answer : Result (Unit {0}) Refusal
  pub unranks : Unranks p (value number) work row work' row' answer
  pub returned : r ≡ outcome_code answer

-- Gather
pub record RankCall (p : Shape) (row work work' number' : List ℕ) (r : ℕ) : Type 0 where
  pub answer : Result (List ℕ) Refusal
  pub ranks : Ranks p row work work' answer
  pub returned : r ≡ outcome_code answer
  pub written : number' ≡ result_unwrap_or answer (replicate 5 0)

-- Compare, which nothing refuses (document 02, point 2): the number of the order, and the pairs looked at
pub record CompareCall (first second : List ℕ) (order' looked' r : ℕ) : Type 0 where
  pub answer : Compared
  pub compares : Compares first second answer
  pub returned : r ≡ 0
  pub order_written : order' ≡ order_code answer.order
  pub looked_written : looked' ≡ answer.looked

-- Leaf key
pub record LeafKeyCall (p : Profile) (seed secret : List ℕ) (leaf : ℕ) (key' : List ℕ) (r : ℕ) : Type 0 where
  pub answer : Result (List ℕ) Refusal
  pub leaf_keys : LeafKeys p seed secret leaf answer
  pub returned : r ≡ outcome_code answer
  pub written : key' ≡ result_unwrap_or answer (replicate 16 0)

-- Root
pub record RootCall (p : Profile) (seed secret root' : List ℕ) (r : ℕ) : Type 0 where
  pub answer : Result (List ℕ) Refusal
  pub roots : Roots p seed secret answer
  pub returned : r ≡ outcome_code answer
  pub written : root' ≡ result_unwrap_or answer (replicate 16 0)

-- Reveal
pub record RevealCall (p : Profile) (seed secret : List ℕ) (leaf : ℕ) (number work values work' values' : List ℕ) (r : ℕ) : Type 0 where
  pub answer : Result (Unit {0}) Refusal
  pub reveals : Reveals p seed secret leaf (value number) work values work' values' answer
  pub returned : r ≡ outcome_code answer

-- Recover
pub record RecoverCall (p : Profile) (seed : List ℕ) (leaf : ℕ) (number values work work' key' : List ℕ) (steps' r : ℕ) : Type 0 where
  pub answer : Result Walked Refusal
  pub recovers : Recovers p seed leaf (value number) values work work' answer
  pub returned : r ≡ outcome_code answer
  pub key_written : key' ≡ (result_unwrap_or answer no_walk).value
  pub steps_written : steps' ≡ (result_unwrap_or answer no_walk).steps

-- Reserve: next leaf and mark of the counter that it leaves are written back
pub record ReserveCall (p : Profile) (next mark next' mark' code : ℕ) : Type 0 where
  pub left : Counter
  pub answer : Result (Unit {0}) Refusal
  pub reserves : Reserves p (counter_of next mark) left answer
  pub returned : code ≡ outcome_code answer
  pub next_written : next' ≡ left.next
  pub mark_written : mark' ≡ mark_left code mark left.mark

-- Sign: the mark of the key that it leaves is written back, and the rest of that key is the rest of the key given
pub record SignCall (key : SigningKey) (call : SigningCall) (work' out' : List ℕ) (mark mark' code : ℕ) : Type 0 where
  pub left : SigningKey
  pub answer : Result (Unit {0}) Refusal
  pub signs : Signs key call work' out' left answer
  pub returned : code ≡ outcome_code answer
  pub mark_written : mark' ≡ mark_left code mark left.counter.mark
  pub key_kept : left ≡ recounted key (record { next = key.counter.next; mark = left.counter.mark })

-- Check: the highest leaf and the marks of the cabinet that it leaves are written back, and the rest of that cabinet is the rest of the
-- cabinet given
pub record VerifyCall (v : Verifier) (call : VerifyingCall) (work' : List ℕ) (highest' marks' steps' code : ℕ) : Type 0 where
  pub left : Verifier
  pub answer : Verdict
  pub verifies : Verifies v call work' left answer
  pub returned : code ≡ outcome_code answer.outcome
  pub verifier_kept : left ≡ verifier_of v.profile v.seed v.root highest' marks'
  pub steps_written : steps' ≡ answer.steps

-- Read sheet
pub record ReadSheetCall (p : Profile) (sheet signature message signature' message' : List ℕ) (written' line' r : ℕ) : Type 0 where
  pub answer : Result ℕ Refusal
  pub reads : ReadsSheet p sheet signature message signature' message' answer
  pub returned : r ≡ outcome_code answer
  pub length_written : written' ≡ result_unwrap_or answer 0
  pub line_written : line' ≡ line_told answer

-- Write sheet
pub record WriteSheetCall (p : Profile) (signature message sheet sheet' : List ℕ) (written' r : ℕ) : Type 0 where
  pub answer : Result ℕ Refusal
  pub writes : WritesSheet p signature message sheet sheet' answer
  pub returned : r ≡ outcome_code answer
  pub length_written : written' ≡ result_unwrap_or answer 0

-- Write key
pub record WriteKeyCall (key : SigningKey) (frame frame' : List ℕ) (written' r : ℕ) : Type 0 where
  pub answer : Result ℕ Refusal
  pub writes : WritesKey key frame frame' answer
  pub returned : r ≡ outcome_code answer
  pub length_written : written' ≡ result_unwrap_or answer 0

-- Read key: the profile as l, w, s, h, edition
pub record ReadKeyCall (frame fields' seed' secret' : List ℕ) (next' mark' line' r : ℕ) : Type 0 where
  pub answer : Result SigningKey Refusal
  pub reads : ReadsKey frame answer
  pub returned : r ≡ outcome_code answer
  pub fields_written : fields' ≡ numbers_of (result_unwrap_or answer no_key).profile
  pub seed_written : seed' ≡ (result_unwrap_or answer no_key).seed
  pub secret_written : secret' ≡ (result_unwrap_or answer no_key).secret
  pub next_written : next' ≡ (result_unwrap_or answer no_key).counter.next
  pub mark_written : mark' ≡ mark_word (result_unwrap_or answer no_key).counter.mark
  pub line_written : line' ≡ line_told answer
