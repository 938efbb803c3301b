-- The running hash that takes the tops of a leaf's chains one after another and ends as the leaf key, and the values that are shown of them.
use mathlib.Core.Path.{◌≡◌, ap, ◌∙◌}
use mathlib.Core.List.{List, ◌++◌, append-nil}
use Prim.Native.Nat.{ℕ, ◌+◌, ◌*◌, ◌<◌, ◌≤◌}
use native.Mathlib.Omega.{arith}
use lib.ListN.{length, take, length-append}
use Rattle.lists.specs.Joined.{join_to}
use Rattle.lists.proofs.Joins.{join_to-behind, length-join_to}
use Rattle.sha256.specs.Digest.{word_bytes}
use Rattle.sha256.specs.Running.{add_state, finished, hashed}
use Rattle.sha256.specs.declared.running.Hash.{Hash}
use Rattle.sha256.proofs.Joined.{more-taken}
use Rattle.tweak.specs.Tweak.{leaf_key_address, seed_block}
use Rattle.tweak.specs.declared.Domain.{Domain}
use Rattle.tweak.proofs.TweakLaws.{length-address, length_seed_block, length_tweaked, tweak_ended}
use Rattle.chains.specs.Leaves.{key_of_tops, leaf_key}
use Rattle.chains.specs.declared.Chains.{Chains}

pub length_leaf_key : (d : Domain) (chains : Chains) (secret : List ℕ) (leaf : ℕ) → length (leaf_key d chains secret leaf) ≡ 16
unfolding leaf_key key_of_tops
length_leaf_key d chains secret leaf = length_tweaked d _ _

-- what the running hash has taken after c tops, f 0, f 1, ..
abbrev pub taken : (d : Domain) (leaf : ℕ) → (ℕ → List ℕ) → ℕ → List ℕ
taken d leaf f c = seed_block d.seed ++ leaf_key_address d leaf ++ join_to f c

module _ (d : Domain) (leaf : ℕ) (f : ℕ → List ℕ) where
  -- before the first top
  pub no_top : {a : List ℕ} {hash : Hash} → a ≡ leaf_key_address d leaf → hash ≡ hashed (seed_block d.seed ++ a)
      → hash ≡ hashed (taken d leaf f 0)
  unfolding join_to
  no_top p e = e ∙ rw (p, append-nil)

  -- a top more
  pub top-more : (c n : ℕ) {top : List ℕ} {hash next : Hash} → length d.seed ≡ 16 → n ≤ 40 → c < n
      → ((i : ℕ) → i < n → length (f i) ≡ 16) → hash ≡ hashed (taken d leaf f c) → top ≡ f c → next ≡ add_state hash top → next ≡ hashed (taken d leaf f (c + 1))
  top-more c n long most low each e s absorbed =
      let front = seed_block d.seed ++ leaf_key_address d leaf in
      let before : length front ≡ 86 =
      length-append (seed_block d.seed) (leaf_key_address d leaf) ∙ rw (length_seed_block d.seed long, length-address d 1 leaf 0 0) in
      let tops : length (join_to f c) ≡ 16 * c = length-join_to f 16 c (λ i h. each i (omega arith)) in
      more-taken (front ++ join_to f c) (f c) (omega (arith, before, tops, length-append front (join_to f c), each c low)) e (rw s at absorbed)
      ∙ ap hashed (join_to-behind front f c)

  -- after the last top
  pub all_tops : (c n : ℕ) {hash : Hash} {r : List ℕ} → c ≡ n → hash ≡ hashed (taken d leaf f c) → r ≡ take 16 (word_bytes (finished hash).words)
      → r ≡ key_of_tops d leaf (join_to f n)
  unfolding key_of_tops
  all_tops c n last e ended = tweak_ended d (leaf_key_address d leaf) (join_to f n) (rw last at e) ended
