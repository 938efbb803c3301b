-- A good order whose leaf is marked is signed, and orders that are reserved and signed in turn are issued, one for each, as long as a leaf is left.
use mathlib.Core.Path.{◌≡◌, refl, ap, ◌∙◌}
use mathlib.Core.Bool.{true, false}
use mathlib.Core.List.{List, [], ◌∷◌, map}
use Prim.Native.Nat.{ℕ, zero, suc, ◌+◌, ◌^◌, ◌≤◌, ◌<◌}
use native.Mathlib.Nat.{add-zero}
use native.Mathlib.Omega.{arith}
use borrow.Author.Tests.{le-ltb, eq-eqb}
use lib.ListN.{length, get_or}
use Rattle.refusal.proofs.Causes.{none_then}
use Rattle.profile.specs.declared.Profile.{Profile}
use Rattle.profile.proofs.Limits.{inside}
use Rattle.counts.specs.Counts.{count}
use Rattle.counts.specs.Table.{table_causes}
use Rattle.counts.proofs.Room.{table-numbered}
use Rattle.message.specs.Message.{count_too_small}
use Rattle.signature.specs.Signature.{outside_text, signature_length}
use Rattle.signing_key.specs.Counter.{mark_counts, reserved, counter_after}
use Rattle.signing_key.specs.Key.{key_with}
use Rattle.signing_key.specs.declared.Counter.{Counter}
use Rattle.signing_key.specs.declared.SigningKey.{SigningKey}
use Rattle.signing_key.proofs.CounterLaws.{reserved-marked, cleared-unmarked, reserve-granted, reserve-spent}
use Rattle.signer.specs.Signing.{leaf_to_sign}
use Rattle.signer.specs.Operations.{sign_code, key_after}
use Rattle.claims.specs.Issuing.{GoodOrder, CanSign, each_in_turn, OrdersIssued}
use Rattle.claims.specs.Orders.{OrderCall, Issued, signed_by, issued_by, given_along, state_along, key_handed_back, given_by, issued, leaf_of, Every}
use Rattle.claims.specs.Orders.KeyCall.{reserve, sign}
use Rattle.claims.proofs.Accepted.{table_none}
use Rattle.claims.proofs.Made.{sign-made, made-read}

-- a good order, at a key with a marked leaf
module _ (key : SigningKey) (can : CanSign key.profile) (mark : mark_counts (2 ^ key.profile.height) key.counter ≡ true)
    (c : OrderCall) (good : GoodOrder key.profile c) where
  pub good_granted : sign_code key c.call ≡ 0
  unfolding sign_code outside_text count_too_small
  good_granted =
      let p = key.profile in
      let words = length c.call.work in
      none_then (table_causes p words) _ (table_none p words can.passes good.long_work) (table-numbered p words)
      ∙ rw (
        inside 1 200 (length c.call.message) good.some_text good.short_text,
        le-ltb (length c.call.out) (signature_length p) good.long_output,
        mark,
        le-ltb (count p.shape) 256 can.large,
      )

  pub good_issues : issued_by key c.call ≡ signed_by key c.call ∷ []
  unfolding issued_by
  good_issues = rw good_granted

  -- with the marked leaf
  pub good_leaf : leaf_of (signed_by key c.call) ≡ leaf_to_sign key
  good_leaf =
      let made = (sign-made key c (eq-eqb (sign_code key c.call) 0 good_granted)).1 in
      (made-read key.profile key.seed key.secret (leaf_to_sign key) (signed_by key c.call) made).own_leaf

-- one order after another
module _ (p : Profile) (seed secret : List ℕ) (can : CanSign p) where
  -- the next leaf is n, and none is marked
  abbrev counter_at : ℕ → Counter
  counter_at n = record { next = n; mark = false }

  no_mark : (n : ℕ) → mark_counts (2 ^ p.height) (counter_at n) ≡ false
  no_mark n = cleared-unmarked (2 ^ p.height) (counter_at n)

  -- the key then, and once that leaf is reserved
  abbrev key_at : ℕ → SigningKey
  key_at n = key_with p seed secret (counter_at n)

  abbrev marked_at : ℕ → SigningKey
  marked_at n = key_with p seed secret (reserved (counter_at n))

  -- while a leaf is left
  module _ (n : ℕ) (left : n < 2 ^ p.height) where
    marks : key_handed_back (key_at n) reserve ≡ marked_at n
    unfolding key_handed_back counter_after
    marks = cc (reserve-granted p (counter_at n) can.passes (record { no_mark = no_mark n; left = left }))

    module _ (c : OrderCall) (good : GoodOrder p c) where
      abbrev one : Issued
      one = signed_by (marked_at n) c.call

      marked : mark_counts (2 ^ p.height) (marked_at n).counter ≡ true
      marked = reserved-marked (2 ^ p.height) (counter_at n) left

      clears : key_handed_back (marked_at n) (sign c) ≡ key_at (n + 1)
      unfolding key_handed_back key_after
      clears = rw (good_granted (marked_at n) can marked c good)

      gives : given_by (marked_at n) (sign c) ≡ one ∷ []
      unfolding given_by
      gives = good_issues (marked_at n) can marked c good

      one_leaf : leaf_of one ≡ n
      one_leaf = omega (arith, good_leaf (marked_at n) can marked c good)

      -- the first order, and those behind it
      first-issued : (orders : List OrderCall) → issued (key_at n) (each_in_turn (c ∷ orders)) ≡ one ∷ issued (key_at (n + 1)) (each_in_turn orders)
      unfolding each_in_turn given_along given_by
      first-issued orders = rw (marks, gives, clears)

      first-left : (orders : List OrderCall)
          → state_along key_handed_back (key_at n) (each_in_turn (c ∷ orders)) ≡ state_along key_handed_back (key_at (n + 1)) (each_in_turn orders)
      unfolding each_in_turn state_along
      first-left orders = ap (λ key. state_along key_handed_back key (each_in_turn orders)) (rw marks clears)

  -- what orders issue from the key whose next leaf is n
  record IssuedFrom (n : ℕ) (orders : List OrderCall) (all : List Issued) : Type 0 where
    number : length all ≡ length orders
    leaves : (i : ℕ) → i < length orders → get_or (map leaf_of all) i 0 ≡ n + i
    texts : map (λ one. one.message) all ≡ map (λ c. c.call.message) orders

  -- an order in front of those from the next leaf on
  one_more : (n : ℕ) (one : Issued) (c : OrderCall) (all : List Issued) (orders : List OrderCall) → leaf_of one ≡ n → one.message ≡ c.call.message
      → IssuedFrom (n + 1) orders all → IssuedFrom n (c ∷ orders) (one ∷ all)
  one_more n one c all orders leaf text more = record { number = rw more.number; leaves = at; texts = rw (text, more.texts) }
    where
      at : (i : ℕ) → i < suc (length orders) → get_or (map leaf_of (one ∷ all)) i 0 ≡ n + i
      at zero h = omega arith
      at (suc i) h = omega (arith, more.leaves i (omega arith))

  all-issued : (orders : List OrderCall) (n : ℕ) → Every (GoodOrder p) orders → n + length orders ≤ 2 ^ p.height
      → IssuedFrom n orders (issued (key_at n) (each_in_turn orders))
      × (state_along key_handed_back (key_at n) (each_in_turn orders) ≡ key_at (n + length orders))
  unfolding each_in_turn given_along state_along signed_by
  all-issued [] n good few = (record { number = refl; leaves = λ i h. absurd (omega arith); texts = refl }, rw add-zero)
  all-issued (c ∷ orders) n good few =
      let left : n < 2 ^ p.height = omega arith in
      let rest = all-issued orders (n + 1) good.1 (omega arith) in
      let sum : (n + 1) + length orders ≡ n + suc (length orders) = omega arith in (
        rw (first-issued n left c good.0 orders)
            (one_more n (one n left c good.0) c (issued (key_at (n + 1)) (each_in_turn orders)) orders (one_leaf n left c good.0) refl rest.0),
        first-left n left c good.0 orders ∙ rest.1 ∙ rw sum,
      )

pub orders-issued : OrdersIssued
orders-issued p seed secret can orders good few =
    let all = all-issued p seed secret can orders 0 good (omega arith) in
    let after = key_at p seed secret can (0 + length orders) in
    record {
      number = all.0.number;
      leaves = λ i h. omega (arith, all.0.leaves i h);
      texts = all.0.texts;
      then_spent = λ full. rw all.1 (reserve-spent p after.counter can.passes (no_mark p seed secret can (0 + length orders)) (omega arith));
    }
