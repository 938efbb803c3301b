-- What does happen: orders are issued, one for each that is reserved and signed, as many as a key has leaves. Demand 3 and document 02,
-- points 4 and 5, speak of every signature that is issued, and hold of a desk too that issues none.
use Rattle.std.specs.Prelude.{◌≡◌, List, [], ◌∷◌, ◌++◌, map, ℕ, ◌^◌, ◌≤◌, ◌<◌, length, get_or}
use Rattle.refusal.specs.Code.{first_cause}
use Rattle.profile.specs.Checks.{profile_causes}
use Rattle.profile.specs.declared.Profile.{Profile}
use Rattle.counts.specs.Counts.{count}
use Rattle.counts.specs.Table.{table_length}
use Rattle.signature.specs.Signature.{signature_length}
use Rattle.signing_key.specs.Operations.{reserve_code}
use Rattle.signing_key.specs.Key.{fresh_key}
use Rattle.signing_key.specs.declared.SigningKey.{SigningKey}
use Rattle.claims.specs.Orders.{OrderCall, Issued, state_along, KeyCall, key_handed_back, issued, leaf_of, Every}
use Rattle.claims.specs.Orders.KeyCall.{reserve, sign}
use Rattle.claims.specs.PowerCuts.{Desk, Step, desk_after, issued_along, StoredFirst, fresh_desk, SeedBytes, round_of}
use Rattle.claims.specs.PowerCuts.Storing.{nothing}

-- a call of Sign in which the caller makes no mistake: "order text (1 to 200 bytes)", a work slice that 5 doesn't refuse, an output slice
-- that 6 doesn't; R is any
pub record GoodOrder (p : Profile) (c : OrderCall) : Type 0 where
  pub some_text : 1 ≤ length c.call.message
  pub short_text : length c.call.message ≤ 200
  pub long_work : table_length p.shape ≤ length c.call.work
  pub long_output : signature_length p ≤ length c.call.out

-- a profile with which orders can be signed: it passes its checks, and 19 doesn't refuse it
pub record CanSign (p : Profile) : Type 0 where
  pub passes : first_cause (profile_causes p) ≡ 0
  pub large : 256 ≤ count p.shape

-- "Reserve, then sign": one order after another
unfoldable pub each_in_turn : List OrderCall → List KeyCall
each_in_turn [] = []
each_in_turn (c ∷ orders) = reserve ∷ sign c ∷ each_in_turn orders

-- what such calls issue from a key on
pub record OneForEach (key : SigningKey) (orders : List OrderCall) : Type 0 where
  -- exactly as many signatures as there are orders
  pub number : length (issued key (each_in_turn orders)) ≡ length orders
  -- with the leaves 0, 1, 2 and so on
  pub leaves : (i : ℕ) → i < length orders → get_or (map leaf_of (issued key (each_in_turn orders))) i 0 ≡ i
  -- each with its own text
  pub texts : map (λ one. one.message) (issued key (each_in_turn orders)) ≡ map (λ c. c.call.message) orders
  -- "h = 0: one order, then 12", and so for every h: once there are as many as the tree has leaves, the next Reserve is refused by 12
  pub then_spent : let after = state_along key_handed_back key (each_in_turn orders) in length orders ≡ 2 ^ key.profile.height
      → reserve_code after.profile after.counter ≡ 12

-- for every fresh key of such a profile, with any seeds, and up to as many good orders as the tree has leaves
abbrev pub OrdersIssued : Type 0
OrdersIssued =
    (p : Profile) (seed secret : List ℕ) → CanSign p
    → (orders : List OrderCall) → Every (GoodOrder p) orders → length orders ≤ 2 ^ p.height
    → OneForEach (fresh_key p seed secret) orders

-- "Tree height h": no list of calls, granted or refused, issues more signatures than the tree has leaves
abbrev pub NoMoreThanLeaves : Type 0
NoMoreThanLeaves =
    (p : Profile) (seed secret : List ℕ) (calls : List KeyCall) → length (issued (fresh_key p seed secret) calls) ≤ 2 ^ p.height

-- a whole round behind a trace: it keeps the premise too, and issues one order more, with its own text
pub record RoundIssues (d : Desk) (steps : List Step) (slice : List ℕ) (c : OrderCall) : Type 0 where
  pub in_turn : StoredFirst d (steps ++ round_of slice c)
  pub one : Issued
  pub one_more : issued_along d (steps ++ round_of slice c) ≡ issued_along d steps ++ (one ∷ [])
  pub text : one.message ≡ c.call.message

-- after every trace of steps and cuts that keeps the premise of PowerCuts, and has ended its store: a whole round issues an order unless
-- the key is spent, which is what 12 says of Reserve. A leaf that is marked already is the one that signs
abbrev pub RoundsIssue : Type 0
RoundsIssue =
    (p : Profile) (seed secret : List ℕ) → SeedBytes seed → SeedBytes secret → CanSign p
    → (steps : List Step) → StoredFirst (fresh_desk p seed secret) steps
    → let d = state_along desk_after (fresh_desk p seed secret) steps in
    d.storing ≡ nothing → (reserve_code d.key.profile d.key.counter ≡ 12 → ⊥)
    → (slice : List ℕ) (c : OrderCall) → 89 ≤ length slice → GoodOrder p c
    → RoundIssues (fresh_desk p seed secret) steps slice c
