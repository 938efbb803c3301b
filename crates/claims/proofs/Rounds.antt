-- A desk that goes by rounds never signs before its store has ended, wherever a round is cut off: the premise of the claim on power cuts is met.
use mathlib.Core.Path.{◌≡◌, refl, sym, subst, ◌∙◌}
use mathlib.Core.List.{List, [], ◌∷◌, ◌++◌}
use Prim.Native.Nat.{ℕ, zero, suc, ◌≤◌}
use native.Mathlib.Omega.{arith}
use borrow.Author.Tests.{le-ltb}
use lib.Dec.{ltb}
use lib.ListN.{length, take}
use lib.Seq.{take-nil}
use Rattle.refusal.specs.Code.{first_cause}
use Rattle.refusal.proofs.Causes.{none_then}
use Rattle.profile.specs.Checks.{profile_causes}
use Rattle.profile.specs.declared.Profile.{Profile}
use Rattle.profile.proofs.Limits.{profile-numbered}
use Rattle.stored_key.specs.KeyFrame.{stored_key}
use Rattle.stored_key.specs.Operations.{write_key_code}
use Rattle.stored_key.proofs.StoredLaws.{stored-right, right-long}
use Rattle.claims.specs.Orders.{OrderCall, Along}
use Rattle.claims.specs.PowerCuts.{Progress, Desk, Step, once_begun, once_ended, after_reserve, after_begin, after_end, after_sign, after_cut, desk_after, InTurn}
use Rattle.claims.specs.PowerCuts.{StoredFirst, fresh_desk, SeedBytes, Round, round_of, round_steps, WithRoom, RoundsInTurn}
use Rattle.claims.specs.PowerCuts.Storing.{nothing}
use Rattle.claims.specs.PowerCuts.Progress.{unstored, begun, ended}
use Rattle.claims.specs.PowerCuts.Step.{reserve, store_begins, store_ends, sign, cut}
use Rattle.claims.specs.PowerCuts.Round.{whole_round, cut_round}
use Rattle.claims.proofs.PowerCuts.{held, DeskFrom, fresh_desk_from, desk_step}

-- a store that begins and ends is that of the leaf reserved last
both-made : (x : Progress) → once_ended (once_begun x) ≡ ended
unfolding once_begun once_ended
both-made unstored = refl
both-made begun = refl
both-made ended = refl

module _ (p : Profile) (seed secret : List ℕ) (seed_bytes : SeedBytes seed) (secret_bytes : SeedBytes secret) (passed : first_cause (profile_causes p) ≡ 0) where
  -- a desk between two rounds: no store is in progress
  abbrev pub Between : Desk → ℕ → Type 0
  Between d n = DeskFrom p seed secret seed_bytes secret_bytes passed d n × (d.storing ≡ nothing)

  module _ (d : Desk) (n : ℕ) (at : DeskFrom p seed secret seed_bytes secret_bytes passed d n) where
    -- a slice of 89 bytes has room for its frame
    written : (slice : List ℕ) → 89 ≤ length slice → write_key_code d.key slice ≡ 0
    unfolding write_key_code
    written slice room =
        let key = d.key in
        let of = at.from.of in
        let fits : first_cause (profile_causes key.profile) ≡ 0 = rw of.same-profile passed in
        let frame = stored-right key (held p seed secret seed_bytes secret_bytes passed key of at.in_tree) fits in
        let long = right-long frame in
        none_then (profile_causes key.profile) ((ltb (length slice) (length (stored_key key)), 6) ∷ []) fits (profile-numbered key.profile)
        ∙ rw (le-ltb (length slice) (length (stored_key key)) (omega (arith, frame.few)))

    -- the store of the key in memory, whole
    stored-whole : (slice : List ℕ) → 89 ≤ length slice → d.storing ≡ nothing
        → let after = desk_after (desk_after d (store_begins slice)) store_ends in (after.progress ≡ ended) × (after.storing ≡ nothing) × (after.key ≡ d.key)
    unfolding desk_after after_begin after_end
    stored-whole slice room e = rw (e, written slice room) (both-made d.progress, refl, refl)

  -- a desk stays one of this key by every step in turn
  after : (d : Desk) (n : ℕ) → DeskFrom p seed secret seed_bytes secret_bytes passed d n → (step : Step) → InTurn d step
      → (m : ℕ) × DeskFrom p seed secret seed_bytes secret_bytes passed (desk_after d step) m
  after d n at step turn = let goes = desk_step p seed secret seed_bytes secret_bytes passed d n at step turn in (goes.0, goes.2)

  -- one round, from between two on
  module _ (d : Desk) (n : ℕ) (at : Between d n) (slice : List ℕ) (room : 89 ≤ length slice) (c : OrderCall) where
    abbrev reserved : Desk
    reserved = desk_after d reserve

    abbrev storing : Desk
    storing = desk_after reserved (store_begins slice)

    abbrev stored : Desk
    stored = desk_after storing store_ends

    one : (m : ℕ) × DeskFrom p seed secret seed_bytes secret_bytes passed reserved m
    unfolding InTurn
    one = after d n at.0 reserve tt

    two : (m : ℕ) × DeskFrom p seed secret seed_bytes secret_bytes passed storing m
    unfolding InTurn
    two = after reserved one.0 one.1 (store_begins slice) tt

    three : (m : ℕ) × DeskFrom p seed secret seed_bytes secret_bytes passed stored m
    unfolding InTurn
    three = after storing two.0 two.1 store_ends tt

    pub whole : (stored.progress ≡ ended) × (stored.storing ≡ nothing) × (stored.key ≡ reserved.key)
    unfolding desk_after after_reserve
    whole = stored-whole reserved one.0 one.1 slice room at.1

    turn : InTurn stored (sign c)
    unfolding InTurn
    turn = λ granted. whole.0

    -- all of it, and what follows
    pub round_whole : (rest : List Step) → ((d : Desk) (m : ℕ) → Between d m → StoredFirst d rest) → StoredFirst d (round_of slice c ++ rest)
    unfolding Along InTurn desk_after after_sign
    round_whole rest then =
        let four = after stored three.0 three.1 (sign c) turn in
        (tt, (tt, (tt, (turn, then (desk_after stored (sign c)) four.0 (four.1, whole.1)))))

    -- its first k steps, and what follows
    round-part : (k : ℕ) (rest : List Step) → ((d : Desk) (m : ℕ) → DeskFrom p seed secret seed_bytes secret_bytes passed d m → StoredFirst d rest)
        → StoredFirst d (take k (round_of slice c) ++ rest)
    unfolding Along InTurn
    round-part zero rest then = then d n at.0
    round-part (suc zero) rest then = (tt, then reserved one.0 one.1)
    round-part (suc (suc zero)) rest then = (tt, (tt, then storing two.0 two.1))
    round-part (suc (suc (suc zero))) rest then = (tt, (tt, (tt, then stored three.0 three.1)))
    round-part (suc (suc (suc (suc k)))) rest then =
        let four = after stored three.0 three.1 (sign c) turn in
        let last = subst (λ (l : List Step). StoredFirst (desk_after stored (sign c)) (l ++ rest)) (sym (take-nil k))
        (then (desk_after stored (sign c)) four.0 four.1) in
        (tt, (tt, (tt, (turn, last))))

  rounds-from : (rounds : List Round) → WithRoom rounds → (d : Desk) (n : ℕ) → Between d n → StoredFirst d (round_steps rounds)
  unfolding round_steps WithRoom Along InTurn desk_after after_cut
  rounds-from [] room d n at = tt
  rounds-from (whole_round slice c ∷ rounds) room d n at =
      round_whole d n at slice room.0 c (round_steps rounds) (λ d m at. rounds-from rounds room.1 d m at)
  rounds-from (cut_round k slice c whole ∷ rounds) room d n at =
      round-part d n at slice room.0 c k (cut whole ∷ round_steps rounds)
      (λ d m at. (tt, rounds-from rounds room.1 (desk_after d (cut whole)) (after d m at (cut whole) tt).0 ((after d m at (cut whole) tt).1, refl)))

pub rounds_in_turn : RoundsInTurn
rounds_in_turn p seed secret seed_bytes secret_bytes passed rounds room =
    rounds-from p seed secret seed_bytes secret_bytes passed rounds room (fresh_desk p seed secret) 0
    (fresh_desk_from p seed secret seed_bytes secret_bytes passed, refl)
