-- A whole round behind a trace of steps and cuts issues an order, unless the key is spent.
use mathlib.Core.Path.{◌≡◌, refl, ◌∙◌}
use mathlib.Core.List.{List, [], ◌∷◌}
use Prim.Native.Nat.{ℕ, ◌≤◌}
use lib.ListN.{length}
use Rattle.profile.specs.declared.Profile.{Profile}
use Rattle.signing_key.specs.Operations.{reserve_code}
use Rattle.signing_key.specs.Key.{reserved_key}
use Rattle.signing_key.proofs.CounterLaws.{reserve-marks}
use Rattle.claims.specs.Issuing.{GoodOrder, CanSign, RoundsIssue}
use Rattle.claims.specs.Orders.{OrderCall, signed_by, given_along, state_along, Along, leaf_of}
use Rattle.claims.specs.PowerCuts.{Desk, after_reserve, desk_after, issued_at, issued_along, InTurn, fresh_desk, SeedBytes, round_of}
use Rattle.claims.proofs.Source.{still-from, given_behind, along_behind}
use Rattle.claims.proofs.Made.{MadeOwn}
use Rattle.claims.proofs.PowerCuts.{DeskFrom, fresh_desk_from, desk_step}
use Rattle.claims.proofs.Rounds.{Between, whole, round_whole}
use Rattle.claims.proofs.Issuing.{good_issues}

module _ (p : Profile) (seed secret : List ℕ) (seed_bytes : SeedBytes seed) (secret_bytes : SeedBytes secret) (can : CanSign p) where
  -- a round of a desk of this key
  module _ (d : Desk) (n : ℕ) (at : Between p seed secret seed_bytes secret_bytes can.passes d n)
      (unspent : reserve_code d.key.profile d.key.counter ≡ 12 → ⊥) (slice : List ℕ) (room : 89 ≤ length slice)
      (c : OrderCall) (good : GoodOrder p c) where
    round_issues : issued_along d (round_of slice c) ≡ signed_by (reserved_key d.key) c.call ∷ []
    unfolding given_along issued_at desk_after after_reserve
    round_issues =
        let key = d.key in
        let same = at.0.from.of.same-profile in
        let can-sign : CanSign key.profile = rw same can in
        let good-here : GoodOrder key.profile c = rw same good in
        let marked = reserve-marks key.profile key.counter can-sign.passes unspent in
        rw (
          (whole p seed secret seed_bytes secret_bytes can.passes d n at slice room c).2,
          good_issues (reserved_key key) can-sign marked c good-here,
        )

pub rounds_issue : RoundsIssue
unfolding Along signed_by
rounds_issue p seed secret seed_bytes secret_bytes can steps turns ended unspent slice c room good =
    let fresh = fresh_desk p seed secret in
    let d = state_along desk_after fresh steps in
    let left =
    still-from leaf_of (MadeOwn p seed secret) desk_after issued_at InTurn (DeskFrom p seed secret seed_bytes secret_bytes can.passes)
    (λ d n at step turn. desk_step p seed secret seed_bytes secret_bytes can.passes d n at step turn) fresh 0
    (fresh_desk_from p seed secret seed_bytes secret_bytes can.passes) steps turns in
    let between : Between p seed secret seed_bytes secret_bytes can.passes d left.0 = (left.1, ended) in
    record {
      in_turn = along_behind desk_after InTurn fresh steps (round_of slice c) turns
          (round_whole p seed secret seed_bytes secret_bytes can.passes d left.0 between slice room c [] (λ d m at. tt));
      one = signed_by (reserved_key d.key) c.call;
      one_more = given_behind desk_after issued_at fresh steps (round_of slice c)
          ∙ rw (round_issues p seed secret seed_bytes secret_bytes can d left.0 between unspent slice room c good);
      text = refl;
    }
