-- A desk that stores before it signs is a source of leaves that rise, at whichever step power fails: no leaf that has signed is at or above the next leaf of
-- the stored frame.
use mathlib.Core.Path.{◌≡◌, refl, sym, ◌∙◌}
use mathlib.Core.Bool.{Bool, true, false, true≢false}
use mathlib.Core.List.{List}
use Prim.Native.Nat.{ℕ, ◌+◌, ◌^◌, ◌<◌, ◌≤◌}
use native.Mathlib.Nat.{le_refl}
use native.Mathlib.Omega.{arith}
use borrow.Author.Tests.{eqb-true}
use lib.Dec.{eqb}
use lib.ListN.{length, take, drop}
use lib.Seq.{take_at}
use Rattle.refusal.specs.Code.{first_cause}
use Rattle.profile.specs.Checks.{profile_causes}
use Rattle.profile.specs.declared.Profile.{Profile}
use Rattle.profile.proofs.Limits.{profile-passed, leaves-few}
use Rattle.signing_key.specs.Counter.{cleared, counter_after}
use Rattle.signing_key.specs.Operations.{reserve_code}
use Rattle.signing_key.specs.Key.{fresh_key, reserved_key}
use Rattle.signing_key.specs.declared.Counter.{Counter}
use Rattle.signing_key.specs.declared.SigningKey.{SigningKey}
use Rattle.signing_key.proofs.CounterLaws.{cleared-unmarked, can_reserve}
use Rattle.stored_key.specs.KeyFrame.{without_idle_mark, stored_key, stored, read_stored}
use Rattle.stored_key.specs.Operations.{write_key_code, bytes_written, frame_after, key_of}
use Rattle.stored_key.specs.RoundTrip.{Held}
use Rattle.stored_key.proofs.StoredLaws.{stored-read}
use Rattle.signer.specs.Operations.{key_after}
use Rattle.claims.specs.Orders.{OrderCall, issued_by, leaf_of}
use Rattle.claims.specs.PowerCuts.{Storing, Progress, Desk, Step, frame_left, once_begun, once_ended, after_reserve, after_begin, after_end, after_sign}
use Rattle.claims.specs.PowerCuts.{after_cut, desk_after, issued_at, issued_along, InTurn, fresh_desk, SeedBytes, PowerCuts}
use Rattle.claims.specs.PowerCuts.Storing.{nothing, new}
use Rattle.claims.specs.PowerCuts.Progress.{unstored, begun, ended}
use Rattle.claims.specs.PowerCuts.Step.{reserve, store_begins, store_ends, sign, cut}
use Rattle.claims.proofs.LeafLaws.{KeyOf, KeyFrom, fresh-of, recounted-of, fresh-from, reserved-from, cleared-from}
use Rattle.claims.proofs.Source.{Rises, issued_rises}
use Rattle.claims.proofs.Made.{MadeOwn, granted, sign-granted}
use Rattle.claims.proofs.OrdersProved.{risen_once, risen_accepted, risen_arrivals}

module _ (p : Profile) (seed secret : List ℕ) (seed_bytes : SeedBytes seed) (secret_bytes : SeedBytes secret) (passed : first_cause (profile_causes p) ≡ 0) where
  -- a frame that is read as a key with this profile and these seeds, and with the next leaf n
  pub record FrameAt (frame : List ℕ) (n : ℕ) : Type 0 where
    pub key : SigningKey
    pub read : read_stored frame ≡ stored key
    pub of : KeyOf p seed secret key
    pub at : key.counter.next ≡ n

  -- a key of the tree, so that its next leaf has four bytes
  module _ (key : SigningKey) (of : KeyOf p seed secret key) (low : key.counter.next ≤ 2 ^ p.height) where
    pub held : Held key
    held =
        record {
          seed_long = rw of.same_seed seed_bytes.0;
          seed_bytes = rw of.same_seed seed_bytes.1;
          secret_long = rw of.same_secret secret_bytes.0;
          secret_bytes = rw of.same_secret secret_bytes.1;
          next_fits = omega (arith, leaves-few p.height (profile-passed p passed).low);
        }

    stored_at : FrameAt (stored_key key) key.counter.next
    unfolding without_idle_mark
    stored_at =
        record {
          key = without_idle_mark key;
          read = stored-read key held (rw of.same-profile passed);
          of = record { same-profile = of.same-profile; same_seed = of.same_seed; same_secret = of.same_secret };
          at = refl;
        }

  -- a store in progress: its frame has a next leaf from that of the stored frame to that of the key in memory, and where it is that of the leaf reserved last,
  -- no smaller one
  pub record StoreAt (frame : List ℕ) (progress : Progress) (old next : ℕ) : Type 0 where
    pub new : ℕ
    pub is : FrameAt frame new
    pub above : old ≤ new
    pub below : new ≤ next
    pub own : progress ≡ begun → next ≤ new

  abbrev pub StoringAt : Storing → Progress → (old next : ℕ) → Type 0
  StoringAt nothing progress old next = Unit {0}
  StoringAt (new frame) progress old next = StoreAt frame progress old next

  -- a desk of this key that has signed with no leaf from n on
  pub record DeskFrom (d : Desk) (n : ℕ) : Type 0 where
    pub from : KeyFrom p seed secret d.key n
    pub in_tree : d.key.counter.next ≤ 2 ^ p.height
    pub old : ℕ
    pub is : FrameAt d.stored old
    pub reached : n ≤ old
    pub below : old ≤ d.key.counter.next
    pub storing : StoringAt d.storing d.progress old d.key.counter.next
    -- once the store of the leaf reserved last has ended, the stored frame is past that leaf
    pub past : d.progress ≡ ended → d.key.counter.next ≤ old

  pub fresh_desk_from : DeskFrom (fresh_desk p seed secret) 0
  fresh_desk_from =
      record {
        from = fresh-from p seed secret;
        in_tree = omega arith;
        old = 0;
        is = stored_at (fresh_key p seed secret) (fresh-of p seed secret) (omega arith);
        reached = le_refl 0;
        below = le_refl 0;
        storing = tt;
        past = λ e. le_refl 0;
      }

  -- what a step leaves, and what it issues
  abbrev pub Goes : Desk → (n : ℕ) → Step → Type 0
  Goes d n step = (m : ℕ) × Rises leaf_of (MadeOwn p seed secret) n (issued_at d step) m × DeskFrom (desk_after d step) m

  module _ (d : Desk) (n : ℕ) (at : DeskFrom d n) where
    abbrev counter : Counter
    counter = d.key.counter

    -- Reserve, granted: a store in progress is not that of the leaf reserved now
    storing-other : (s : Storing) → StoringAt s d.progress at.old counter.next → StoringAt s unstored at.old (counter.next + 1)
    storing-other nothing store = tt
    storing-other (new frame) store =
        record {
          new = store.new;
          is = store.is;
          above = store.above;
          below = omega (arith, store.below);
          own = λ e. let no : ◌≡◌ {A = ℕ} 0 1 = cc in
              omega arith;
        }

    reserved_desk : DeskFrom (after_reserve d) n
    unfolding after_reserve counter_after
    reserved_desk = by (eqb (reserve_code d.key.profile counter) 0) refl
      where
        from : KeyFrom p seed secret (reserved_key d.key) n
        from = reserved-from p seed secret d.key n at.from

        by : (granted : Bool) → eqb (reserve_code d.key.profile counter) 0 ≡ granted → DeskFrom (after_reserve d) n
        by true e =
            let left : counter.next < 2 ^ p.height = rw at.from.of.same-profile at (can_reserve d.key.profile counter (eqb-true _ 0 e)).1.left in
            rw e
            (record {
              from = rw e at from;
              in_tree = omega arith;
              old = at.old;
              is = at.is;
              reached = at.reached;
              below = omega (arith, at.below);
              storing = storing-other d.storing at.storing;
              past = λ q. let no : ◌≡◌ {A = ℕ} 0 1 = cc in omega arith;
            })
        by false e =
            rw e
            (record {
              from = rw e at from;
              in_tree = at.in_tree;
              old = at.old;
              is = at.is;
              reached = at.reached;
              below = at.below;
              storing = at.storing;
              past = at.past;
            })

    -- a store begins: it is of the frame of the key in memory
    written_frame : (slice : List ℕ) → eqb (write_key_code d.key slice) 0 ≡ true
        → take (bytes_written d.key slice) (frame_after d.key slice) ≡ stored_key d.key
    unfolding bytes_written frame_after
    written_frame slice e = rw e (take_at (stored_key d.key) (drop (length (stored_key d.key)) slice) (length (stored_key d.key)) refl)

    begun-ended : (x : Progress) → once_begun x ≡ ended → x ≡ ended
    unfolding once_begun
    begun-ended unstored e = cc
    begun-ended begun e = e
    begun-ended ended e = e

    begun_desk : (slice : List ℕ) (s : Storing) → DeskFrom (after_begin d slice s) n
    unfolding after_begin
    begun_desk slice (new frame) = at
    begun_desk slice nothing = by (eqb (write_key_code d.key slice) 0) refl
      where
        by : (granted : Bool) → eqb (write_key_code d.key slice) 0 ≡ granted → DeskFrom (after_begin d slice nothing) n
        by true e =
            rw e
            (record {
              from = at.from;
              in_tree = at.in_tree;
              old = at.old;
              is = at.is;
              reached = at.reached;
              below = at.below;
              storing = record {
                new = counter.next;
                is = rw (written_frame slice e) (stored_at d.key at.from.of at.in_tree);
                above = at.below;
                below = le_refl counter.next;
                own = λ q. le_refl counter.next;
              };
              past = λ q. at.past (begun-ended d.progress q);
            })
        by false e = rw e at

    -- a store ends: what was new is stored
    ended_desk : (s : Storing) → d.storing ≡ s → DeskFrom (after_end d s) n
    unfolding after_end once_ended
    ended_desk nothing q = at
    ended_desk (new frame) q =
        record {
          from = at.from;
          in_tree = at.in_tree;
          old = store.new;
          is = store.is;
          reached = omega (arith, at.reached, store.above);
          below = store.below;
          storing = tt;
          past = past d.progress refl;
        }
      where
        store : StoreAt frame d.progress at.old counter.next
        store = rw q at at.storing

        past : (x : Progress) → d.progress ≡ x → once_ended x ≡ ended → counter.next ≤ store.new
        past unstored r e = let no : ◌≡◌ {A = ℕ} 0 1 = cc in omega arith
        past begun r e = store.own r
        past ended r e = omega (arith, at.past r, store.above)

    -- Sign, granted: its store has ended, so the stored frame is past the leaf that signs
    signed_desk : (c : OrderCall) → InTurn d (sign c) → (m : ℕ) × Rises leaf_of (MadeOwn p seed secret) n (issued_by d.key c.call) m
        × DeskFrom (after_sign d c) m
    unfolding after_sign InTurn issued_by key_after
    signed_desk c turn = by (granted d.key c) refl
      where
        by : (g : Bool) → granted d.key c ≡ g → (m : ℕ) × Rises leaf_of (MadeOwn p seed secret) n (issued_by d.key c.call) m × DeskFrom (after_sign d c) m
        by true e =
            let stored_past = at.past (turn (eqb-true _ 0 e)) in
            rw e (
              counter.next,
              sign-granted d.key c p seed secret n at.from e,
              record {
                from = cleared-from p seed secret d.key n at.from.of;
                in_tree = at.in_tree;
                old = at.old;
                is = at.is;
                reached = stored_past;
                below = at.below;
                storing = at.storing;
                past = at.past;
              },
            )
        by false e = rw e (n, le_refl n, at)

    -- a restart goes on at the next leaf of the frame that is left
    restarted : (frame : List ℕ) (m : ℕ) → FrameAt frame m → n ≤ m → m ≤ 2 ^ p.height → DeskFrom (after_cut frame) n
    unfolding after_cut key_of
    restarted frame m left above low =
        rw left.read
        (record {
          from = record {
            of = recounted-of p seed secret left.key (cleared left.key.counter) left.of;
            reached = omega (arith, left.at);
            unsigned = λ e. absurd (true≢false (sym e ∙ cleared-unmarked (2 ^ p.height) left.key.counter));
          };
          in_tree = omega (arith, left.at);
          old = m;
          is = left;
          reached = above;
          below = omega (arith, left.at);
          storing = tt;
          past = λ q. let no : ◌≡◌ {A = ℕ} 0 1 = cc in omega arith;
        })

    cut_desk : (s : Storing) → d.storing ≡ s → (whole : Bool) → DeskFrom (after_cut (frame_left d.stored s whole)) n
    unfolding frame_left
    cut_desk nothing q whole = restarted d.stored at.old at.is at.reached (omega (arith, at.below, at.in_tree))
    cut_desk (new frame) q true =
        let store : StoreAt frame d.progress at.old counter.next = rw q at at.storing in
        restarted frame store.new store.is (omega (arith, at.reached, store.above)) (omega (arith, store.below, at.in_tree))
    cut_desk (new frame) q false = restarted d.stored at.old at.is at.reached (omega (arith, at.below, at.in_tree))

    pub desk_step : (step : Step) → InTurn d step → Goes d n step
    unfolding desk_after issued_at
    desk_step reserve turn = (n, le_refl n, reserved_desk)
    desk_step (store_begins slice) turn = (n, le_refl n, begun_desk slice d.storing)
    desk_step store_ends turn = (n, le_refl n, ended_desk d.storing refl)
    desk_step (sign c) turn = signed_desk c turn
    desk_step (cut whole) turn = (n, le_refl n, cut_desk d.storing refl whole)

pub power_cuts : PowerCuts
power_cuts p seed secret seed_bytes secret_bytes passed steps turns =
    let d = fresh_desk p seed secret in
    let all = issued_along d steps in
    let rising =
    issued_rises leaf_of (MadeOwn p seed secret) desk_after issued_at InTurn (DeskFrom p seed secret seed_bytes secret_bytes passed)
    (λ d n at step turn. desk_step p seed secret seed_bytes secret_bytes passed d n at step turn) d 0
    (fresh_desk_from p seed secret seed_bytes secret_bytes passed) steps turns in
    record {
      once = risen_once p seed secret all rising.0 rising.1;
      accepted = risen_accepted p seed secret all rising.0 rising.1;
      arrivals = risen_arrivals p seed secret all rising.0 rising.1;
    }
