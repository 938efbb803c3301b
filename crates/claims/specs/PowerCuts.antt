-- Document 02, point 5: "At whichever step power fails, a restart from the stored frame with the mark cleared never signs a leaf twice,
-- provided no older frame is put back and
-- no sign comes before its store has ended". One claim about every trace of a desk that reserves, stores and signs, and is cut off at any
-- step.
use Rattle.std.specs.Prelude.{◌≡◌, Bool, true, false, cond, ℕ, ◌≤◌, ◌<◌, eqb, length, get_or, take}
use mathlib.Core.List.{List, [], ◌∷◌, ◌++◌, map, Permᴰ}
use Rattle.refusal.specs.Code.{first_cause}
use Rattle.profile.specs.Checks.{profile_causes}
use Rattle.profile.specs.declared.Profile.{Profile}
use Rattle.tweak.specs.Tweak.{first_domain}
use Rattle.tree.specs.Tree.{root_of}
use Rattle.signing_key.specs.Operations.{reserve_code}
use Rattle.signing_key.specs.Key.{fresh_key, reserved_key, restarted_key}
use Rattle.signing_key.specs.declared.SigningKey.{SigningKey}
use Rattle.stored_key.specs.KeyFrame.{stored_key, read_stored}
use Rattle.stored_key.specs.Operations.{write_key_code, bytes_written, frame_after, key_of}
use Rattle.signer.specs.Operations.{sign_code, key_after}
use Rattle.verifier.specs.Verifying.{fresh_verifier}
use Rattle.claims.specs.Arrivals.{InTime}
use Rattle.claims.specs.Orders.{OrderCall, Issued, issued_by, given_along, Along, leaf_of, NoLeafTwice, Check, AllAccepted}

-- a store in progress: none, or one of a new frame
pub data Storing : Type 0 where
  nothing : Storing
  new : (frame : List ℕ) → Storing

-- how far the store of the leaf reserved last has come: not begun since that leaf was reserved, begun, ended
pub data Progress : Type 0 where
  unstored : Progress
  begun : Progress
  ended : Progress

-- a desk: the key in its memory, the bytes of the stored frame, the store in progress, and how far that of its leaf has come
pub record Desk : Type 0 where
  pub key : SigningKey
  pub stored : List ℕ
  pub storing : Storing
  pub progress : Progress

-- a step of a desk; the calls may be granted or refused, with any R, text and slices
pub data Step : Type 0 where
  reserve : Step
  -- Write key writes the frame of the key in memory into a slice, and these bytes are being stored from then on
  store_begins : (slice : List ℕ) → Step
  store_ends : Step
  sign : OrderCall → Step
  -- power fails, and the desk restarts. Where a store is in progress, `whole` says that it left the new frame, else the old one
  cut : (whole : Bool) → Step

-- "A cut leaves the old frame or the new as a whole"
unfoldable pub frame_left : (old : List ℕ) → Storing → (whole : Bool) → List ℕ
frame_left old nothing whole = old
frame_left old (new frame) true = frame
frame_left old (new frame) false = old

-- a store that begins counts for the leaf reserved last where none has begun since
unfoldable pub once_begun : Progress → Progress
once_begun unstored = begun
once_begun begun = begun
once_begun ended = ended

-- a store that ends has ended for the leaf reserved last where it began for it
unfoldable pub once_ended : Progress → Progress
once_ended unstored = unstored
once_ended begun = ended
once_ended ended = ended

-- "Reserve marks the next leaf and advances the key": no store of that leaf has begun yet
unfoldable pub after_reserve : Desk → Desk
after_reserve d =
    record {
      key = reserved_key d.key;
      stored = d.stored;
      storing = d.storing;
      progress =
          cond (eqb (reserve_code d.key.profile d.key.counter) 0) unstored d.progress;
    }

-- "the desk stores the key": what Write key wrote, if it is granted. One store comes after another: none begins while one is in progress
unfoldable pub after_begin : Desk → (slice : List ℕ) → Storing → Desk
after_begin d slice (new frame) = d
after_begin d slice nothing =
    cond (eqb (write_key_code d.key slice) 0)
    (record {
      key = d.key;
      stored = d.stored;
      storing = new (take (bytes_written d.key slice) (frame_after d.key slice));
      progress =
          once_begun d.progress;
    })
    d

-- the store in progress ends: its frame is the stored one from then on
unfoldable pub after_end : Desk → Storing → Desk
after_end d nothing = d
after_end d (new frame) = record { key = d.key; stored = frame; storing = nothing; progress = once_ended d.progress }

-- "sign uses the marked leaf and clears the mark"
unfoldable pub after_sign : Desk → OrderCall → Desk
after_sign d c =
    record { key = key_after d.key c.call; stored = d.stored; storing = d.storing; progress = d.progress }

-- "a restart from the stored frame with the mark cleared": the key that Read key gives of the bytes left
unfoldable pub after_cut : (frame : List ℕ) → Desk
after_cut frame = record { key = restarted_key (key_of (read_stored frame)); stored = frame; storing = nothing; progress = unstored }

-- what a step leaves. "no older frame is put back": what is stored changes only by a store, to the frame of the key then in memory
unfoldable pub desk_after : Desk → Step → Desk
desk_after d reserve = after_reserve d
desk_after d (store_begins slice) = after_begin d slice d.storing
desk_after d store_ends = after_end d d.storing
desk_after d (sign c) = after_sign d c
desk_after d (cut whole) = after_cut (frame_left d.stored d.storing whole)

-- what a step issues: a granted sign
unfoldable pub issued_at : Desk → Step → List Issued
issued_at d reserve = []
issued_at d (store_begins slice) = []
issued_at d store_ends = []
issued_at d (sign c) = issued_by d.key c.call
issued_at d (cut whole) = []

-- all that is issued in a trace
abbrev pub issued_along : Desk → List Step → List Issued
issued_along d steps = given_along desk_after issued_at d steps

-- "no sign comes before its store has ended": where a sign is granted, a store that began after its leaf was reserved has ended
unfoldable pub InTurn : Desk → Step → Type 0
InTurn d reserve = Unit {0}
InTurn d (store_begins slice) = Unit {0}
InTurn d store_ends = Unit {0}
InTurn d (sign c) = sign_code d.key c.call ≡ 0 → d.progress ≡ ended
InTurn d (cut whole) = Unit {0}

-- every step of a trace is in its turn
abbrev pub StoredFirst : Desk → List Step → Type 0
StoredFirst d steps = Along desk_after InTurn d steps

-- a desk with a fresh key, whose frame is stored
abbrev pub fresh_desk : Profile → (seed secret : List ℕ) → Desk
fresh_desk p seed secret = record {
  key = fresh_key p seed secret;
  stored = stored_key (fresh_key p seed secret);
  storing = nothing;
  progress =
      unstored;
}

-- "Hash values have 16 bytes", and so have seeds
abbrev pub SeedBytes : List ℕ → Type 0
SeedBytes seed = (length seed ≡ 16) × ((i : ℕ) → get_or seed i 0 < 256)

-- what holds of all signatures issued in a trace
pub record TraceHolds (p : Profile) (seed secret : List ℕ) (all : List Issued) : Type 0 where
  -- "never signs a leaf twice"
  pub once : NoLeafTwice all
  -- accepted in signing order, with demand 3's steps and refused checks in between
  pub accepted : (checks : List Check) → AllAccepted p.shape (fresh_verifier p seed (root_of (first_domain seed) p secret)) all checks
  -- and in point 4's orders of arrival
  pub arrivals : (arrived : List Issued) → Permᴰ arrived all → InTime (map leaf_of arrived)
      → (checks : List Check) → AllAccepted p.shape (fresh_verifier p seed (root_of (first_domain seed) p secret)) arrived checks

-- for every fresh key that can be stored, which is every one whose profile passes its checks, and every trace
abbrev pub PowerCuts : Type 0
PowerCuts =
    (p : Profile) (seed secret : List ℕ) → SeedBytes seed → SeedBytes secret → first_cause (profile_causes p) ≡ 0
    → (steps : List Step) → StoredFirst (fresh_desk p seed secret) steps
    → TraceHolds p seed secret (issued_along (fresh_desk p seed secret) steps)

-- What a desk does for one order, in the document's words: "Reserve marks the next leaf and advances the key; the desk stores the key; sign
-- uses the marked leaf". Whole, or cut
-- off behind the first n of these steps; the frame is written into a slice.
pub data Round : Type 0 where
  whole_round : (slice : List ℕ) → OrderCall → Round
  cut_round : (n : ℕ) (slice : List ℕ) → OrderCall → (whole : Bool) → Round

-- the four steps of one order
abbrev pub round_of : (slice : List ℕ) → OrderCall → List Step
round_of slice c = reserve ∷ store_begins slice ∷ store_ends ∷ sign c ∷ []

-- the steps of rounds one after another, each as far as it goes
unfoldable pub round_steps : List Round → List Step
round_steps [] = []
round_steps (whole_round slice c ∷ rounds) = round_of slice c ++ round_steps rounds
round_steps (cut_round n slice c whole ∷ rounds) = take n (round_of slice c) ++ (cut whole ∷ round_steps rounds)

-- each slice has room for a frame
unfoldable pub WithRoom : List Round → Type 0
WithRoom [] = Unit {0}
WithRoom (whole_round slice c ∷ rounds) = (89 ≤ length slice) × WithRoom rounds
WithRoom (cut_round n slice c whole ∷ rounds) = (89 ≤ length slice) × WithRoom rounds

-- the premise of PowerCuts is met by every desk that goes by rounds, wherever each is cut off
abbrev pub RoundsInTurn : Type 0
RoundsInTurn =
    (p : Profile) (seed secret : List ℕ) → SeedBytes seed → SeedBytes secret → first_cause (profile_causes p) ≡ 0
    → (rounds : List Round) → WithRoom rounds → StoredFirst (fresh_desk p seed secret) (round_steps rounds)
