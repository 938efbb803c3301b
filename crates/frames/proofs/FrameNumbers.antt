-- Frame k of a sheet: how many there are, which it is, how many bytes it has, and its fixed bytes.
use mathlib.Core.Path.{◌≡◌, refl, sym, ap, ◌∙◌}
use mathlib.Core.Bool.{Bool, true, false, cond}
use mathlib.Core.List.{List, [], ◌∷◌, ◌++◌}
use Prim.Native.Nat.{ℕ, zero, suc, ◌+◌, ◌-◌, ◌≤◌, ◌<◌}
use native.Mathlib.Nat.{zero-add}
use native.Mathlib.Numerals.{add-one}
use native.Mathlib.Omega.{arith}
use borrow.Author.Tests.{ltb-true, ltb-false}
use lib.Dec.{ltb, eqb, lit≤}
use lib.ListN.{length, get_or, drop, length-append, get_or-append, get_or-eq_default}
use lib.Seq.{drop-cons, get_or-append-add}
use Rattle.octets.specs.Bytes.{to_bytes}
use Rattle.profile.specs.declared.Profile.{Profile}
use Rattle.frames.specs.Frames.{SizesInLimits, Frame, sized, first_frame, edition_byte, profile_frame, leaf_frame, randomizer_frame, numbered, frames}
use Rattle.frames.specs.Frames.{text_frame, frame_at}
use Rattle.frames.specs.inner.Size.{HasSize}
use Rattle.frames.specs.declared.Size.{Size}

length-numbered : (kind k n : ℕ) → length (numbered kind k n) ≡ n
unfolding numbered
length-numbered kind k zero = refl
length-numbered kind k (suc n) = ap suc (length-numbered kind (suc k) n)

numbered-at : (kind k n i : ℕ) (f : Frame) → i < n → get_or (numbered kind k n) i f ≡ sized (kind ∷ (k + i) ∷ []) 16
unfolding numbered
numbered-at kind k zero i f h = absurd (omega arith)
numbered-at kind k (suc n) zero f h = let same : k + 0 ≡ k = omega arith in rw same
numbered-at kind k (suc n) (suc i) f h =
    let same : k + suc i ≡ suc k + i = omega arith in
    rw same (numbered-at kind (suc k) n i f (omega arith))

-- a frame with so many fixed bytes, and so many behind them
sized-size : {f : Frame} {fixed payload : ℕ} {r : Size} → length f.head ≡ fixed → f.low ≡ payload → f.high ≡ payload → fixed ≤ 7 → payload ≤ 200
    → (r.fixed ≡ fixed) × (r.low ≡ payload) × (r.high ≡ payload) → HasSize f r
sized-size a b c few short e = record { fixed = e.0 ∙ sym a; low = e.1 ∙ sym b; high = e.2 ∙ sym c; few = omega arith; short = omega arith }

-- the frame with a number
pub at-number : (p : Profile) {k n fixed payload : ℕ} {r : Size} → k ≡ n → length (frame_at p n).head ≡ fixed → (frame_at p n).low ≡ payload
    → (frame_at p n).high ≡ payload → fixed ≤ 7 → payload ≤ 200 → (r.fixed ≡ fixed) × (r.low ≡ payload) × (r.high ≡ payload) → HasSize (frame_at p k) r
at-number p e a b c few short s = rw e (sized-size a b c few short s)

module _ (p : Profile) where
  abbrev chains : ℕ
  chains = p.shape.chains

  pub length-frames : length (frames p) ≡ 4 + chains + p.height
  unfolding frames
  length-frames =
      omega (arith, length-append (numbered 4 0 chains) (numbered 5 0 p.height), length-numbered 4 0 chains, length-numbered 5 0 p.height)

  pub frames-few : SizesInLimits p → length (frames p) ≤ 54
  frames-few h = omega (arith, length-frames, h.0.few_chains, h.1)

  -- behind the first four
  behind_four : (j : ℕ) → frame_at p (4 + j) ≡ get_or (numbered 4 0 chains ++ numbered 5 0 p.height) j text_frame
  unfolding frames
  behind_four j = get_or-append-add (first_frame ∷ profile_frame p ∷ leaf_frame ∷ randomizer_frame ∷ []) (numbered 4 0 chains ++ numbered 5 0 p.height) j text_frame

  module _ (k : ℕ) where
    pub value-at : 4 ≤ k → k < 4 + chains → frame_at p k ≡ sized (4 ∷ (k - 4) ∷ []) 16
    value-at low high =
        let same : k ≡ 4 + (k - 4) = omega arith in
        let few : k - 4 < length (numbered 4 0 chains) = omega (arith, length-numbered 4 0 chains) in
        ap (frame_at p) same ∙ behind_four (k - 4) ∙ get_or-append (numbered 4 0 chains) (numbered 5 0 p.height) text_frame (k - 4) few
        ∙ numbered-at 4 0 chains (k - 4) text_frame (omega arith) ∙ rw zero-add

    pub sibling-at : 4 + chains ≤ k → k < 4 + chains + p.height → frame_at p k ≡ sized (5 ∷ (k - (4 + chains)) ∷ []) 16
    sibling-at low high =
        let long = length-numbered 4 0 chains in
        let same : k ≡ 4 + (length (numbered 4 0 chains) + (k - (4 + chains))) = omega arith in
        ap (frame_at p) same ∙ behind_four (length (numbered 4 0 chains) + (k - (4 + chains)))
        ∙ get_or-append-add (numbered 4 0 chains) (numbered 5 0 p.height) (k - (4 + chains)) text_frame
        ∙ numbered-at 5 0 p.height (k - (4 + chains)) text_frame (omega arith) ∙ rw zero-add

    pub profile-at : k ≡ 1 → frame_at p k ≡ profile_frame p
    unfolding frames
    profile-at e = ap (frame_at p) e

    -- the frames from frame k on
    pub frames-cut : k < length (frames p) → drop k (frames p) ≡ frame_at p k ∷ drop (k + 1) (frames p)
    frames-cut h = rw add-one (drop-cons (frames p) k text_frame h)

    pub text_at : length (frames p) ≤ k → frame_at p k ≡ text_frame
    text_at h = get_or-eq_default (frames p) text_frame h

    pub text-size : length (frames p) ≤ k → HasSize (frame_at p k) (record { fixed = 1; low = 1; high = 200 })
    text-size h = rw (text_at h) (record { fixed = refl; low = refl; high = refl; few = lit≤ tt; short = lit≤ tt })

    -- a frame of a kind and a number
    pub numbered-size : {r : Size} → 4 ≤ k → k < length (frames p) → (r.fixed ≡ 2) × (r.low ≡ 16) × (r.high ≡ 16) → HasSize (frame_at p k) r
    numbered-size {r} low high e = by (ltb k (4 + chains)) refl
      where
        this : {number kind : ℕ} → frame_at p k ≡ sized (kind ∷ number ∷ []) 16 → HasSize (frame_at p k) r
        this same = sized-size (ap (λ f. length f.head) same) (ap (λ f. f.low) same) (ap (λ f. f.high) same) (lit≤ tt) (lit≤ tt) e

        by : (t : Bool) → ltb k (4 + chains) ≡ t → HasSize (frame_at p k) r
        by true q = this (value-at low (ltb-true k (4 + chains) q))
        by false q = this (sibling-at (ltb-false k (4 + chains) q) (omega (arith, length-frames)))

-- the kind byte of the leaf's frame and of R's
pub kind-at : (p : Profile) (k i : ℕ) → 2 ≤ k → k < 4 → i < length (frame_at p k).head → get_or (frame_at p k).head i 0 ≡ k
unfolding frames
kind-at p zero i low high h = absurd (omega arith)
kind-at p (suc zero) i low high h = absurd (omega arith)
kind-at p (suc (suc zero)) zero low high h = refl
kind-at p (suc (suc zero)) (suc i) low high h = absurd (omega arith)
kind-at p (suc (suc (suc zero))) zero low high h = refl
kind-at p (suc (suc (suc zero))) (suc i) low high h = absurd (omega arith)
kind-at p (suc (suc (suc (suc k)))) i low high h = absurd (omega arith)

-- the profile's frame: how many bytes it has
pub profile-long : (p : Profile) → length (profile_frame p).head ≡ 6 + length (edition_byte p.edition)
unfolding profile_frame to_bytes
profile-long p = omega arith

-- what holds of 02 and of no byte holds of an edition's
pub edition_byte_lem : (P : List ℕ → Type 0) (edition : ℕ) → P (2 ∷ []) → P [] → P (edition_byte edition)
unfolding edition_byte
edition_byte_lem P edition byte none = by (eqb edition 2)
  where
    by : (second : Bool) → P (cond second (2 ∷ []) [])
    by true = byte
    by false = none

pub edition_long : (edition : ℕ) → length (edition_byte edition) ≤ 1
edition_long edition = edition_byte_lem (λ l. length l ≤ 1) edition (lit≤ tt) (lit≤ tt)

-- the bytes of the profile's frame, with any behind the sum's
abbrev head_with : Profile → (last : List ℕ) → List ℕ
head_with p last = 1 ∷ p.shape.chains ∷ p.shape.width ∷ p.height ∷ (to_bytes 2 p.shape.sum ++ last)

-- they are those of edition 2, as far as the frame has them
pub profile_byte : (p : Profile) (i : ℕ) {head : List ℕ} → head ≡ head_with p (edition_byte 2) → i < length (profile_frame p).head
    → get_or head i 0 ≡ get_or (profile_frame p).head i 0
unfolding profile_frame edition_byte to_bytes
profile_byte p i e h =
    let same = edition_byte_lem (λ last. i < length (head_with p last) → get_or (head_with p (edition_byte 2)) i 0 ≡ get_or (head_with p last) i 0) p.edition in
    ap (λ l. get_or l i 0) e ∙ same (λ few. refl) (λ few. get_or-append (head_with p []) (2 ∷ []) 0 i few) h
