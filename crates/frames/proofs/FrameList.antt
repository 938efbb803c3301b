-- What holds of all frames in front of the text: each has one number of bytes, they carry a signature, and their fixed ones are bytes.
use mathlib.Core.Path.{◌≡◌, refl, ◌∙◌}
use mathlib.Core.List.{List, [], ◌∷◌, ◌++◌}
use Prim.Native.Nat.{ℕ, zero, suc, ◌+◌, ◌*◌, ◌≤◌, ◌<◌}
use native.Mathlib.Omega.{arith}
use lib.Dec.{lit<}
use lib.ListN.{length, take, drop, length-append, length-drop}
use lib.Seq.{length-take-le}
use Rattle.octets.specs.Bytes.{to_bytes}
use Rattle.octets.proofs.ByteLaws.{to_bytes_lt}
use Rattle.lists.proofs.Lists.{Below, below-by_test, below_cons, below-append}
use Rattle.lists.proofs.Pairs.{Each, each_append}
use Rattle.profile.specs.declared.Profile.{Profile}
use Rattle.signature.specs.Signature.{signature_length}
use Rattle.frames.specs.Frames.{SizesInLimits, Frame, sized, first_frame, edition_byte, profile_frame, leaf_frame, randomizer_frame, numbered, frames}
use Rattle.frames.specs.Lines.{frame_line, lines_of}
use Rattle.frames.specs.inner.Size.{behind_frame, behind_all}
use Rattle.frames.proofs.FrameLaws.{line-long}
use Rattle.frames.proofs.FrameNumbers.{edition_byte_lem, profile-long}

-- each has one number of bytes behind its fixed ones
abbrev pub Sized : List Frame → Type 0
Sized fs = Each (λ f. f.low ≡ f.high) fs

-- the fixed ones are bytes
abbrev pub Bytes : List Frame → Type 0
Bytes fs = Each (λ f. Below 256 f.head) fs

-- how many bytes stand behind the fixed ones
abbrev pub total : List Frame → ℕ
total [] = 0
total (f ∷ fs) = f.high + total fs

all-numbered : (P : Frame → Type 0) (kind k n : ℕ) → ((i : ℕ) → i < k + n → P (sized (kind ∷ i ∷ []) 16)) → Each P (numbered kind k n)
unfolding numbered
all-numbered P kind k zero each = tt
all-numbered P kind k (suc n) each = (each k (omega arith), all-numbered P kind (suc k) n (λ i h. each i (omega arith)))

total-append : (fs gs : List Frame) → total (fs ++ gs) ≡ total fs + total gs
total-append [] gs = omega arith
total-append (f ∷ fs) gs = omega (arith, total-append fs gs)

total-numbered : (kind k n : ℕ) → total (numbered kind k n) ≡ 16 * n
unfolding numbered
total-numbered kind k zero = refl
total-numbered kind k (suc n) = omega (arith, total-numbered kind (suc k) n)

module _ (p : Profile) where
  -- the frames 04 and 05
  all-values : (P : Frame → Type 0) → ((i : ℕ) → i < p.shape.chains → P (sized (4 ∷ i ∷ []) 16)) → ((i : ℕ) → i < p.height → P (sized (5 ∷ i ∷ []) 16))
      → Each P (numbered 4 0 p.shape.chains ++ numbered 5 0 p.height)
  all-values P value sibling =
      each_append P (numbered 4 0 p.shape.chains) (numbered 5 0 p.height) (all-numbered P 4 0 p.shape.chains (λ i h. value i (omega arith)))
      (all-numbered P 5 0 p.height (λ i h. sibling i (omega arith)))

  pub frames-sized : Sized (frames p)
  unfolding frames profile_frame
  frames-sized = (refl, (refl, (refl, (refl, all-values (λ f. f.low ≡ f.high) (λ i h. refl) (λ i h. refl)))))

  pub frames-total : total (frames p) ≡ signature_length p
  unfolding frames profile_frame signature_length
  frames-total =
      omega (
        arith,
        total-append (numbered 4 0 p.shape.chains) (numbered 5 0 p.height),
        total-numbered 4 0 p.shape.chains,
        total-numbered 5 0 p.height,
      )

  pub profile-below : SizesInLimits p → Below 256 (profile_frame p).head
  unfolding profile_frame
  profile-below h zero = lit< tt
  profile-below h (suc zero) = omega (arith, h.0.few_chains)
  profile-below h (suc (suc zero)) = omega (arith, h.0.narrow)
  profile-below h (suc (suc (suc zero))) = omega (arith, h.1)
  profile-below h (suc (suc (suc (suc i)))) = below-append 256 (to_bytes 2 p.shape.sum) (edition_byte p.edition) (to_bytes_lt 2 p.shape.sum)
      (edition_byte_lem (Below 256) p.edition (below-by_test 256 (2 ∷ []) tt) (below-by_test 256 [] tt)) i

  pub frames-bytes : SizesInLimits p → Bytes (frames p)
  unfolding frames profile_frame
  frames-bytes h =
      let head : (kind i : ℕ) → kind < 256 → i < 256 → Below 256 (kind ∷ i ∷ []) =
      λ kind i small few. below_cons 256 kind (i ∷ []) small (below_cons 256 i [] few (λ j. lit< tt)) in
      let values = all-values (λ f. Below 256 f.head) (λ i low. head 4 i (lit< tt) (omega (arith, h.0.few_chains)))
      (λ i low. head 5 i (lit< tt) (omega (arith, h.1))) in
      (below-by_test 256 (71 ∷ 79 ∷ 49 ∷ []) tt, (profile-below h, (below-by_test 256 (2 ∷ []) tt, (below-by_test 256 (3 ∷ []) tt, values))))

-- the place behind lines is where they end
pub length-lines : (fs : List Frame) (bytes : List ℕ) (at : ℕ) → total fs ≤ length bytes → at + length (lines_of fs bytes) ≡ behind_all at fs
unfolding lines_of behind_all
length-lines [] bytes at enough = omega arith
length-lines (f ∷ fs) bytes at enough =
    let here = frame_line f (take f.high bytes) in
    let long = line-long f.head (take f.high bytes) in
    let mine = length-take-le f.high bytes (omega arith) in
    let rest = length-drop f.high bytes in
    omega (arith, length-append here (lines_of fs (drop f.high bytes)), length-lines fs (drop f.high bytes) (behind_frame at f) (omega arith))

behind-append : (at : ℕ) (fs gs : List Frame) → behind_all at (fs ++ gs) ≡ behind_all (behind_all at fs) gs
unfolding behind_all
behind-append at [] gs = refl
behind-append at (f ∷ fs) gs = behind-append (behind_frame at f) fs gs

behind-numbered : (at kind k n : ℕ) → behind_all at (numbered kind k n) ≡ at + 37 * n
unfolding behind_all numbered
behind-numbered at kind k zero = omega arith
behind-numbered at kind k (suc n) = behind-numbered (behind_frame at (sized (kind ∷ k ∷ []) 16)) kind (suc k) n ∙ omega arith

-- where the text's line begins
pub behind-frames : (p : Profile) → behind_all 0 (frames p) ≡ 66 + 2 * length (edition_byte p.edition) + 37 * (p.shape.chains + p.height)
unfolding behind_all frames profile_frame
behind-frames p =
    let values = numbered 4 0 p.shape.chains in
    let four = behind_all 0 (first_frame ∷ profile_frame p ∷ leaf_frame ∷ randomizer_frame ∷ []) in
    behind-append four values (numbered 5 0 p.height)
    ∙ omega (arith, profile-long p, behind-numbered four 4 0 p.shape.chains, behind-numbered (behind_all four values) 5 0 p.height)
