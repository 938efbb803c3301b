-- A key that is met, and the bytes of a key: their parts, how many they are, and that the key stands in them.
use mathlib.Core.Path.{◌≡◌, refl, sym, ap, ◌∙◌}
use mathlib.Core.Bool.{Bool, true, false, not, ◌&&◌, cond}
use mathlib.Core.List.{List, [], ◌∷◌, ◌++◌, append_assoc}
use Prim.Native.Nat.{ℕ, zero, suc, ◌+◌, ◌^◌, ◌≤◌, ◌<◌}
use native.Mathlib.Omega.{arith}
use borrow.Author.Tests.{eqb-true, eqb-false}
use lib.Dec.{eqb, lit<}
use lib.ListN.{length, get_or, take, drop, length-append}
use lib.Seq.{take_at, drop_at, drop-drop, get_or-drop}
use Rattle.refusal.specs.Code.{first_cause}
use Rattle.octets.specs.Bytes.{to_bytes}
use Rattle.octets.proofs.ByteLaws.{to_bytes_lt, from_to_lt}
use Rattle.lists.proofs.Lists.{Below, below-by_test, below_cons, below-append}
use Rattle.profile.specs.Checks.{outside, profile_causes}
use Rattle.profile.proofs.Limits.{profile-passed, profile-limits, sum-small}
use Rattle.frames.specs.Frames.{edition_byte}
use Rattle.frames.proofs.FrameNumbers.{edition_byte_lem}
use Rattle.signing_key.specs.Counter.{mark_counts}
use Rattle.signing_key.specs.declared.SigningKey.{SigningKey}
use Rattle.stored_key.specs.KeyFields.{chains_field, width_field, height_field, sum_field, seed_field, secret_field, next_field, mark_field, offset, key_length}
use Rattle.stored_key.specs.KeyFields.{field_in, byte_in}
use Rattle.stored_key.specs.KeyFrame.{key_bytes, key_in, without_idle_mark}
use Rattle.stored_key.specs.inner.Parts.{field_place, last_length, front_bytes, last_bytes}
use Rattle.stored_key.specs.RoundTrip.{Held}

and_again : (a b : Bool) → (a && b && b) ≡ (a && b)
and_again true true = refl
and_again true false = refl
and_again false b = refl

-- a mark that counts still counts once it is met
pub idle_gone : (key : SigningKey) → without_idle_mark (without_idle_mark key) ≡ without_idle_mark key
unfolding without_idle_mark mark_counts
idle_gone key = rw (and_again key.counter.mark (not (outside 1 (2 ^ key.profile.height) key.counter.next)))

pub idle-profile : (key : SigningKey) → (without_idle_mark key).profile ≡ key.profile
unfolding without_idle_mark
idle-profile key = refl

pub idle-held : (key : SigningKey) → Held key → Held (without_idle_mark key)
unfolding without_idle_mark
idle-held key held = record {
  seed_long = held.seed_long;
  seed_bytes = held.seed_bytes;
  secret_long = held.secret_long;
  secret_bytes = held.secret_bytes;
  next_fits = held.next_fits;
}

-- the edition is told by the number of bytes
edition_told : (edition : ℕ) → 1 ≤ edition → edition ≤ 2 → cond (eqb (key_length + length (edition_byte edition)) (key_length + 1)) 2 1 ≡ edition
unfolding edition_byte
edition_told edition low high = by (eqb edition 2) refl
  where
    by : (second : Bool) → eqb edition 2 ≡ second → cond (eqb (key_length + length (cond {A = List ℕ} second (2 ∷ []) [])) (key_length + 1)) 2 1 ≡ edition
    by true e = sym (eqb-true edition 2 e)
    by false e = let other = eqb-false edition 2 e in omega arith

-- the byte of a mark
pub mark-small : (mark : Bool) → cond mark 1 0 < 2
mark-small true = lit< tt
mark-small false = lit< tt

mark-told : (mark : Bool) → eqb (cond mark 1 0) 1 ≡ mark
mark-told true = refl
mark-told false = refl

module _ (key : SigningKey) where
  -- its parts
  abbrev front : List ℕ
  front = front_bytes key.profile

  abbrev last : List ℕ
  last = last_bytes key.counter.next key.counter.mark key.profile.edition

  -- a frame's bytes in four parts
  pub key_parts : 7 ∷ key_bytes key ≡ front ++ key.seed ++ key.secret ++ last
  unfolding key_bytes
  key_parts = append_assoc (front ++ key.seed ++ key.secret) (to_bytes 4 key.counter.next)
      (cond key.counter.mark 1 0 ∷ edition_byte key.profile.edition)

  pub key-bytes-long : length key.seed ≡ 16 → length key.secret ≡ 16 → length (key_bytes key) ≡ key_length + length (edition_byte key.profile.edition)
  unfolding to_bytes
  key-bytes-long seed secret =
      omega (
        arith,
        ap length key_parts,
        length-append (front ++ key.seed ++ key.secret) last,
        length-append (front ++ key.seed) key.secret,
        length-append front key.seed,
      )

  -- the profile's bytes
  profile-bytes : (byte_in chains_field (key_bytes key) ≡ key.profile.shape.chains) × (byte_in width_field (key_bytes key) ≡ key.profile.shape.width)
      × (byte_in height_field (key_bytes key) ≡ key.profile.height)
  unfolding key_bytes
  profile-bytes = (refl, refl, refl)

  sum-bytes : field_in sum_field (key_bytes key) ≡ to_bytes 2 key.profile.shape.sum
  unfolding key_bytes to_bytes
  sum-bytes = refl

  next-bytes : take 4 last ≡ to_bytes 4 key.counter.next
  unfolding to_bytes
  next-bytes = refl

  module _ (held : Held key) where
    -- what stands from where each part begins
    from_seed : drop (offset seed_field) (key_bytes key) ≡ key.seed ++ (key.secret ++ last)
    unfolding to_bytes
    from_seed = ap (drop (field_place seed_field)) key_parts ∙ append_assoc key.seed key.secret last

    from_secret : drop (offset secret_field) (key_bytes key) ≡ key.secret ++ last
    from_secret = sym (drop-drop 16 (offset seed_field) (key_bytes key)) ∙ rw from_seed (drop_at key.seed (key.secret ++ last) 16 held.seed_long)

    from_last : drop (offset next_field) (key_bytes key) ≡ last
    from_last = sym (drop-drop 16 (offset secret_field) (key_bytes key)) ∙ rw from_secret (drop_at key.secret last 16 held.secret_long)

    -- the mark, and the edition's byte
    pub mark_byte : byte_in mark_field (key_bytes key) ≡ cond key.counter.mark 1 0
    unfolding to_bytes
    mark_byte = sym (get_or-drop (offset next_field) (key_bytes key) 4 0) ∙ rw from_last

    pub last_byte : get_or (key_bytes key) key_length 2 ≡ 2
    unfolding to_bytes
    last_byte = sym (get_or-drop (offset next_field) (key_bytes key) last_length 2)
        ∙ rw from_last (edition_byte_lem (λ l. get_or l 0 2 ≡ 2) key.profile.edition refl refl)

    module _ (passed : first_cause (profile_causes key.profile) ≡ 0) where
      pub key-bytes-below : Below 256 (key_bytes key)
      unfolding key_bytes
      key-bytes-below zero = omega (arith, (profile-limits key.profile passed).0.few_chains)
      key-bytes-below (suc zero) = omega (arith, (profile-limits key.profile passed).0.narrow)
      key-bytes-below (suc (suc zero)) = omega (arith, (profile-limits key.profile passed).1)
      key-bytes-below (suc (suc (suc i))) =
          let sum : List ℕ = to_bytes 2 key.profile.shape.sum in
          let next : List ℕ = to_bytes 4 key.counter.next in
          let mark : ℕ = cond key.counter.mark 1 0 in
          let edition : List ℕ = edition_byte key.profile.edition in
          let seeds = below-append 256 (sum ++ key.seed) key.secret
          (below-append 256 sum key.seed (to_bytes_lt 2 key.profile.shape.sum) held.seed_bytes) held.secret_bytes in
          let numbers = below-append 256 (sum ++ key.seed ++ key.secret) next seeds (to_bytes_lt 4 key.counter.next) in
          let ending = edition_byte_lem (Below 256) key.profile.edition (below-by_test 256 (2 ∷ []) tt) (below-by_test 256 [] tt) in
          below-append 256 (sum ++ key.seed ++ key.secret ++ next) (mark ∷ edition) numbers
          (below_cons 256 mark edition (omega (arith, mark-small key.counter.mark)) ending) i

      -- the key stands in its bytes
      pub key_in_bytes : key_in (key_bytes key) ≡ key
      unfolding key_in
      key_in_bytes =
          let limits = profile-limits key.profile passed in
          let named = (profile-passed key.profile passed).named in
          let sum = from_to_lt 2 key.profile.shape.sum (omega (arith, sum-small key.profile.shape limits.0)) in
          let next = from_to_lt 4 key.counter.next held.next_fits in
          rw (
            profile-bytes.0,
            profile-bytes.1,
            profile-bytes.2,
            sum-bytes,
            sum,
            key-bytes-long held.seed_long held.secret_long,
            edition_told key.profile.edition named.0 named.1,
            from_seed,
            take_at key.seed (key.secret ++ last) 16 held.seed_long,
            from_secret,
            take_at key.secret last 16 held.secret_long,
            from_last,
            next-bytes,
            next,
            mark_byte,
            mark-told key.counter.mark,
          )
