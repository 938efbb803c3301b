-- The bits that a count takes, and the number that so many bits of a digest are: it is below the count.
use mathlib.Core.Path.{◌≡◌, sym, ap, ◌∙◌}
use mathlib.Core.Bool.{false}
use mathlib.Core.List.{List}
use mathlib.Core.Logic.{◌⊎◌, inl, inr}
use Prim.Native.Nat.{ℕ, zero, suc, ◌+◌, ◌-◌, ◌/◌, ◌^◌, ◌≤◌, ◌<◌, min, max}
use native.Mathlib.Nat.{le_refl, le_trans, le_of_suc-le-suc, lt_of_lt_of_le, le-max_left, le-max_right, min-le_left, min-le_right, div-one}
use native.Mathlib.Omega.{arith}
use borrow.Author.Tests.{ltb-false, le-leb, lt-leb}
use lib.ListN.{length, take}
use lib.Pow.{pow_mono}
use lib.Seq.{length-take-le}
use Rattle.octets.specs.Bytes.{from_bytes, first_bits}
use Rattle.numbers.specs.Powers.{Log2}
use Rattle.octets.proofs.FirstBits.{first-bits-below, first-bits-front}
use Rattle.lists.proofs.Lists.{Below}
use Rattle.lists.proofs.Numbers.{lt_or_le}
use Rattle.numbers.proofs.PowerLaws.{held_fits}
use Rattle.sha256.proofs.DigestBytes.{length-digest, digest-below}
use Rattle.profile.specs.declared.Profile.{Profile}
use Rattle.counts.specs.Counts.{count}
use Rattle.message.specs.Message.{message_digest, largest_up_to, number_bits, message_number, count_too_small}

-- a value is taken where its power is not above the count, else those below it are tried
taken : (b n : ℕ) → 2 ^ suc b ≤ n → largest_up_to (suc b) n ≡ suc b
unfolding largest_up_to
taken b n holds = rw (le-leb (2 ^ suc b) n holds)

skipped : (b n : ℕ) → n < 2 ^ suc b → largest_up_to (suc b) n ≡ largest_up_to b n
unfolding largest_up_to
skipped b n fails = rw (lt-leb (2 ^ suc b) n fails)

-- b is the largest value up to a limit with 2^b not above n; where n is 0, not above 1
record Largest (limit n b : ℕ) : Type 0 where
  within : b ≤ limit
  held : 2 ^ b ≤ max n 1
  top : (c : ℕ) → c ≤ limit → 2 ^ c ≤ max n 1 → c ≤ b

largest : (limit n : ℕ) → Largest limit n (largest_up_to limit n)
unfolding largest_up_to
largest zero n = record { within = le_refl 0; held = le-max_right n 1; top = λ c low held. low }
largest (suc b) n = by (lt_or_le n (2 ^ suc b)) (largest b n)
  where
    by : (n < 2 ^ suc b) ⊎ (2 ^ suc b ≤ n) → Largest b n (largest_up_to b n) → Largest (suc b) n (largest_up_to (suc b) n)
    by (inl fails) below =
        rw (skipped b n fails)
        (record {
          within = omega (arith, below.within);
          held = below.held;
          top = λ c low held. below.top c (le_of_suc-le-suc (held_fits {w = suc b} held fails (omega arith))) held;
        })
    by (inr holds) below = rw (taken b n holds) (record { within = le_refl (suc b); held = le_trans holds (le-max_left n 1); top = λ c low held. low })

largest-bits : (n : ℕ) → Largest 128 n (number_bits n)
unfolding number_bits
largest-bits n = largest 128 n

pub bits-few : (n : ℕ) → number_bits n ≤ 128
bits-few n = (largest-bits n).within

pub bits-held : (n : ℕ) → 0 < n → 2 ^ number_bits n ≤ n
bits-held n some = omega (arith, (largest-bits n).held)

pub bits-largest : (n b : ℕ) → b ≤ 128 → 2 ^ b ≤ n → b ≤ number_bits n
bits-largest n b few held = (largest-bits n).top b few (le_trans held (le-max_left n 1))

-- the exponent of the highest power of two in the count, up to 128
pub bits_of_log : (n k : ℕ) → Log2 n k → number_bits n ≡ min k 128
bits_of_log n k log =
    let most : number_bits n < k + 1 = held_fits {w = k + 1} (largest-bits n).held log.below (omega arith) in
    let least : min k 128 ≤ number_bits n = (largest-bits n).top (min k 128) (min-le_right k 128) (le_trans (pow_mono (min-le_left k 128)) log.least) in
    omega (arith, most, least, bits-few n)

-- a digest's bytes
module _ (edition leaf : ℕ) (r seed root message : List ℕ) where
  length-message-digest : length (message_digest edition leaf r seed root message) ≡ 32
  unfolding message_digest
  length-message-digest = length-digest _

  message-digest-below : Below 256 (message_digest edition leaf r seed root message)
  unfolding message_digest
  message-digest-below = digest-below _

-- the first bits of a digest are those of its first 16 bytes
pub first_16 : (b : ℕ) (bytes : List ℕ) → b ≤ 128 → length bytes ≡ 32 → Below 256 bytes → first_bits b bytes ≡ from_bytes (take 16 bytes) / 2 ^ (128 - b)
unfolding first_bits
first_16 b bytes few long below = rw (length-take-le 16 bytes (omega arith)) at (sym (first-bits-front b 16 bytes few (omega arith) below))

module _ (p : Profile) (leaf : ℕ) (r seed root message : List ℕ) where
  -- a message number has b bits
  pub number-of-bits : message_number p leaf r seed root message < 2 ^ number_bits (count p.shape)
  unfolding message_number
  number-of-bits =
      let long = length-message-digest p.edition leaf r seed root message in
      first-bits-below (number_bits (count p.shape)) (message_digest p.edition leaf r seed root message) (omega (arith, long, bits-few (count p.shape)))
      (message-digest-below p.edition leaf r seed root message)

  -- and is below the count
  pub number-below-count : 0 < count p.shape → message_number p leaf r seed root message < count p.shape
  number-below-count some = lt_of_lt_of_le number-of-bits (bits-held (count p.shape) some)

  -- in particular where the count is not too small
  pub number_fits : count_too_small (count p.shape) ≡ false → message_number p leaf r seed root message < count p.shape
  unfolding count_too_small
  number_fits large = number-below-count (omega (arith, ltb-false (count p.shape) 256 large))

  -- with 128 bits it is the number of the first 16 bytes
  pub number_of_16_bytes : 2 ^ 128 ≤ count p.shape
      → message_number p leaf r seed root message ≡ from_bytes (take 16 (message_digest p.edition leaf r seed root message))
  unfolding message_number
  number_of_16_bytes many =
      let bytes = message_digest p.edition leaf r seed root message in
      let all : number_bits (count p.shape) ≡ 128 = omega (arith, bits-few (count p.shape), bits-largest (count p.shape) 128 (le_refl 128) many) in
      ap (λ b. first_bits b bytes) all
      ∙ first_16 128 bytes (le_refl 128) (length-message-digest p.edition leaf r seed root message)
      (message-digest-below p.edition leaf r seed root message)
      ∙ div-one (from_bytes (take 16 bytes))
