-- Plain numbers on the way to a codeword: the places behind one, the cell of a share, and what is left of the sum.
use mathlib.Core.Path.{◌≡◌}
use Prim.Native.Nat.{ℕ, suc, ◌+◌, ◌-◌, ◌*◌, ◌≤◌, ◌<◌}
use native.Mathlib.Omega.{arith}

pub one_more : (chains place : ℕ) → place < chains → chains - place ≡ suc (chains - 1 - place)
one_more chains place h = omega arith

pub one_less : (chains place : ℕ) → chains - (place + 1) ≡ chains - 1 - place
one_less chains place = omega arith

pub behind-within : (chains place : ℕ) → chains - 1 - place < chains + 1
behind-within chains place = omega arith

pub behind-few : (chains place : ℕ) {m : ℕ} → chains ≤ m → chains - 1 - place ≤ m
behind-few chains place h = omega arith

pub from-few : (chains place : ℕ) {m : ℕ} → chains ≤ m → chains - place ≤ m
from-few chains place h = omega arith

pub less_left : (left j : ℕ) {m : ℕ} → left ≤ m → left - j ≤ m
less_left left j h = omega arith

pub left-within : (left j : ℕ) {m : ℕ} → left ≤ m → left - j < m + 1
left-within left j h = omega arith

pub share-at : (first left j : ℕ) → j ≤ left → first + left - j ≡ first + (left - j)
share-at first left j h = omega arith

pub share-within : (first left j : ℕ) {m : ℕ} → 5 * (first + left) + 5 ≤ m → 5 * (first + left - j) + 5 ≤ m
share-within first left j h = omega arith

pub not_above : (a b : ℕ) {c : ℕ} → a + b ≡ c → b ≤ c
not_above a b e = omega arith
