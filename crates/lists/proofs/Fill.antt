-- Lists that are filled from the front, and runs of stores.
use mathlib.Core.Path.{◌≡◌, ◌∙◌, ap, sym}
use mathlib.Core.List.{List, [], ◌∷◌, ◌++◌, append_assoc}
use Prim.Native.Nat.{ℕ, suc, ◌+◌, ◌-◌, ◌<◌, ◌≤◌}
use native.Mathlib.Omega.{arith}
use lib.ListN.{length, take, drop, set, replicate, length-append, length-drop, length-replicate, replicate-append-replicate}
use lib.Seq.{take_all, set_at, append_snoc, take_at, take-length, drop_at, drop-append-add, drop-set-lt, drop-drop, paste}

module _ {A : Type 0} where
  -- a turn's store: behind the n elements that are there, the first of the fill is replaced
  pub store-next : (l : List A) (z a : A) (n m : ℕ) → length l ≡ n → n < m
      → set (l ++ replicate (m - n) z) n a ≡ (l ++ (a ∷ [])) ++ replicate (m - suc n) z
  store-next l z a n m e h =
      let left : m - n ≡ suc (m - suc n) = omega arith in
      rw left (set_at l z (replicate (m - suc n) z) a n e ∙ sym (append_snoc l a (replicate (m - suc n) z)))

  pub drop-replicate : (k n : ℕ) (z : A) → k ≤ n → drop k (replicate n z) ≡ replicate (n - k) z
  drop-replicate k n z h =
      let e : k + (n - k) ≡ n = omega arith in
      rw e at (rw replicate-append-replicate at (drop_at (replicate k z) (replicate (n - k) z) k (length-replicate k z)))

  -- a front that ends within the fill
  pub take_fill : (l : List A) (z : A) (n k m : ℕ) → length l ≡ n → n ≤ k → k ≤ m → take k (l ++ replicate (m - n) z) ≡ l ++ replicate (k - n) z
  take_fill l z n k m e low high =
      let whole : k - n + (m - k) ≡ m - n = omega arith in
      let long : length (l ++ replicate (k - n) z) ≡ k = length-append l (replicate (k - n) z) ∙ rw (length-replicate, e) (omega arith) in
      rw (← whole, ← replicate-append-replicate, ← append_assoc) (take_at (l ++ replicate (k - n) z) (replicate (m - k) z) k long)

  -- a paste behind the n elements in front replaces as many behind them
  pub paste_behind : (front l s : List A) (n : ℕ) → length front ≡ n → paste (front ++ l) n s (length s) ≡ front ++ s ++ drop (length s) l
  paste_behind front l s n e =
      let back : drop (n + length s) (front ++ l) ≡ drop (length s) l =
      ap (λ k. drop (k + length s) (front ++ l)) (sym e) ∙ drop-append-add front l (length s) in
      rw (take_at front l n e, take-length, back)

  -- as much of a fill
  pub paste_next : (l : List A) (z : A) (s : List A) (n m : ℕ) → length l ≡ n → n + length s ≤ m
      → paste (l ++ replicate (m - n) z) n s (length s) ≡ l ++ s ++ replicate (m - (n + length s)) z
  paste_next l z s n m e h =
      let behind : m - n - length s ≡ m - (n + length s) = omega arith in
      paste_behind l (replicate (m - n) z) s n e ∙ rw (drop-replicate (length s) (m - n) z (omega arith), behind)

  -- the same of a list that is known by equations
  pub pasted : (l : List A) (z : A) (s : List A) (n m : ℕ) {d r : List A} → length l ≡ n → n + length s ≤ m
      → d ≡ l ++ replicate (m - n) z → r ≡ paste d n s (length s) → r ≡ l ++ s ++ replicate (m - (n + length s)) z
  pasted l z s n m e h p q = q ∙ ap (λ d. paste d n s (length s)) p ∙ paste_next l z s n m e h

  -- a part up to the end
  pub part_to_end : (l : List A) (a : ℕ) → take (length l - a) (drop a l) ≡ drop a l
  part_to_end l a = take_all (length l - a) (drop a l) (omega (arith, length-drop a l))

  -- what is behind the elements stored so far stays
  pub behind-next : (l old : List A) (k : ℕ) (a : A) → drop k l ≡ drop k old → drop (k + 1) (set l k a) ≡ drop (k + 1) old
  behind-next l old k a e =
      drop-set-lt (k + 1) l k a (omega arith) ∙ sym (drop-drop 1 k l) ∙ ap (drop 1) e ∙ drop-drop 1 k old
