-- The numbers D row by row, each row from the one before in one pass, so that a large one can be computed; and the gate profile's count.
use mathlib.Core.Path.{◌≡◌, refl, sym, ap, ◌∙◌}
use mathlib.Core.Logic.{◌⊎◌, inl, inr}
use mathlib.Core.List.{List, [], ◌∷◌, ◌++◌}
use Prim.Native.Nat.{ℕ, zero, suc, ◌+◌, ◌-◌, ◌≤◌, ◌<◌}
use native.Mathlib.Nat.{add-zero, zero-add}
use native.Mathlib.Omega.{arith}
use lib.Dec.{lit≤}
use lib.ListN.{length, get_or, drop, replicate, length-replicate, get_or-replicate, get_or-append}
use lib.Seq.{get_or-drop, get_or-append-add}
use Rattle.lists.proofs.Numbers.{lt_or_le}
use Rattle.counts.specs.Counts.{share, D}
use Rattle.counts.proofs.CountLaws.{D-window, share-low, share-high, share-before, share-start}

abbrev zeros : ℕ → List ℕ
zeros n = replicate n 0

-- running sums: each is the one before with a number more and another less
unfoldable windows : (sum : ℕ) (entering leaving : List ℕ) → List ℕ
windows sum [] leaving = []
windows sum (x ∷ entering) leaving = let next = sum + x - get_or leaving 0 0 in next ∷ windows next entering (drop 1 leaving)

-- D(i, 0), …, D(i, s)
unfoldable row_to : (w s i : ℕ) → List ℕ
row_to w s zero = 1 ∷ zeros s
row_to w s (suc i) = let row = row_to w s i in windows 0 row (zeros w ++ row)

length-windows : (sum : ℕ) (entering leaving : List ℕ) → length (windows sum entering leaving) ≡ length entering
unfolding windows
length-windows sum [] leaving = refl
length-windows sum (x ∷ entering) leaving = ap suc (length-windows (sum + x - get_or leaving 0 0) entering (drop 1 leaving))

-- the next number of row suc i, from the one before it, the number that enters and the one that leaves
next-window : (w i k x y : ℕ) → 1 ≤ w → x ≡ D w i (k + 0) → y ≡ share (D w i) (k + 0) w → share (D w (suc i)) k 1 + x - y ≡ D w (suc i) k
next-window w i k x y one enters leaves =
    let x-is : x ≡ D w i k = rw add-zero at enters in
    let y-is : y ≡ share (D w i) k w = rw add-zero at leaves in
    omega (arith, D-window w i k one)

-- the numbers of row suc i from D(suc i, k) on, where those of row i enter and those w places before them leave
windows_are : (w i k : ℕ) (entering leaving : List ℕ) → 1 ≤ w
    → ((j : ℕ) → j < length entering → get_or entering j 0 ≡ D w i (k + j))
    → ((j : ℕ) → j < length entering → get_or leaving j 0 ≡ share (D w i) (k + j) w)
    → (j : ℕ) → j < length entering → get_or (windows (share (D w (suc i)) k 1) entering leaving) j 0 ≡ D w (suc i) (k + j)
unfolding windows
windows_are w i k [] leaving one enters leaves j h = absurd (omega arith)
windows_are w i k (x ∷ entering) leaving one enters leaves zero h =
    rw add-zero (next-window w i k x (get_or leaving 0 0) one (enters 0 (omega arith)) (leaves 0 (omega arith)))
windows_are w i k (x ∷ entering) leaving one enters leaves (suc j) h =
    let on : (m : ℕ) → k + suc m ≡ k + 1 + m = λ m. omega arith in
    let first = next-window w i k x (get_or leaving 0 0) one (enters 0 (omega arith)) (leaves 0 (omega arith)) in
    let others = windows_are w i (k + 1) entering (drop 1 leaving) one (λ m n. rw (← on m) (enters (suc m) (omega arith)))
    (λ m n. get_or-drop 1 leaving m 0 ∙ leaves (1 + m) (omega arith) ∙ ap (λ t. share (D w i) t w) (omega arith)) j (omega arith) in
    rw (first, on j) (rw share-before at others)

length_row : (w s i : ℕ) → length (row_to w s i) ≡ suc s
unfolding row_to
length_row w s zero = ap suc (length-replicate s 0)
length_row w s (suc i) = length-windows 0 (row_to w s i) (zeros w ++ row_to w s i) ∙ length_row w s i

-- behind w zeros each number stands w places on
behind-zeros : (w n : ℕ) (f : ℕ → ℕ) (l : List ℕ) → ((j : ℕ) → j < n → get_or l j 0 ≡ f j) → (j : ℕ) → j < n → get_or (zeros w ++ l) j 0 ≡ share f j w
behind-zeros w n f l are j h = by (lt_or_le j w)
  where
    long : length (zeros w) ≡ w
    long = length-replicate {A = ℕ} w 0

    by : (j < w) ⊎ (w ≤ j) → get_or (zeros w ++ l) j 0 ≡ share f j w
    by (inl before) =
        get_or-append (zeros w) l 0 j (omega (arith, long)) ∙ get_or-replicate w j 0 0 before ∙ sym (share-high f j w before)
    by (inr behind) =
        let place : j ≡ length (zeros w) + (j - w) = omega (arith, long) in
        ap (λ t. get_or (zeros w ++ l) t 0) place ∙ get_or-append-add (zeros w) l (j - w) 0 ∙ are (j - w) (omega arith) ∙ sym (share-low f j w behind)

row_is : (w s i : ℕ) → 1 ≤ w → (t : ℕ) → t ≤ s → get_or (row_to w s i) t 0 ≡ D w i t
unfolding row_to D
row_is w s zero one zero h = refl
row_is w s zero one (suc t) h = get_or-replicate s t 0 0 h
row_is w s (suc i) one t h =
    let row = row_to w s i in
    let all : length row ≡ suc s = length_row w s i in
    let before : (j : ℕ) → j < length row → get_or row j 0 ≡ D w i j = λ j less. row_is w s i one j (omega arith) in
    rw (zero-add, share-start (D w (suc i)))
    at (windows_are w i 0 row (zeros w ++ row) one (λ j less. rw zero-add (before j less))
    (λ j less. rw zero-add (behind-zeros w (length row) (D w i) row before j less)) t (omega arith))

computed : get_or (row_to 16 255 34) 255 0 ≡ 1287155674008337910149577743336952677632
unfolding windows row_to
computed = refl

-- the gate profile's count: "l = 34, w = 16, s = 255"
pub gate-count : D 16 34 255 ≡ 1287155674008337910149577743336952677632
gate-count = sym (row_is 16 255 34 (lit≤ tt) 255 (lit≤ tt)) ∙ computed
