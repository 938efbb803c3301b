-- Where each number stands in the table, and what a store of the next one makes of it.
use mathlib.Core.Path.{◌≡◌, refl, ◌∙◌, ap, sym}
use mathlib.Core.Logic.{⊎_elim}
use mathlib.Core.List.{List, ◌∷◌, ◌++◌, append_assoc, append-nil}
use Prim.Native.Nat.{ℕ, zero, suc, ◌+◌, ◌-◌, ◌*◌, ◌<◌, ◌≤◌}
use native.Mathlib.Nat.{eq-or-lt_of_le, le_of_suc-le-suc, mul-le-mul_right, suc-mul, add-zero}
use native.Mathlib.Numerals.{add-one}
use native.Mathlib.Omega.{arith}
use lib.ListN.{length, take, drop, set, replicate, replicate-append-replicate, length-append, length-take, take-append-drop}
use lib.Seq.{take_at, drop_at, drop-append-add, drop-drop, take-length, paste}
use Rattle.numbers.specs.Number.{to_words}
use Rattle.numbers.proofs.NumberLaws.{length-to_words}
use Rattle.counts.specs.Counts.{D}
use Rattle.counts.specs.Table.{cells, rows}

-- where the next row starts
pub row_end : (i s : ℕ) → (i + 1) * (s + 1) ≡ i * (s + 1) + (s + 1)
row_end i s = rw add-one (suc-mul i (s + 1))

length-cells : (f : ℕ → ℕ) (n : ℕ) → length (cells f n) ≡ 5 * n
unfolding cells
length-cells f zero = refl
length-cells f (suc n) = length-append (cells f n) (to_words 5 (f n)) ∙ omega (arith, length-cells f n, length-to_words 5 (f n))

-- row 0 is one way to have the sum 0, and none to have another
first_cells : (w n : ℕ) → cells (D w 0) (suc n) ≡ 1 ∷ replicate (5 * n + 4) 0
unfolding cells D to_words
first_cells w zero = refl
first_cells w (suc n) =
    let more : 5 * n + 4 + 5 ≡ 5 * suc n + 4 = omega arith in
    rw (first_cells w n, ← more) (ap (λ l. 1 ∷ l) (replicate-append-replicate (5 * n + 4) 5 0))

-- it stands where all is 0 but the first word
pub first_row_is : (w s : ℕ) (work : List ℕ) {k : ℕ} {zeros : List ℕ} → k ≡ 5 * (s + 1) → zeros ≡ replicate k 0
    → set (zeros ++ drop (5 * (s + 1)) work) 0 1 ≡ rows w s 1 ++ drop (5 * (1 * (s + 1))) work
unfolding rows
first_row_is w s work {k} long e =
    let some : k ≡ suc (5 * s + 4) = omega arith in
    let all : 5 * (1 * (s + 1)) ≡ 5 * (s + 1) = omega arith in
    rw (e, some, all, add-one s, first_cells w s) refl

-- the t-th of n numbers, with more behind them
cell_in : (f : ℕ → ℕ) (n t : ℕ) (more : List ℕ) → t < n → take 5 (drop (5 * t) (cells f n ++ more)) ≡ to_words 5 (f t)
unfolding cells
cell_in f zero t more h = absurd (omega arith)
cell_in f (suc n) t more h =
    rw append_assoc
    (⊎_elim
    (λ e. rw e (ap (take 5) (drop_at (cells f n) (to_words 5 (f n) ++ more) (5 * n) (length-cells f n))
    ∙ take_at (to_words 5 (f n)) more 5 (length-to_words 5 (f n))))
    (λ l. cell_in f n t (to_words 5 (f n) ++ more) l) (eq-or-lt_of_le (le_of_suc-le-suc h)))

length-rows : (w s n : ℕ) → length (rows w s n) ≡ 5 * (n * (s + 1))
unfolding rows
length-rows w s zero = omega arith
length-rows w s (suc n) =
    length-append (rows w s n) (cells (D w n) (s + 1)) ∙ rw suc-mul (omega (arith, length-rows w s n, length-cells (D w n) (s + 1)))

module _ (w s : ℕ) where
  -- a number of the row that follows n rows
  after-rows : (n t : ℕ) (more : List ℕ) → drop (5 * (n * (s + 1) + t)) (rows w s n ++ more) ≡ drop (5 * t) more
  after-rows n t more =
      let e : 5 * (n * (s + 1) + t) ≡ length (rows w s n) + 5 * t = omega (arith, length-rows w s n) in
      rw e (drop-append-add (rows w s n) more (5 * t))

  -- D(i, t) in n rows, with more behind them
  pub cell_row : (n i t : ℕ) (more : List ℕ) → i < n → t < s + 1 → take 5 (drop (5 * (i * (s + 1) + t)) (rows w s n ++ more)) ≡ to_words 5 (D w i t)
  unfolding rows
  cell_row zero i t more h k = absurd (omega arith)
  cell_row (suc n) i t more h k =
      rw append_assoc
      (⊎_elim
      (λ e. rw e (ap (take 5) (after-rows n t (cells (D w n) (s + 1) ++ more)) ∙ cell_in (D w n) (s + 1) t more k))
      (λ l. cell_row n i t (cells (D w n) (s + 1) ++ more) l k) (eq-or-lt_of_le (le_of_suc-le-suc h)))

  -- a work slice that holds the rows
  pub rows_split : (n : ℕ) (table : List ℕ) → take (5 * (n * (s + 1))) table ≡ rows w s n → table ≡ rows w s n ++ drop (5 * (n * (s + 1))) table
  rows_split n table e = rw (← e) (sym (take-append-drop (5 * (n * (s + 1))) table))

  -- D(i, t) in it
  pub cell_of : (n i t : ℕ) (table : List ℕ) → take (5 * (n * (s + 1))) table ≡ rows w s n → i < n → t < s + 1
      → take 5 (drop (5 * (i * (s + 1) + t)) table) ≡ to_words 5 (D w i t)
  cell_of n i t table e h k =
      ap (λ l. take 5 (drop (5 * (i * (s + 1) + t)) l)) (rows_split n table e) ∙ cell_row n i t (drop (5 * (n * (s + 1))) table) h k

  -- there is room for it
  pub cell_within : (n : ℕ) (table : List ℕ) → take (5 * (n * (s + 1))) table ≡ rows w s n → (i t : ℕ) → i < n → t ≤ s
      → 5 * (i * (s + 1) + t) + 5 ≤ length table
  cell_within n table e i t above within =
      let long : 5 * (n * (s + 1)) ≤ length table = omega (arith, length-take (5 * (n * (s + 1))) table, ap length e, length-rows w s n) in
      omega (arith, suc-mul i (s + 1), mul-le-mul_right (s + 1) above)

  -- the rows above i, and the row i up to t
  length_before : (i t : ℕ) → length (rows w s i ++ cells (D w i) t) ≡ 5 * (i * (s + 1) + t)
  length_before i t = length-append (rows w s i) (cells (D w i) t) ∙ omega (arith, length-rows w s i, length-cells (D w i) t)

  -- a work slice with the rows above i, as it is where the row i begins
  pub row_begins : (i : ℕ) (work : List ℕ) → take (5 * (i * (s + 1))) work ≡ rows w s i
      → work ≡ rows w s i ++ cells (D w i) 0 ++ drop (5 * (i * (s + 1) + 0)) work
  unfolding cells
  row_begins i work e = rw (add-zero, append-nil) (rows_split i work e)

  -- the cell t stored behind what is before it
  cell_stored : (i t : ℕ) (work : List ℕ) → 5 * (i * (s + 1) + t) + 5 ≤ length work
      → paste (rows w s i ++ cells (D w i) t ++ drop (5 * (i * (s + 1) + t)) work) (5 * (i * (s + 1) + t)) (to_words 5 (D w i t)) 5
      ≡ rows w s i ++ cells (D w i) (suc t) ++ drop (5 * (i * (s + 1) + suc t)) work
  unfolding cells
  cell_stored i t work h =
      let k = 5 * (i * (s + 1) + t) in
      let front = rows w s i ++ cells (D w i) t in
      let n = to_words 5 (D w i t) in
      let e : k + 5 ≡ 5 * (i * (s + 1) + suc t) = omega arith in
      let all : take 5 n ≡ n = ap (λ m. take m n) (sym (length-to_words 5 (D w i t))) ∙ take-length n in
      let back : drop (k + 5) (front ++ drop k work) ≡ drop (5 * (i * (s + 1) + suc t)) work =
      ap (λ m. drop (m + 5) (front ++ drop k work)) (sym (length_before i t)) ∙ drop-append-add front (drop k work) 5 ∙ drop-drop 5 k work
      ∙ ap (λ m. drop m work) e in
      rw (take_at front (drop k work) k (length_before i t), all, back) (simp append_assoc)

  -- a turn of the loop that fills a row
  pub next_cell : (i t : ℕ) (work table n next : List ℕ) → 5 * (i * (s + 1) + t) + 5 ≤ length work
      → table ≡ rows w s i ++ cells (D w i) t ++ drop (5 * (i * (s + 1) + t)) work → n ≡ to_words 5 (D w i t) → next ≡ paste table (5 * (i * (s + 1) + t)) n 5
      → next ≡ rows w s i ++ cells (D w i) (t + 1) ++ drop (5 * (i * (s + 1) + (t + 1))) work
  next_cell i t work table n next h e f g = g ∙ rw (e, f, add-one t) (cell_stored i t work h)

  -- a whole row is the next of the rows
  pub row_ends : (i : ℕ) (work : List ℕ) → rows w s i ++ cells (D w i) (s + 1) ++ drop (5 * (i * (s + 1) + (s + 1))) work ≡ rows w s (i + 1) ++ drop
      (5 * ((i + 1) * (s + 1))) work
  unfolding rows
  row_ends i work = rw (row_end i s, add-one i)

  -- the rows above i
  pub above_row : (i : ℕ) (work table : List ℕ) → table ≡ rows w s i ++ work → take (5 * (i * (s + 1))) table ≡ rows w s i
  above_row i work table e = rw e (take_at (rows w s i) work (5 * (i * (s + 1))) (length-rows w s i))

  -- the same where the row i is there up to t
  pub above_cell : (i t : ℕ) (work table : List ℕ) → table ≡ rows w s i ++ cells (D w i) t ++ work → take (5 * (i * (s + 1))) table ≡ rows w s i
  above_cell i t work table e = above_row i (cells (D w i) t ++ work) table (e ∙ append_assoc (rows w s i) (cells (D w i) t) work)

  -- rows filled over those above them leave what is behind both
  pub rows-over : {i j : ℕ} → i ≤ j → (work : List ℕ) {table next : List ℕ} → table ≡ rows w s i ++ drop (5 * (i * (s + 1))) work
      → next ≡ rows w s j ++ drop (5 * (j * (s + 1))) table
      → next ≡ rows w s j ++ drop (5 * (j * (s + 1))) work
  rows-over {i} {j} h work {table} e f =
      let more = j * (s + 1) - i * (s + 1) in
      let within = mul-le-mul_right (s + 1) h in
      let k : 5 * (j * (s + 1)) ≡ length (rows w s i) + 5 * more = omega (arith, within, length-rows w s i) in
      let m : 5 * (i * (s + 1)) + 5 * more ≡ 5 * (j * (s + 1)) = omega (arith, within) in
      let behind : drop (5 * (j * (s + 1))) table ≡ drop (5 * (j * (s + 1))) work =
      ap (drop (5 * (j * (s + 1)))) e ∙ ap (λ n. drop n (rows w s i ++ drop (5 * (i * (s + 1))) work)) k
      ∙ drop-append-add (rows w s i) (drop (5 * (i * (s + 1))) work) (5 * more) ∙ drop-drop (5 * more) (5 * (i * (s + 1))) work ∙ ap (λ n. drop n work) m in
      f ∙ ap (λ l. rows w s j ++ l) behind
