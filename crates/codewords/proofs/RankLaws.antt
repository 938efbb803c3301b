-- Gather: the number of a row, place by place, what the causes tell of the row, and what is answered.
use mathlib.Core.Path.{◌≡◌, refl, sym, ap, ◌∙◌}
use mathlib.Core.Bool.{Bool, true, false, not, ◌||◌, true≢false}
use mathlib.Core.List.{List, [], ◌∷◌}
use Prim.Native.Nat.{ℕ, zero, suc, ◌+◌, ◌-◌, ◌*◌, ◌^◌, ◌<◌, ◌≤◌}
use native.Mathlib.Nat.{le_of_suc-le-suc, lt_of_le_of_lt, lt_trans, le_refl}
use native.Mathlib.Numerals.{add-one}
use native.Mathlib.Omega.{arith}
use borrow.Author.Tests.{lt-leb, leb-false, eqb-true, eq-eqb, not-false}
use lib.Dec.{leb, eqb}
use lib.ListN.{length, get_or, take, drop, length-drop, drop_of_length-le}
use lib.Seq.{drop-cons}
use Rattle.std.specs.Prelude.{Result, Ok, Err}
use Rattle.std.specs.List.{list_any, sum}
use Rattle.std.proofs.lemmas.List.Recursion.{is_sum_by}
use Rattle.refusal.specs.Code.{outcome_code, first_cause}
use Rattle.refusal.specs.declared.Refusal.{Refusal}
use Rattle.refusal.proofs.Causes.{Avoids, none_here, granted-none}
use Rattle.numbers.specs.Number.{value, to_words}
use Rattle.numbers.proofs.NumberLaws.{value_to_words_5}
use Rattle.profile.specs.Checks.{InLimits}
use Rattle.profile.specs.declared.Shape.{Shape}
use Rattle.counts.specs.Counts.{sum_to, share, D}
use Rattle.counts.specs.Table.{rows, table_length, with_table, leaves_table}
use Rattle.counts.specs.Operations.{count_causes}
use Rattle.counts.proofs.CountLaws.{sum_to_cong, sum_to_mono, share-low, D-small}
use Rattle.counts.proofs.Room.{count-early, count-passed}
use Rattle.counts.proofs.TableLaws.{cell_of}
use Rattle.counts.proofs.TableOperation.{Refuses, refused, refused-own, granted-own, table-left}
use Rattle.codewords.specs.Codeword.{rank, total, IsCodeword}
use Rattle.codewords.specs.Operations.{number_of, some_above, row_causes, rank_code, Ranks}
use Rattle.codewords.proofs.CodewordLaws.{Front, front, rank_lt}

-- the tests of Gather, as std's words for lists
pub above-any : (w : ℕ) (row : List ℕ) → some_above w row ≡ list_any (leb w) row
unfolding some_above
above-any w [] = refl
above-any w (a ∷ row) = rw (above-any w row) refl

pub total_sum : (row : List ℕ) → total row ≡ sum row
unfolding total
total_sum row = is_sum_by total (λ x. x) refl (λ _ _. refl) row

-- no lengths are left
rank_end : (row : List ℕ) (i : ℕ) → length row ≤ i → (w t : ℕ) → rank w t (drop i row) ≡ 0
unfolding rank
rank_end row i past w t = rw (drop_of_length-le row past)

-- a row with no length above w − 1
none_above : (w : ℕ) (row : List ℕ) → some_above w row ≡ false → (c : ℕ) → c < length row → get_or row c 0 < w
unfolding some_above
none_above w [] none c inside = absurd (omega arith)
none_above w (a ∷ row) none c inside = by (leb w a) refl none c inside (none_above w row)
  where
    by : (test : Bool) → leb w a ≡ test → test || some_above w row ≡ false → (c : ℕ) → c < length (a ∷ row)
        → (some_above w row ≡ false → (d : ℕ) → d < length row → get_or row d 0 < w) → get_or (a ∷ row) c 0 < w
    by true over others c h rest = absurd (true≢false others)
    by false below others zero h rest = leb-false w a below
    by false below others (suc c) h rest = rest others c (le_of_suc-le-suc h)

-- a number to which f 0, f 1, … are added one by one
pub skip_begins : {number : List ℕ} (f : ℕ → ℕ) → number ≡ to_words 5 (value number) → number ≡ to_words 5 (value number + sum_to f 0)
unfolding sum_to
skip_begins f e = e ∙ ap (to_words 5) (omega arith)

-- the next of them is added
module _ (number : List ℕ) (f : ℕ → ℕ) {j digit : ℕ} (more : j < digit) (small : value number + sum_to f digit < 2 ^ 160)
    {n : List ℕ} (share : List ℕ) (so_far : n ≡ to_words 5 (value number + sum_to f j)) (next : value share ≡ f j) where
  sum-next : value n + value share ≡ value number + sum_to f (j + 1)
  unfolding sum_to
  sum-next =
      let below : value number + sum_to f j ≤ value number + sum_to f digit = omega (arith, sum_to_mono f j digit (omega arith)) in
      let before : value n ≡ value number + sum_to f j = ap value so_far ∙ value_to_words_5 _ (lt_of_le_of_lt below small) in
      rw add-one (omega arith)

  pub skip_fits : value n + value share < 2 ^ 160
  skip_fits =
      let within : value n + value share ≤ value number + sum_to f digit = omega (arith, sum-next, sum_to_mono f (j + 1) digit (omega arith)) in
      lt_of_le_of_lt within small

  pub skip_next : {r : List ℕ} → r ≡ to_words 5 (value n + value share) → r ≡ to_words 5 (value number + sum_to f (j + 1))
  skip_next added = added ∙ ap (to_words 5) sum-next

-- the numbers of a table from a place down
abbrev pub down_from : List ℕ → ℕ → ℕ → ℕ
down_from table above j = value (take 5 (drop (5 * (above - j)) table))

-- Gather at a place of a codeword: the lengths from there on, with their sum, are a codeword, and n is what its number lacks of that of the row
pub record Left (w s : ℕ) (row : List ℕ) (place left : ℕ) (n : List ℕ) : Type 0 where
  pub inside : place ≤ length row
  pub most : left ≤ s
  pub rest : IsCodeword w (length (drop place row)) left (drop place row)
  pub passed : rank w left (drop place row) ≤ rank w s row
  pub number : n ≡ to_words 5 (rank w s row - rank w left (drop place row))

module _ {w s : ℕ} {row : List ℕ} (limits : (1 ≤ w) × (w ≤ 16) × (length row ≤ 40) × (s ≤ 600)) (is : IsCodeword w (length row) s row) where
  rank-small : rank w s row < 2 ^ 160
  rank-small = lt_trans (rank_lt w (length row) s row is) (D-small w (length row) s limits.0 limits.1 limits.2)

  pub left_begins : Left w s row 0 s (0 ∷ 0 ∷ 0 ∷ 0 ∷ 0 ∷ [])
  unfolding to_words
  left_begins =
      let none : rank w s row - rank w s row ≡ 0 = omega arith in
      record { inside = omega arith; most = le_refl s; rest = is; passed = le_refl _; number = rw none }

  -- a place before the end
  module _ {place left : ℕ} {n : List ℕ} (more : place < length row) (l : Left w s row place left n) where
    digit-front : Front w left (get_or row place 0) (drop (suc place) row)
    digit-front = front (rw (drop-cons row place 0 more) at l.rest)

    pub digit-within : get_or row place 0 ≤ left
    digit-within = digit-front.within

    skipped : ℕ
    skipped = sum_to (share (D w (length row - 1 - place)) left) (get_or row place 0)

    rank_split : rank w left (drop place row) ≡ skipped + rank w (left - get_or row place 0) (drop (suc place) row)
    unfolding rank skipped
    rank_split =
        let others : length (drop (suc place) row) ≡ length row - 1 - place = omega (arith, length-drop (suc place) row) in
        rw (drop-cons row place 0 more, others)

    value_so_far : value n ≡ rank w s row - rank w left (drop place row)
    value_so_far = rw l.number (value_to_words_5 _ (lt_of_le_of_lt (omega arith) rank-small))

    pub number-words : n ≡ to_words 5 (value n)
    number-words = l.number ∙ ap (to_words 5) (sym value_so_far)

    -- the numbers that are skipped, as they stand in the table
    module _ (table : List ℕ) (holds : take (5 * ((length row + 1) * (s + 1))) table ≡ rows w s (length row + 1)) where
      skipped_at : sum_to (down_from table ((length row - 1 - place) * (s + 1) + left)) (get_or row place 0) ≡ skipped
      unfolding skipped
      skipped_at =
          let i = length row - 1 - place in
          sum_to_cong _ _ (get_or row place 0)
          (λ j h.
          let low : j ≤ left = omega (arith, digit-within) in
          let at : i * (s + 1) + left - j ≡ i * (s + 1) + (left - j) = omega arith in
          let cell = cell_of w s (length row + 1) i (left - j) table holds (omega arith) (omega (arith, l.most)) in
          rw (at, cell, value_to_words_5 (D w i (left - j)) (D-small w i (left - j) limits.0 limits.1 (omega arith))) (sym (share-low (D w i) left j low)))

      pub skipped-small : value n + sum_to (down_from table ((length row - 1 - place) * (s + 1) + left)) (get_or row place 0) < 2 ^ 160
      skipped-small = rw (skipped_at, value_so_far) (lt_of_le_of_lt (omega (arith, rank_split, l.passed)) rank-small)

      pub left-next : {r : List ℕ} → r ≡ to_words 5 (value n + sum_to (down_from table ((length row - 1 - place) * (s + 1) + left)) (get_or row place 0))
          → Left w s row (place + 1) (left - get_or row place 0) r
      left-next e =
          let number : value n + skipped ≡ rank w s row - rank w (left - get_or row place 0) (drop (suc place) row) = omega
          (arith, rank_split, value_so_far, l.passed) in
          rw (add-one place)
          (record {
            inside = more;
            most = omega (arith, l.most);
            rest = digit-front.rest;
            passed = omega (arith, rank_split, l.passed);
            number = e ∙ rw (skipped_at, number);
          })

-- at the end
pub left-ends : {w s : ℕ} {row : List ℕ} {place left : ℕ} {n : List ℕ} → length row ≤ place → Left w s row place left n → n ≡ to_words 5 (rank w s row)
left-ends {w} {s} {row} {place} {left} past l = l.number ∙ ap (to_words 5) (omega (arith, rank_end row place past w left))

-- where each length is below w, none is above w − 1
all-below : (w : ℕ) (row : List ℕ) → ((c : ℕ) → c < length row → get_or row c 0 < w) → some_above w row ≡ false
unfolding some_above
all-below w [] h = refl
all-below w (a ∷ row) h = rw (lt-leb w a (h 0 (omega arith)), all-below w row (λ c l. h (suc c) (omega arith)))

-- the causes of Gather that look at the row
module _ (shape : Shape) (row : List ℕ) where
  -- where none holds, the row is a codeword
  pub row_codeword : first_cause (row_causes shape row) ≡ 0 → IsCodeword shape.width shape.chains shape.sum row
  row_codeword none =
      let last : List (Bool × ℕ) = (not (eqb (total row) shape.sum), 10) ∷ [] in
      let long = none_here (not (eqb (length row) shape.chains)) 8 ((some_above shape.width row, 9) ∷ last) refl none in
      let above = none_here (some_above shape.width row) 9 last refl long.1 in
      let summed = none_here (not (eqb (total row) shape.sum)) 10 [] refl above.1 in
      let chains : length row ≡ shape.chains = eqb-true (length row) shape.chains (not-false _ long.0) in
      record {
        lengths = record { chains = chains; digits = λ c h. none_above shape.width row above.0 c (omega arith) };
        sum = eqb-true (total row) shape.sum (not-false _ summed.0);
      }

  -- a codeword meets none of them
  pub codeword-passes : IsCodeword shape.width shape.chains shape.sum row → first_cause (row_causes shape row) ≡ 0
  codeword-passes h =
      let below = all-below shape.width row (λ c l. h.lengths.digits c (rw h.lengths.chains at l)) in
      rw (eq-eqb (length row) shape.chains h.lengths.chains, below, eq-eqb (total row) shape.sum h.sum)

-- what Gather answers: the causes of Count, then those of the row, and the table past both
module _ (shape : Shape) (row work : List ℕ) where
  abbrev first : List (Bool × ℕ)
  first = count_causes shape (length work)

  abbrev own : List (Bool × ℕ)
  own = row_causes shape row

  abbrev between : Avoids leaves_table (row_causes shape row)
  between = (refl, (refl, (refl, tt)))

  stopped : {cause : Refusal} {answer : Result (List ℕ) Refusal} → Refuses (rank_code shape row work) cause → answer ≡ Err cause → Ranks shape row work work answer
  stopped refuses e = rw e (record { code = refuses.answer; ranked = rw refuses.some refl; table = refuses.untouched shape work })

  module _ {r : Result (Unit {0}) Refusal} (counted : outcome_code r ≡ first_cause (count_causes shape (length work))) where
    pub rank-refused : {cause : Refusal} {answer : Result (List ℕ) Refusal} → r ≡ Err cause → answer ≡ Err cause → Ranks shape row work work answer
    unfolding rank_code
    rank-refused was = stopped (refused first own (count-early shape (length work)) refl counted was)

    module _ {v : Unit {0}} (passed : r ≡ Ok v) where
      -- the table has no cause
      pub rank_limits : InLimits shape × (table_length shape ≤ length work)
      rank_limits = count-passed shape (length work) (granted-none first passed counted)

      module _ {s : Result (Unit {0}) Refusal} (looked : outcome_code s ≡ first_cause (row_causes shape row)) where
        pub rank-row_refused : {cause : Refusal} {answer : Result (List ℕ) Refusal} → s ≡ Err cause → answer ≡ Err cause → Ranks shape row work work answer
        unfolding rank_code
        rank-row_refused was = stopped (refused-own first own [] (count-early shape (length work)) between refl counted passed looked was)

        module _ {u : Unit {0}} (granted : s ≡ Ok u) where
          -- nor does the row have a cause
          pub rank_row : IsCodeword shape.width shape.chains shape.sum row
          rank_row = row_codeword shape row (granted-none own granted looked)

          pub rank-granted : {k left : List ℕ} → k ≡ to_words 5 (number_of shape row) → left ≡ with_table shape work → Ranks shape row work left (Ok k)
          unfolding rank_code
          rank-granted ranked filled =
              let none = (granted-own first own [] (count-early shape (length work)) between refl counted passed looked granted).rest in
              record { code = sym none; ranked = rw none ranked; table = table-left [] tt none shape work filled }
