-- Lists by their members and by pairs of an earlier and a later one: by their places too, and what a permutation keeps.
use mathlib.Core.Path.{◌≡◌, sym, subst}
use mathlib.Core.List.{List, [], ◌∷◌, ◌++◌, map, Permᴰ}
use Prim.Native.Nat.{ℕ, zero, suc, ◌<◌}
use native.Mathlib.Nat.{le_of_suc-le-suc}
use native.Mathlib.Omega.{arith}
use lib.ListN.{length, get_or}
use Rattle.lists.specs.Distinct.{Distinct}

module _ {A : Type 0} where
  -- every member has P
  abbrev pub Each : (A → Type 0) → List A → Type 0
  Each P [] = Unit {0}
  Each P (x ∷ xs) = P x × Each P xs

  -- each member has R with every later one
  abbrev pub Pairs : (A → A → Type 0) → List A → Type 0
  Pairs R [] = Unit {0}
  Pairs R (x ∷ xs) = Each (R x) xs × Pairs R xs

  pub each-always : (P : A → Type 0) → ((x : A) → P x) → (xs : List A) → Each P xs
  each-always P f [] = tt
  each-always P f (x ∷ xs) = (f x, each-always P f xs)

  pub each_append : (P : A → Type 0) (xs ys : List A) → Each P xs → Each P ys → Each P (xs ++ ys)
  each_append P [] ys ps qs = qs
  each_append P (x ∷ xs) ys ps qs = (ps.0, each_append P xs ys ps.1 qs)

  pub each-front : (P : A → Type 0) (xs ys : List A) → Each P (xs ++ ys) → Each P xs
  each-front P [] ys all = tt
  each-front P (x ∷ xs) ys all = (all.0, each-front P xs ys all.1)

  pub each_imply : (P Q : A → Type 0) → ((x : A) → P x → Q x) → (xs : List A) → Each P xs → Each Q xs
  each_imply P Q f [] all = tt
  each_imply P Q f (x ∷ xs) all = (f x all.0, each_imply P Q f xs all.1)

  pub each_with : (P Q S : A → Type 0) → ((x : A) → P x → Q x → S x) → (xs : List A) → Each P xs → Each Q xs → Each S xs
  each_with P Q S f [] ps qs = tt
  each_with P Q S f (x ∷ xs) ps qs = (f x ps.0 qs.0, each_with P Q S f xs ps.1 qs.1)

  pub pairs_front : (R : A → A → Type 0) (xs ys : List A) → Pairs R (xs ++ ys) → Pairs R xs
  pairs_front R [] ys all = tt
  pairs_front R (x ∷ xs) ys all = (each-front (R x) xs ys all.0, pairs_front R xs ys all.1)

  pub pairs_imply : (R S : A → A → Type 0) → ((x y : A) → R x y → S x y) → (xs : List A) → Pairs R xs → Pairs S xs
  pairs_imply R S f [] all = tt
  pairs_imply R S f (x ∷ xs) all = (each_imply (R x) (S x) (f x) xs all.0, pairs_imply R S f xs all.1)

  pub pairs_with : (R S T : A → A → Type 0) → ((x y : A) → R x y → S x y → T x y) → (xs : List A) → Pairs R xs → Pairs S xs → Pairs T xs
  pairs_with R S T f [] rs ss = tt
  pairs_with R S T f (x ∷ xs) rs ss = (each_with (R x) (S x) (T x) (f x) xs rs.0 ss.0, pairs_with R S T f xs rs.1 ss.1)

  -- a permutation keeps what every member has, and what every pair has either way round
  pub each_permuted : (P : A → Type 0) {xs ys : List A} → Permᴰ xs ys → Each P ys → Each P xs
  each_permuted P Permᴰ.nil all = all
  each_permuted P (Permᴰ.cons e d) all = (subst P (sym e) all.0, each_permuted P d all.1)
  each_permuted P (Permᴰ.swap e f) all = (subst P (sym e) all.1.0, (subst P (sym f) all.0, all.1.1))
  each_permuted P (Permᴰ.trans d f) all = each_permuted P d (each_permuted P f all)

  module _ (R : A → A → Type 0) (symmetric : (x y : A) → R x y → R y x) where
    pub pairs_permuted : {xs ys : List A} → Permᴰ xs ys → Pairs R ys → Pairs R xs
    pairs_permuted Permᴰ.nil all = all
    pairs_permuted (Permᴰ.cons {l₁ = xs} e d) all = (subst (λ x. Each (R x) xs) (sym e) (each_permuted (R _) d all.0), pairs_permuted d all.1)
    pairs_permuted (Permᴰ.swap {a} {b} {a'} {b'} {l = xs} e f) all =
        let first = all.0 in
        let second = all.1 in
        let turned = subst (λ x. R x b) (sym e) (subst (R b') (sym f) (symmetric a' b' first.0)) in
        ((turned, subst (λ x. Each (R x) xs) (sym e) second.0), (subst (λ x. Each (R x) xs) (sym f) first.1, second.1))
    pairs_permuted (Permᴰ.trans d f) all = pairs_permuted d (pairs_permuted f all)

  module _ (f : A → ℕ) where
    -- two members have other numbers
    abbrev pub Apart : A → A → Type 0
    Apart x y = f x ≡ f y → ⊥

    -- by places
    pub each-place : (P : ℕ → Type 0) (xs : List A) → ((i : ℕ) → i < length (map f xs) → P (get_or (map f xs) i 0)) → Each (λ x. P (f x)) xs
    each-place P [] at = tt
    each-place P (x ∷ xs) at = (at 0 (omega arith), each-place P xs (λ i h. at (suc i) (omega arith)))

    pub place-each : (P : ℕ → Type 0) (xs : List A) → Each (λ x. P (f x)) xs → (i : ℕ) → i < length (map f xs) → P (get_or (map f xs) i 0)
    place-each P [] all i h = absurd (omega arith)
    place-each P (x ∷ xs) all zero h = all.0
    place-each P (x ∷ xs) all (suc i) h = place-each P xs all.1 i (le_of_suc-le-suc h)

    pub distinct_pairs : (xs : List A) → Pairs Apart xs → Distinct 0 (map f xs)
    distinct_pairs [] all i j less within same = omega arith
    distinct_pairs (x ∷ xs) all zero zero less within same = omega arith
    distinct_pairs (x ∷ xs) all zero (suc j) less within same = place-each (λ n. f x ≡ n → ⊥) xs all.0 j (le_of_suc-le-suc within) same
    distinct_pairs (x ∷ xs) all (suc i) zero less within same = omega arith
    distinct_pairs (x ∷ xs) all (suc i) (suc j) less within same = distinct_pairs xs all.1 i j (le_of_suc-le-suc less) (le_of_suc-le-suc within) same
