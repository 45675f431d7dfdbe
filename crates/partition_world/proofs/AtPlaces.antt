-- Elements read at places of a list.
use Rattle.std.proofs.Common.{◌≡◌, ℕ, zero, suc, ◌+◌, ◌<◌, ◌≤◌, true, false, Bool, cond, List, [], ◌∷◌, ◌++◌, map, filter, length, take, Option, Some, None, slice_get, get_or, refl, ap, sym, ◌∙◌, arith, append_assoc, append-nil}
use Rattle.std.specs.List.{cons_option}
use Rattle.std.specs.Option.{option_map}
use Rattle.std.proofs.lemmas.List.Elements.{filter_map-append, filter_more}
use Rattle.std.proofs.lemmas.Option.{slice_get_read, slice_get-map, slice_get_within, get_or_from_slice_get}
use Rattle.partition_world.specs.Places.{at_places, AreBelow}
use Rattle.partition_world.proofs.Places.{there_at}

-- places below a bound

pub below_rest : (n k : ℕ) (ks : List ℕ) → AreBelow n (k ∷ ks) → AreBelow n ks
below_rest n k ks all i d within = all (suc i) d (omega (arith, within))

pub below_first : (n k : ℕ) (ks : List ℕ) → AreBelow n (k ∷ ks) → k < n
below_first n k ks all = all zero 0 (omega arith)

pub below_more : (n : ℕ) (ks : List ℕ) (k : ℕ) → AreBelow n ks → k < n → AreBelow n (ks ++ k ∷ [])
below_more n [] k all within zero d lt = within
below_more n [] k all within (suc i) d lt = absurd (omega (arith, lt))
below_more n (j ∷ ks) k all within zero d lt = below_first n j ks all
below_more n (j ∷ ks) k all within (suc i) d lt = below_more n ks k (below_rest n j ks all) within i d (omega (arith, lt))

pub below_wider : (m n : ℕ) (ks : List ℕ) → m ≤ n → AreBelow m ks → AreBelow n ks
below_wider m n ks wider all i d within = let below : get_or ks i d < m = all i d within in omega arith

-- what is read there

pub get_front : {X : Type 0} (xs ys : List X) (k : ℕ) → k < length xs → slice_get (xs ++ ys) k ≡ slice_get xs k
get_front [] ys k within = absurd (omega (arith, within))
get_front (x ∷ xs) ys zero within = refl
get_front (x ∷ xs) ys (suc k) within = get_front xs ys k (omega (arith, within))

pub get_last : {X : Type 0} (xs : List X) (x : X) → slice_get (xs ++ x ∷ []) (length xs) ≡ Some x
get_last [] x = refl
get_last (y ∷ xs) x = get_last xs x

pub at_append : {X : Type 0} (xs : List X) (ks js : List ℕ) → at_places xs (ks ++ js) ≡ at_places xs ks ++ at_places xs js
at_append xs ks js = filter_map-append (slice_get xs) ks js

pub at_more : {X : Type 0} (xs : List X) (ks : List ℕ) (k : ℕ) (x : X) → slice_get xs k ≡ Some x → at_places xs (ks ++ k ∷ []) ≡ at_places xs ks ++ x ∷ []
at_more xs ks k x there = at_append xs ks (k ∷ []) ∙ rw there refl

-- a longer list has the same at the places of the shorter one
pub at_front : {X : Type 0} (xs ys : List X) (ks : List ℕ) → AreBelow (length xs) ks → at_places (xs ++ ys) ks ≡ at_places xs ks
at_front xs ys [] all = refl
at_front xs ys (k ∷ ks) all = rw (get_front xs ys k (below_first (length xs) k ks all), at_front xs ys ks (below_rest (length xs) k ks all)) refl

pub at_map : {X Y : Type 0} (f : X → Y) (xs : List X) (ks : List ℕ) → map f (at_places xs ks) ≡ at_places (map f xs) ks
at_map f xs [] = refl
at_map f xs (k ∷ ks) = rw (slice_get-map f xs k, ← at_map f xs ks) (go (slice_get xs k))
  where
    go : (o : Option _) → map f (cons_option o (at_places xs ks)) ≡ cons_option (option_map f o) (map f (at_places xs ks))
    go None = refl
    go (Some x) = refl

-- each place has its element

pub length_at : {X : Type 0} (xs : List X) (ks : List ℕ) → AreBelow (length xs) ks → length (at_places xs ks) ≡ length ks
length_at xs [] all = refl
length_at xs (k ∷ ks) all =
    let there = there_at xs k (below_first (length xs) k ks all) in
    rw (there.1) (ap suc (length_at xs ks (below_rest (length xs) k ks all)))

pub get_at : {X : Type 0} (xs : List X) (ks : List ℕ) (i k : ℕ) → AreBelow (length xs) ks → slice_get ks i ≡ Some k → slice_get (at_places xs ks) i ≡ slice_get xs k
get_at xs [] i k all there = absurd cc
get_at xs (j ∷ ks) zero k all there =
    let same : j ≡ k = cc in
    let e = there_at xs j (below_first (length xs) j ks all) in
    ap (λ o. slice_get (cons_option o (at_places xs ks)) zero) e.1 ∙ sym e.1 ∙ ap (slice_get xs) same
get_at xs (j ∷ ks) (suc i) k all there =
    let e = there_at xs j (below_first (length xs) j ks all) in
    ap (λ o. slice_get (cons_option o (at_places xs ks)) (suc i)) e.1 ∙ get_at xs ks i k (below_rest (length xs) j ks all) there

pub place_within : {X : Type 0} (xs : List X) (ks : List ℕ) (i : ℕ) → AreBelow (length xs) ks → i < length (at_places xs ks) → i < length ks
place_within xs ks i all within = omega (arith, length_at xs ks all)

pub below_at : (n : ℕ) (ks : List ℕ) (i k : ℕ) → AreBelow n ks → i < length ks → k ≡ get_or ks i k → k < n
below_at n ks i k all within read = let below : get_or ks i k < n = all i k within in omega arith

-- Places in order, of the elements that pass a test
module _ {X : Type 0} (xs : List X) (q : X → Bool) (before so_far : List ℕ) (i : ℕ) (x : X) (there : slice_get xs i ≡ Some x)
    (kept : at_places xs so_far ≡ at_places xs before ++ filter q (take i xs)) where
  one_more : filter q (take (i + 1) xs) ≡ filter q (take i xs) ++ cond (q x) (x ∷ []) []
  one_more =
      filter_more q xs i x (slice_get_within xs i x there)
      ∙ ap (λ y. filter q (take i xs) ++ cond (q y) (y ∷ []) []) (get_or_from_slice_get xs i x x there)

  pub passes : q x ≡ true → at_places xs (so_far ++ i ∷ []) ≡ at_places xs before ++ filter q (take (i + 1) xs)
  passes e =
      at_more xs so_far i x there ∙ ap (λ ys. ys ++ x ∷ []) kept ∙ append_assoc (at_places xs before) (filter q (take i xs)) (x ∷ [])
      ∙ ap (λ ys. at_places xs before ++ ys) (sym (one_more ∙ ap (λ b. filter q (take i xs) ++ cond b (x ∷ []) []) e))

  pub fails : q x ≡ false → at_places xs so_far ≡ at_places xs before ++ filter q (take (i + 1) xs)
  fails e =
      kept ∙ ap (λ ys. at_places xs before ++ ys) (sym (one_more ∙ ap (λ b. filter q (take i xs) ++ cond b (x ∷ []) []) e ∙ append-nil (filter q (take i xs))))

-- what is read of a mapped list
pub read_map : {X Y : Type 0} (f : X → Y) (xs : List X) (i : ℕ) (x : X) → i < length xs → x ≡ get_or xs i x → slice_get (map f xs) i ≡ Some (f x)
read_map f xs i x within is = slice_get-map f xs i ∙ ap (option_map f) (slice_get_read xs (length xs) i x refl within is)
