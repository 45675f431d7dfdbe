-- Lists of which the first element that passes a test goes, or is changed; and lists whose elements are changed each.
use Rattle.std.proofs.Common.{◌≡◌, ℕ, zero, suc, ◌+◌, ◌<◌, Bool, true, false, not, cond, ◌||◌, nat_lt, List, [], ◌∷◌, ◌++◌, map, filter, take, drop, length, get_or, Option, Some, None, option_map, refl, ap, sym, ◌∙◌, arith}
use Rattle.std.specs.Prelude.{slice_get, slice_set}
use Rattle.std.specs.List.{find, list_any, position, position_or_len, remove}
use Rattle.std.specs.Option.{option_map_or}
use Rattle.std.proofs.lemmas.Bool.{ltb-true, lt-ltb}
use Rattle.std.proofs.lemmas.Bool.Decides.{nat_tests}
use Rattle.std.proofs.lemmas.List.Folds.{find_at}
use Rattle.std.proofs.lemmas.Option.{slice_get-get_or}
use Rattle.grid_client.specs.Lists.{erased_by, changed_by}

next : (n : ℕ) → 1 + n ≡ suc n
next n = omega arith

module _ {X : Type 0} (test : X → Bool) where
  pub removed : (xs : List X) → remove xs (position_or_len test xs) ≡ erased_by test xs
  removed [] = refl
  removed (x ∷ xs) = by (test x) (removed xs)
    where
      by : (b : Bool) → remove xs (position_or_len test xs) ≡ erased_by test xs
          → remove (x ∷ xs) (cond (not b) (1 + position_or_len test xs) 0) ≡ cond b xs (x ∷ erased_by test xs)
      by true ih = refl
      by false ih = rw (next (position_or_len test xs)) (ap (λ l. x ∷ l) ih)

  pub changed : (change : X → X) (xs : List X)
      → option_map_or (λ y. slice_set xs (position_or_len test xs) (change y)) (slice_get xs (position_or_len test xs)) xs ≡ changed_by test change xs
  changed change [] = refl
  changed change (x ∷ xs) = by (test x) (changed change xs)
    where
      at : ℕ
      at = position_or_len test xs

      on : (n : ℕ) (o : Option X) → option_map_or (λ y. x ∷ slice_set xs n (change y)) o (x ∷ xs) ≡ x ∷ option_map_or (λ y. slice_set xs n (change y)) o xs
      on n None = refl
      on n (Some y) = refl

      by : (b : Bool) → option_map_or (λ y. slice_set xs (position_or_len test xs) (change y)) (slice_get xs (position_or_len test xs)) xs ≡ changed_by test change xs
          → option_map_or (λ y. slice_set (x ∷ xs) (cond (not b) (1 + position_or_len test xs) 0) (change y)) (slice_get (x ∷ xs) (cond (not b) (1 + position_or_len test xs) 0)) (x ∷ xs) ≡ cond b (change x ∷ xs) (x ∷ changed_by test change xs)
      by true ih = refl
      by false ih = rw (next (position_or_len test xs)) (on (position_or_len test xs) (slice_get xs (position_or_len test xs)) ∙ ap (λ l. x ∷ l) ih)

  pub any_found : (xs : List X) → list_any test xs ≡ nat_lt (position_or_len test xs) (length xs)
  any_found [] = refl
  any_found (x ∷ xs) = by (test x) (any_found xs)
    where
      by : (b : Bool) → list_any test xs ≡ nat_lt (position_or_len test xs) (length xs)
          → (b || list_any test xs) ≡ nat_lt (cond (not b) (1 + position_or_len test xs) 0) (suc (length xs))
      by true ih = grind (arith, nat_tests)
      by false ih = ih ∙ (let e : nat_lt (position_or_len test xs) (length xs) ≡ nat_lt (1 + position_or_len test xs) (suc (length xs)) = grind (arith, nat_tests) in e)

  -- where none passes
  pub none_erased : (xs : List X) → find test xs ≡ None → erased_by test xs ≡ xs
  none_erased [] none = refl
  none_erased (x ∷ xs) none = by (test x) none (none_erased xs)
    where
      by : (b : Bool) → cond b (Some x) (find test xs) ≡ None → (find test xs ≡ None → erased_by test xs ≡ xs) → cond b xs (x ∷ erased_by test xs) ≡ x ∷ xs
      by true h ih = absurd cc
      by false h ih = ap (λ l. x ∷ l) (ih h)

  pub none_changed : (change : X → X) (xs : List X) → find test xs ≡ None → changed_by test change xs ≡ xs
  none_changed change [] none = refl
  none_changed change (x ∷ xs) none = by (test x) none (none_changed change xs)
    where
      by : (b : Bool) → cond b (Some x) (find test xs) ≡ None → (find test xs ≡ None → changed_by test change xs ≡ xs) → cond b (change x ∷ xs) (x ∷ changed_by test change xs) ≡ x ∷ xs
      by true h ih = absurd cc
      by false h ih = ap (λ l. x ∷ l) (ih h)

  pub none_any : (xs : List X) → list_any test xs ≡ false → find test xs ≡ None
  none_any [] none = refl
  none_any (x ∷ xs) none = by (test x) none (none_any xs)
    where
      by : (b : Bool) → (b || list_any test xs) ≡ false → (list_any test xs ≡ false → find test xs ≡ None) → cond b (Some x) (find test xs) ≡ None
      by true h ih = absurd cc
      by false h ih = ih h

  -- what `position` found

  pub position_is : (xs : List X) (i : ℕ) → Some i ≡ position test xs → (i ≡ position_or_len test xs) × (i < length xs)
  position_is xs i found = by (nat_lt (position_or_len test xs) (length xs)) refl found
    where
      by : (b : Bool) → nat_lt (position_or_len test xs) (length xs) ≡ b → Some i ≡ cond b (Some (position_or_len test xs)) None → (i ≡ position_or_len test xs) × (i < length xs)
      by true t is = let same : i ≡ position_or_len test xs = cc in let less : position_or_len test xs < length xs = ltb-true (position_or_len test xs) (length xs) t in (same, omega (arith, same, less))
      by false t is = absurd cc

  pub position_none : (xs : List X) → None ≡ position test xs → find test xs ≡ None
  position_none xs none = by (nat_lt (position_or_len test xs) (length xs)) refl none
    where
      by : (b : Bool) → nat_lt (position_or_len test xs) (length xs) ≡ b → None ≡ cond b (Some (position_or_len test xs)) None → find test xs ≡ None
      by true t is = absurd cc
      by false t is = none_any xs (any_found xs ∙ t)

  pub position_not_any : (xs : List X) → None ≡ position test xs → list_any test xs ≡ false
  position_not_any xs none = by (nat_lt (position_or_len test xs) (length xs)) refl none
    where
      by : (b : Bool) → nat_lt (position_or_len test xs) (length xs) ≡ b → None ≡ cond b (Some (position_or_len test xs)) None → list_any test xs ≡ false
      by true t is = absurd cc
      by false t is = any_found xs ∙ t

  -- it is what `find` finds, and what `remove` leaves is what is left without it
  pub position_found : (xs : List X) (i : ℕ) (x : X) → Some i ≡ position test xs → x ≡ get_or xs i x → find test xs ≡ Some x
  position_found xs i x found is =
      let p = position_is xs i found in
      find_at test xs ∙ ap (slice_get xs) (sym p.0) ∙ slice_get-get_or xs i x p.1 ∙ ap Some (sym is)

  pub position_finds : (xs : List X) (i : ℕ) (x : X) → Some i ≡ position test xs → slice_get xs i ≡ Some x → find test xs ≡ Some x
  position_finds xs i x found at = find_at test xs ∙ ap (slice_get xs) (sym (position_is xs i found).0) ∙ at

  pub position_erased : (xs : List X) (i : ℕ) → Some i ≡ position test xs → remove xs i ≡ erased_by test xs
  position_erased xs i found = ap (remove xs) ((position_is xs i found).0) ∙ removed xs

  pub position_any : (xs : List X) (i : ℕ) → Some i ≡ position test xs → list_any test xs ≡ true
  position_any xs i found =
      let p = position_is xs i found in
      let less : position_or_len test xs < length xs = omega (arith, p.0, p.1) in
      any_found xs ∙ lt-ltb (position_or_len test xs) (length xs) less

  pub position_changed : (change : X → X) (xs : List X) (i : ℕ) (x : X) → Some i ≡ position test xs → slice_get xs i ≡ Some x → slice_set xs i (change x) ≡ changed_by test change xs
  position_changed change xs i x found at =
      let p = position_is xs i found in
      ap (λ (o : Option X). option_map_or (λ (y : X). slice_set xs i (change y)) o xs) (sym at)
      ∙ ap (λ (n : ℕ). option_map_or (λ (y : X). slice_set xs n (change y)) (slice_get xs n) xs) p.0
      ∙ changed change xs

module _ {X Y : Type 0} (f : X → Y) where
  pub find_map : (test : Y → Bool) (xs : List X) → find test (map f xs) ≡ option_map f (find (λ x. test (f x)) xs)
  find_map test [] = refl
  find_map test (x ∷ xs) = by (test (f x)) (find_map test xs)
    where
      by : (b : Bool) → find test (map f xs) ≡ option_map f (find (λ x. test (f x)) xs) → cond b (Some (f x)) (find test (map f xs)) ≡ option_map f (cond b (Some x) (find (λ x. test (f x)) xs))
      by true ih = refl
      by false ih = ih

  pub filter_map_each : (test : Y → Bool) (xs : List X) → filter test (map f xs) ≡ map f (filter (λ x. test (f x)) xs)
  filter_map_each test [] = refl
  filter_map_each test (x ∷ xs) = by (test (f x)) (filter_map_each test xs)
    where
      by : (b : Bool) → filter test (map f xs) ≡ map f (filter (λ x. test (f x)) xs) → cond b (f x ∷ filter test (map f xs)) (filter test (map f xs)) ≡ map f (cond b (x ∷ filter (λ x. test (f x)) xs) (filter (λ x. test (f x)) xs))
      by true ih = ap (λ l. f x ∷ l) ih
      by false ih = ih

  pub take_map : (n : ℕ) (xs : List X) → take n (map f xs) ≡ map f (take n xs)
  take_map zero xs = refl
  take_map (suc n) [] = refl
  take_map (suc n) (x ∷ xs) = ap (λ l. f x ∷ l) (take_map n xs)

-- what stands behind the front
dropped : {X : Type 0} (xs ys : List X) → drop (length xs) (xs ++ ys) ≡ ys
dropped [] ys = refl
dropped (x ∷ xs) ys = dropped xs ys

pub behind : {X : Type 0} (front rest all : List X) → front ++ rest ≡ all → rest ≡ drop (length front) all
behind front rest all is = sym (dropped front rest) ∙ ap (drop (length front)) is
