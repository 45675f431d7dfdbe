-- How many elements of a list pass a test, and which of them is found.
use Rattle.std.proofs.Common.{◌≡◌, ℕ, ◌+◌, ◌≤◌, Bool, true, false, cond, List, [], ◌∷◌, ◌++◌, length, filter, Some, refl, ap, ◌∙◌, ◌⊎◌, ⊎_elim, inl, inr, arith}
use Rattle.std.specs.List.{find}
use Rattle.partition_protocol.proofs.Lists.{In, in_contains, IsPart, cases}
use Rattle.partition_protocol.proofs.RowFacts.{false_or_not}
use Rattle.replay_run.specs.Linearizability.{Before}

abbrev pub count : {X : Type 0} → (X → Bool) → List X → ℕ
count t [] = 0
count t (x ∷ xs) = cond (t x) 1 0 + count t xs

pub count-append : {X : Type 0} (t : X → Bool) (xs ys : List X) → count t (xs ++ ys) ≡ count t xs + count t ys
count-append t [] ys = omega arith
count-append t (x ∷ xs) ys = let r = count-append t xs ys in omega (arith, r)

pub count_none : {X : Type 0} (t : X → Bool) (xs : List X) → ((x : X) → In x xs → t x ≡ true → ⊥) → count t xs ≡ 0
count_none t [] f = refl
count_none t (x ∷ xs) f =
    let r = count_none t xs (λ y i e. f y (inr i) e) in
    let e : t x ≡ false = false_or_not (t x) (f x (inl refl)) in
    rw e (omega (arith, r))

pub count_in : {X : Type 0} (t : X → Bool) (xs : List X) (x : X) → In x xs → t x ≡ true → 1 ≤ count t xs
count_in t [] x i e = absurd i
count_in t (y ∷ ys) x (inl s) e = let p : t y ≡ true = ap t s ∙ e in rw p (omega arith)
count_in t (y ∷ ys) x (inr i) e = let r = count_in t ys x i e in omega (arith, r)

-- a part has no more of them
pub count_part : {X : Type 0} (t : X → Bool) (xs ys : List X) → IsPart xs ys → count t xs ≤ count t ys
count_part t xs [] h = let e = ap (count t) h in omega (arith, e)
count_part t xs (y ∷ ys) (inl h) = let l = count_part t xs ys h in omega (arith, l)
count_part t xs (y ∷ ys) (inr (zs, e, h)) = let l = count_part t zs ys h in let s = ap (count t) e in omega (arith, l, s)

pub count_filter : {X : Type 0} (t : X → Bool) (xs : List X) → count t xs ≡ length (filter t xs)
count_filter t [] = refl
count_filter t (x ∷ xs) = go (t x) (count_filter t xs)
  where
    go : (b : Bool) → count t xs ≡ length (filter t xs) → cond b 1 0 + count t xs ≡ length (cond b (x ∷ filter t xs) (filter t xs))
    go true e = omega (arith, e)
    go false e = omega (arith, e)

-- none passes, or one does
pub count_cases : {X : Type 0} (t : X → Bool) (xs : List X) → (count t xs ≡ 0) ⊎ ((x : X) × In x xs × (t x ≡ true))
count_cases t [] = inl refl
count_cases {X} t (x ∷ xs) = ⊎_elim (λ e. inr (x, inl refl, e)) (λ e. go e (count_cases t xs)) (cases (t x))
  where
    go : t x ≡ false → (count t xs ≡ 0) ⊎ ((y : X) × In y xs × (t y ≡ true)) → (count t (x ∷ xs) ≡ 0) ⊎ ((y : X) × In y (x ∷ xs) × (t y ≡ true))
    go e (inl z) = inl (rw e (omega (arith, z)))
    go e (inr (y, i, p)) = inr (y, inr i, p)

-- the only one that passes is found
pub find_only : {X : Type 0} (t : X → Bool) (xs : List X) (x : X) → count t xs ≤ 1 → In x xs → t x ≡ true → find t xs ≡ Some x
find_only t [] x l i e = absurd i
find_only t (y ∷ ys) x l (inl s) e = let p : t y ≡ true = ap t s ∙ e in rw p (ap (λ z. Some z) s)
find_only t (y ∷ ys) x l (inr i) e =
    let one = count_in t ys x i e in
    let other : t y ≡ false = false_or_not (t y) (λ p. two p one) in
    rw other (find_only t ys x (omega (arith, l)) i e)
  where
    two : t y ≡ true → 1 ≤ count t ys → ⊥
    two p one = let k = rw p at l in omega (arith, k, one)

-- where one passes at most, no two do
pub count_before : {X : Type 0} (t : X → Bool) (xs : List X) (a b : X) → count t xs ≤ 1 → Before xs a b → t a ≡ true → t b ≡ true → ⊥
count_before t [] a b l h p q = absurd h
count_before t (x ∷ xs) a b l (inl h) p q =
    let first : t x ≡ true = ap t h.0 ∙ p in
    let second = count_in t xs b (in_contains b xs h.1) q in
    let k = rw first at l in
    omega (arith, k, second)
count_before t (x ∷ xs) a b l (inr h) p q = count_before t xs a b (omega (arith, l)) h p q
