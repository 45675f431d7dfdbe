-- Lists in which one place was written.
use Rattle.std.proofs.Common.{◌≡◌, ℕ, ◌<◌, ◌≤◌, zero, suc, ◌⊎◌, inl, inr, ⊎_elim, List, [], ◌∷◌, length, Option, Some, None, IsSome, slice_get, set, sym, refl, ap, ◌∙◌, arith, rules}
use Rattle.std.proofs.lemmas.Bool.{cases_lt}
use Rattle.std.proofs.lemmas.List.{set-set, length-set}
use Rattle.std.proofs.lemmas.Option.{slice_get_within}

pub same_some : {A : Type 0} (a b : A) → ◌≡◌ {A = Option A} (Some a) (Some b) → a ≡ b
same_some a b e = cc

pub none_some : {A : Type 0} (a : A) → ◌≡◌ {A = Option A} None (Some a) → ⊥
none_some a e = cc

-- what stands at a place after a write is what was written, or what stood there
pub after_set : {A : Type 0} (xs : List A) (i : ℕ) (v : A) (k : ℕ) (w : A) → slice_get (set xs i v) k ≡ Some w → ((w ≡ v) × (k ≡ i)) ⊎ (slice_get xs k ≡ Some w)
after_set [] i v k w e = inr e
after_set (x ∷ xs) zero v zero w e = inl (sym (same_some v w e), refl)
after_set (x ∷ xs) zero v (suc k) w e = inr e
after_set (x ∷ xs) (suc i) v zero w e = inr e
after_set (x ∷ xs) (suc i) v (suc k) w e = ⊎_elim (λ (h : (w ≡ v) × (k ≡ i)). inl (h.0, ap suc h.1)) (λ (h : slice_get xs k ≡ Some w). inr h) (after_set xs i v k w e)

-- what was written stands there, where something stood there
pub set_there : {A : Type 0} (xs : List A) (i : ℕ) (u v : A) → slice_get xs i ≡ Some u → slice_get (set xs i v) i ≡ Some v
set_there [] i u v e = absurd (none_some u e)
set_there (x ∷ xs) zero u v e = refl
set_there (x ∷ xs) (suc i) u v e = set_there xs i u v e

-- where what stood there was written, nothing changes
pub set_same : {A : Type 0} (xs : List A) (i : ℕ) (v : A) → slice_get xs i ≡ Some v → set xs i v ≡ xs
set_same [] i v e = refl
set_same (x ∷ xs) zero v e = ap (λ y. y ∷ xs) (sym (same_some x v e))
set_same (x ∷ xs) (suc i) v e = ap (λ ys. x ∷ ys) (set_same xs i v e)

-- a place where something stood is one of the list still, once it was written
pub still_within : {A : Type 0} (xs ys : List A) (i : ℕ) (u v : A) → slice_get xs i ≡ Some u → ys ≡ set xs i v → i < length ys
still_within xs ys i u v e is =
    let within : i < length xs = slice_get_within xs i u e in
    let same : length ys ≡ length xs = ap length is ∙ length-set xs i v in omega arith

-- what was taken from a place was put back there
pub put_back : {A : Type 0} (xs ys zs : List (Option A)) (i : ℕ) (v back : A) → slice_get xs i ≡ Some (Some v) → ys ≡ set xs i None → back ≡ v → zs ≡ set ys i (Some back) → zs ≡ xs
put_back {A} xs ys zs i v back there taken same put = put
    ∙ (ap (λ (l : List (Option A)). set l i (Some back)) taken
    ∙ (set-set xs i None (Some back)
    ∙ (ap (λ (w : A). set xs i (Some w)) same ∙ set_same xs i (Some v) there)))

-- what isn't None is there
pub is_there : {A : Type 0} (o : Option A) → (o ≡ None → ⊥) → IsSome o
is_there (Some x) ne = search rules
is_there None ne = absurd (ne refl)

-- where nothing was taken there was nothing
pub nothing_left : {A : Type 0} (o : Option A) (n : ℕ) → ((x : A) → o ≡ Some x → ⊥) → (0 < n → IsSome o) → n ≡ 0
nothing_left (Some x) n none is = absurd (none x refl)
nothing_left {A} None n none is = ⊎_elim (λ (more : 0 < n). absurd (differ (is more))) (λ (all : n ≤ 0). omega arith) (cases_lt 0 n)
  where
    differ : IsSome {T = A} None → ⊥
    differ e = cc
