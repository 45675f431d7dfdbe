-- Lists: what stands in one, what holds of each element, and how many there are.
use Rattle.std.proofs.Common.{◌≡◌, ◌≢◌, ◌+◌, ◌≤◌, Bool, true, false, cond, List, [], ◌∷◌, ◌++◌, map, length, filter, All, Contains, refl, ap, sym, ◌∙◌, subst, inl, inr, arith}
use Rattle.std.proofs.lemmas.List.{length-append}
use Rattle.std.proofs.lemmas.List.Elements.{All-head, All-tail, All-weaker, All-contains_itself}
use Rattle.partition_protocol.specs.Arrivals.{CallName, NamedOnce}
use Rattle.partition_protocol.proofs.Lists.{In, in_right, in_contains, contains_in}

pub all_from : {X : Type 0} (P : X → Type 0) (xs : List X) → ((x : X) → Contains xs x → P x) → All P xs
all_from P xs f = All-weaker (Contains xs) P f xs (All-contains_itself xs)

pub there_between : {X : Type 0} (xs ys : List X) (x : X) → Contains (xs ++ x ∷ ys) x
there_between xs ys x = contains_in x (xs ++ x ∷ ys) (in_right x xs (x ∷ ys) (inl refl))

-- what was mapped

pub in_map : {X Y : Type 0} (f : X → Y) (xs : List X) (x : X) → In x xs → In (f x) (map f xs)
in_map f [] x i = absurd i
in_map f (y ∷ ys) x (inl e) = inl (ap f e)
in_map f (y ∷ ys) x (inr i) = inr (in_map f ys x i)

pub from_map : {X Y : Type 0} (f : X → Y) (xs : List X) (y : Y) → In y (map f xs) → (x : X) × In x xs × (f x ≡ y)
from_map f [] y i = absurd i
from_map f (x ∷ xs) y (inl e) = (x, inl refl, e)
from_map f (x ∷ xs) y (inr i) = let r = from_map f xs y i in (r.0, inr r.1, r.2)

pub there_map : {X Y : Type 0} (f : X → Y) (xs : List X) (x : X) → Contains xs x → Contains (map f xs) (f x)
there_map f xs x c = contains_in (f x) (map f xs) (in_map f xs x (in_contains x xs c))

pub there_from_map : {X Y : Type 0} (f : X → Y) (xs : List X) (y : Y) → Contains (map f xs) y → (x : X) × Contains xs x × (f x ≡ y)
there_from_map f xs y c = let r = from_map f xs y (in_contains y (map f xs) c) in (r.0, contains_in r.0 xs r.1, r.2)

-- what passes a test

on_test : {X : Type 0} (b : Bool) (x : X) (xs : List X) → b ≡ true → cond b (x ∷ xs) xs ≡ x ∷ xs
on_test true x xs e = refl
on_test false x xs e = absurd cc

off_test : {X : Type 0} (b : Bool) (x : X) (xs : List X) → b ≡ false → cond b (x ∷ xs) xs ≡ xs
off_test true x xs e = absurd cc
off_test false x xs e = refl

in_filter : {X : Type 0} (t : X → Bool) (xs : List X) (x : X) → In x xs → t x ≡ true → In x (filter t xs)
in_filter t [] x i e = absurd i
in_filter t (y ∷ ys) x (inl s) e = subst (λ zs. In x zs) (sym (on_test (t y) y (filter t ys) (ap t s ∙ e))) (inl s)
in_filter t (y ∷ ys) x (inr i) e = later (t y) (in_filter t ys x i e)
  where
    later : (b : Bool) → In x (filter t ys) → In x (cond b (y ∷ filter t ys) (filter t ys))
    later true j = inr j
    later false j = j

from_filter : {X : Type 0} (t : X → Bool) (xs : List X) (x : X) → In x (filter t xs) → In x xs × (t x ≡ true)
from_filter t [] x i = absurd i
from_filter t (y ∷ ys) x i = go (t y) refl i (from_filter t ys x)
  where
    go : (b : Bool) → t y ≡ b → In x (cond b (y ∷ filter t ys) (filter t ys)) → (In x (filter t ys) → In x ys × (t x ≡ true)) → In x (y ∷ ys) × (t x ≡ true)
    go true e (inl s) more = (inl s, sym (ap t s) ∙ e)
    go true e (inr j) more = let r = more j in (inr r.0, r.1)
    go false e j more = let r = more j in (inr r.0, r.1)

pub there_passed : {X : Type 0} (t : X → Bool) (xs : List X) (x : X) → Contains xs x → t x ≡ true → Contains (filter t xs) x
there_passed t xs x c e = contains_in x (filter t xs) (in_filter t xs x (in_contains x xs c) e)

pub passed_there : {X : Type 0} (t : X → Bool) (xs : List X) (x : X) → Contains (filter t xs) x → Contains xs x × (t x ≡ true)
passed_there t xs x c = let r = from_filter t xs x (in_contains x (filter t xs) c) in (contains_in x xs r.0, r.1)

-- a test that is one of two others, of which never both hold
pub parts_of_test : {X : Type 0} (t u v : X → Bool) (xs : List X) → ((x : X) → (cond (t x) 1 0) ≡ cond (u x) 1 0 + cond (v x) 1 0) → length (filter t xs) ≡ length (filter u xs) + length (filter v xs)
parts_of_test t u v [] parts = refl
parts_of_test t u v (x ∷ xs) parts = go (t x) (u x) (v x) (parts x) (parts_of_test t u v xs parts)
  where
    go : (a b c : Bool) → cond a 1 0 ≡ cond b 1 0 + cond c 1 0 → length (filter t xs) ≡ length (filter u xs) + length (filter v xs)
        → length (cond a (x ∷ filter t xs) (filter t xs)) ≡ length (cond b (x ∷ filter u xs) (filter u xs)) + length (cond c (x ∷ filter v xs) (filter v xs))
    go true true true one h = absurd (omega (arith, one))
    go true true false one h = omega (arith, h)
    go true false true one h = omega (arith, h)
    go true false false one h = absurd (omega (arith, one))
    go false true true one h = absurd (omega (arith, one))
    go false true false one h = absurd (omega (arith, one))
    go false false true one h = absurd (omega (arith, one))
    go false false false one h = h

-- a test that each element passes
pub all_pass : {X : Type 0} (t : X → Bool) (xs : List X) → All (λ x. t x ≡ true) xs → filter t xs ≡ xs
all_pass t [] h = refl
all_pass t (x ∷ xs) h = on_test (t x) x (filter t xs) (All-head (λ x. t x ≡ true) x xs h) ∙ ap (λ zs. x ∷ zs) (all_pass t xs (All-tail (λ x. t x ≡ true) x xs h))

-- and one that none passes
pub none_pass : {X : Type 0} (t : X → Bool) (xs : List X) → All (λ x. t x ≡ false) xs → filter t xs ≡ []
none_pass t [] h = refl
none_pass t (x ∷ xs) h = off_test (t x) x (filter t xs) (All-head (λ x. t x ≡ false) x xs h) ∙ none_pass t xs (All-tail (λ x. t x ≡ false) x xs h)

-- Of two lists the first has only what the second has, and nothing twice: then it is no longer

-- an element taken out
record Without {X : Type 0} (ys : List X) (x : X) : Type 0 where
  before : List X
  after : List X
  whole : ys ≡ before ++ x ∷ after

taken : {X : Type 0} (ys : List X) (x : X) → In x ys → Without ys x
taken [] x i = absurd i
taken (y ∷ ys) x (inl e) = record { before = []; after = ys; whole = ap (λ z. z ∷ ys) e }
taken (y ∷ ys) x (inr i) = let r = taken ys x i in record { before = y ∷ r.before; after = r.after; whole = ap (λ zs. y ∷ zs) r.whole }

still_in : {X : Type 0} (bs cs : List X) (x z : X) → z ≢ x → In z (bs ++ x ∷ cs) → In z (bs ++ cs)
still_in [] cs x z ne (inl e) = absurd (ne (sym e))
still_in [] cs x z ne (inr i) = i
still_in (b ∷ bs) cs x z ne (inl e) = inl e
still_in (b ∷ bs) cs x z ne (inr i) = inr (still_in bs cs x z ne i)

pub no_longer : (xs ys : List CallName) → NamedOnce xs → ((x : CallName) → In x xs → In x ys) → length xs ≤ length ys
no_longer [] ys once within = omega arith
no_longer (x ∷ xs) ys once within =
    let r = taken ys x (within x (inl refl)) in
    let less = no_longer xs (r.before ++ r.after) once.1 (λ z i. still_in r.before r.after x z (once.0 z (contains_in z xs i)) (subst (λ zs. In z zs) r.whole (within z (inr i)))) in
    let whole = ap length r.whole ∙ length-append r.before (x ∷ r.after) in
    let parts = length-append r.before r.after in
    omega (arith, less, whole, parts)
