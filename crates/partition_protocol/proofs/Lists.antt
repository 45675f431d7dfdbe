-- Lists: what stands in one, what holds of each element, parts in order, and an element changed.
use Rattle.std.proofs.Common.{◌≡◌, ◌≢◌, ℕ, zero, suc, Bool, true, false, cond, List, [], ◌∷◌, ◌++◌, map, length, Some, slice_get, slice_set, filter, flat_map, Contains, refl, ap, sym, ◌∙◌, subst, ◌⊎◌, inl, inr, arith, zero-lt-suc, suc-le-suc, le_of_suc-le-suc}
use Rattle.partition_protocol.specs.Sequences.{IsSubsequence}

-- an element

abbrev pub In : {X : Type 0} → X → List X → Type 0
In x [] = ⊥
In x (y ∷ ys) = (y ≡ x) ⊎ In x ys

pub in_left : {X : Type 0} (x : X) (xs ys : List X) → In x xs → In x (xs ++ ys)
in_left x [] ys h = absurd h
in_left x (y ∷ xs) ys (inl e) = inl e
in_left x (y ∷ xs) ys (inr h) = inr (in_left x xs ys h)

pub in_right : {X : Type 0} (x : X) (xs ys : List X) → In x ys → In x (xs ++ ys)
in_right x [] ys h = h
in_right x (y ∷ xs) ys h = inr (in_right x xs ys h)

pub in_cases : {X : Type 0} (x : X) (xs ys : List X) → In x (xs ++ ys) → In x xs ⊎ In x ys
in_cases x [] ys h = inr h
in_cases x (y ∷ xs) ys (inl e) = inl (inl e)
in_cases x (y ∷ xs) ys (inr h) = go (in_cases x xs ys h)
  where
    go : In x xs ⊎ In x ys → In x (y ∷ xs) ⊎ In x ys
    go (inl a) = inl (inr a)
    go (inr b) = inr b

pub in_contains : {X : Type 0} (x : X) (xs : List X) → Contains xs x → In x xs
in_contains x [] (k, l, e) = absurd (omega arith)
in_contains x (y ∷ ys) (zero, l, e) = inl e
in_contains x (y ∷ ys) (suc k, l, e) = inr (in_contains x ys (k, le_of_suc-le-suc l, e))

pub contains_in : {X : Type 0} (x : X) (xs : List X) → In x xs → Contains xs x
contains_in x [] h = absurd h
contains_in x (y ∷ ys) (inl e) = (zero, zero-lt-suc (length ys), e)
contains_in x (y ∷ ys) (inr h) = let r = contains_in x ys h in (suc r.0, suc-le-suc r.1, r.2)

-- each element

abbrev pub Every : {X : Type 0} → (X → Type 0) → List X → Type 0
Every P [] = Unit {0}
Every P (x ∷ xs) = P x × Every P xs

pub every_append : {X : Type 0} (P : X → Type 0) (xs ys : List X) → Every P xs → Every P ys → Every P (xs ++ ys)
every_append P [] ys h k = k
every_append P (x ∷ xs) ys h k = (h.0, every_append P xs ys h.1 k)

pub every_weaker : {X : Type 0} (P Q : X → Type 0) (xs : List X) → ((x : X) → P x → Q x) → Every P xs → Every Q xs
every_weaker P Q [] f h = tt
every_weaker P Q (x ∷ xs) f h = (f x h.0, every_weaker P Q xs f h.1)

pub every_in : {X : Type 0} (P : X → Type 0) (xs : List X) (x : X) → Every P xs → In x xs → P x
every_in P [] x h i = absurd i
every_in P (y ∷ ys) x h (inl e) = subst P e h.0
every_in P (y ∷ ys) x h (inr i) = every_in P ys x h.1 i

pub every_from_in : {X : Type 0} (P : X → Type 0) (xs : List X) → ((x : X) → In x xs → P x) → Every P xs
every_from_in P [] f = tt
every_from_in P (x ∷ xs) f = (f x (inl refl), every_from_in P xs (λ y i. f y (inr i)))

pub every_map : {X Y : Type 0} (P : Y → Type 0) (f : X → Y) (xs : List X) → Every (λ x. P (f x)) xs → Every P (map f xs)
every_map P f [] h = tt
every_map P f (x ∷ xs) h = (h.0, every_map P f xs h.1)

pub every_flat_map : {X Y : Type 0} (P : Y → Type 0) (f : X → List Y) (xs : List X) → ((x : X) → In x xs → Every P (f x)) → Every P (flat_map f xs)
every_flat_map P f [] h = tt
every_flat_map P f (x ∷ xs) h = every_append P (f x) (flat_map f xs) (h x (inl refl)) (every_flat_map P f xs (λ y i. h y (inr i)))

pub every_get : {X : Type 0} (P : X → Type 0) (xs : List X) (k : ℕ) (x : X) → Every P xs → slice_get xs k ≡ Some x → P x
every_get P [] k x h e = absurd cc
every_get P (y ∷ ys) zero x h e = let same : y ≡ x = cc in subst P same h.0
every_get P (y ∷ ys) (suc k) x h e = every_get P ys k x h.1 e

pub every_if : {X : Type 0} (P : X → Type 0) (b : Bool) (xs ys : List X) → Every P xs → Every P ys → Every P (cond b xs ys)
every_if P true xs ys h k = h
every_if P false xs ys h k = k

pub every_filter : {X : Type 0} (P : X → Type 0) (t : X → Bool) (xs : List X) → Every P xs → Every P (filter t xs)
every_filter P t [] h = tt
every_filter P t (x ∷ xs) h = every_if P (t x) (x ∷ filter t xs) (filter t xs) (h.0, every_filter P t xs h.1) (every_filter P t xs h.1)

-- an element changed

pub get_set : {X : Type 0} (xs : List X) (m q : ℕ) (a x : X) → slice_get (slice_set xs m a) q ≡ Some x → ((q ≡ m) × (a ≡ x)) ⊎ ((q ≢ m) × (slice_get xs q ≡ Some x))
get_set [] m q a x e = absurd cc
get_set (y ∷ ys) zero zero a x e = inl (refl, cc)
get_set (y ∷ ys) zero (suc q) a x e = inr (omega arith, e)
get_set (y ∷ ys) (suc m) zero a x e = inr (omega arith, e)
get_set (y ∷ ys) (suc m) (suc q) a x e = go (get_set ys m q a x e)
  where
    go : ((q ≡ m) × (a ≡ x)) ⊎ ((q ≢ m) × (slice_get ys q ≡ Some x)) → ((suc q ≡ suc m) × (a ≡ x)) ⊎ ((suc q ≢ suc m) × (slice_get ys q ≡ Some x))
    go (inl h) = inl (ap (λ n. suc n) h.0, h.1)
    go (inr h) = inr (omega (arith, h.0), h.1)

pub set_get_same : {X : Type 0} (xs : List X) (m : ℕ) (a x : X) → slice_get xs m ≡ Some x → slice_get (slice_set xs m a) m ≡ Some a
set_get_same [] m a x e = absurd cc
set_get_same (y ∷ ys) zero a x e = refl
set_get_same (y ∷ ys) (suc m) a x e = set_get_same ys m a x e

pub set_get_other : {X : Type 0} (xs : List X) (m q : ℕ) (a : X) → q ≢ m → slice_get (slice_set xs m a) q ≡ slice_get xs q
set_get_other [] m q a n = refl
set_get_other (y ∷ ys) zero zero a n = absurd (n refl)
set_get_other (y ∷ ys) zero (suc q) a n = refl
set_get_other (y ∷ ys) (suc m) zero a n = refl
set_get_other (y ∷ ys) (suc m) (suc q) a n = set_get_other ys m q a (omega (arith, n))

pub set_twice : {X : Type 0} (xs : List X) (m : ℕ) (a b : X) → slice_set (slice_set xs m a) m b ≡ slice_set xs m b
set_twice [] m a b = refl
set_twice (y ∷ ys) zero a b = refl
set_twice (y ∷ ys) (suc m) a b = ap (λ zs. y ∷ zs) (set_twice ys m a b)

pub set_itself : {X : Type 0} (xs : List X) (m : ℕ) (x : X) → slice_get xs m ≡ Some x → slice_set xs m x ≡ xs
set_itself [] m x e = refl
set_itself (y ∷ ys) zero x e = let same : y ≡ x = cc in ap (λ z. z ∷ ys) (sym same)
set_itself (y ∷ ys) (suc m) x e = ap (λ zs. y ∷ zs) (set_itself ys m x e)

-- parts in order

abbrev pub IsPart : {X : Type 0} → List X → List X → Type 0
IsPart {X} xs [] = xs ≡ []
IsPart {X} xs (y ∷ ys) = IsPart xs ys ⊎ ((zs : List X) × (xs ≡ y ∷ zs) × IsPart zs ys)

pub part_nil : {X : Type 0} (ys : List X) → IsPart [] ys
part_nil [] = refl
part_nil (y ∷ ys) = inl (part_nil ys)

pub part_longer : {X : Type 0} (xs ys : List X) (y : X) → IsPart xs ys → IsPart xs (ys ++ y ∷ [])
part_longer xs [] y h = inl h
part_longer xs (z ∷ ys) y (inl h) = inl (part_longer xs ys y h)
part_longer xs (z ∷ ys) y (inr (zs, e, h)) = inr (zs, e, part_longer zs ys y h)

pub part_both : {X : Type 0} (xs ys : List X) (y : X) → IsPart xs ys → IsPart (xs ++ y ∷ []) (ys ++ y ∷ [])
part_both xs [] y h = inr ([], rw h, refl)
part_both xs (z ∷ ys) y (inl h) = inl (part_both xs ys y h)
part_both xs (z ∷ ys) y (inr (zs, e, h)) = inr (zs ++ y ∷ [], ap (λ ws. ws ++ y ∷ []) e, part_both zs ys y h)

pub part_front : {X : Type 0} (ks bs ys : List X) → IsPart (ks ++ bs) ys → IsPart ks ys
part_front [] bs ys h = part_nil ys
part_front (a ∷ ks) bs [] h = absurd cc
part_front (a ∷ ks) bs (y ∷ ys) (inl h) = inl (part_front (a ∷ ks) bs ys h)
part_front (a ∷ ks) bs (y ∷ ys) (inr (zs, e, h)) = inr (ks, cc, let same : zs ≡ ks ++ bs = cc in part_front ks bs ys (subst (λ ws. IsPart ws ys) same h))

-- it is a subsequence
pub part_subsequence : {X : Type 0} (xs ys : List X) → IsPart xs ys → IsSubsequence xs ys
part_subsequence xs [] h = ([], sym h)
part_subsequence xs (y ∷ ys) (inl h) = let r = part_subsequence xs ys h in (false ∷ r.0, r.1)
part_subsequence xs (y ∷ ys) (inr (zs, e, h)) = let r = part_subsequence zs ys h in (true ∷ r.0, ap (λ ws. y ∷ ws) r.1 ∙ sym e)

-- tests

pub cases : (b : Bool) → (b ≡ true) ⊎ (b ≡ false)
cases true = inl refl
cases false = inr refl

pub on_if : {X : Type 0} (P : X → Type 0) (b : Bool) (x y : X) → P x → P y → P (cond b x y)
on_if P true x y h k = h
on_if P false x y h k = k

pub on_cond : {X : Type 0} (P : X → Type 0) (b : Bool) (x y : X) → (b ≡ true → P x) → (b ≡ false → P y) → P (cond b x y)
on_cond P true x y f g = f refl
on_cond P false x y f g = g refl
