-- The order of a list's elements: which stands before which, in a part of it and in what is made of each.
use Rattle.std.proofs.Common.{◌≡◌, ◌≢◌, ℕ, take, drop, Bool, true, false, cond, List, [], ◌∷◌, ◌++◌, map, filter, refl, ap, sym, ◌∙◌, subst, ◌⊎◌, ⊎_elim, inl, inr}
use Rattle.std.proofs.lemmas.List.{take-append-drop}
use Rattle.partition_protocol.specs.Sequences.{IsSubsequence, picked}
use Rattle.partition_protocol.specs.Arrivals.{CallName, NamedOnce}
use Rattle.partition_protocol.proofs.Lists.{In, in_right, in_cases, in_contains, contains_in, IsPart, part_nil, cases}
use Rattle.partition_protocol.proofs.Faithful.{part_in}
use Rattle.replay_run.specs.Linearizability.{Before}

-- elements

pub in_map : {X Y : Type 0} (f : X → Y) (xs : List X) (x : X) → In x xs → In (f x) (map f xs)
in_map f [] x i = absurd i
in_map f (y ∷ ys) x (inl e) = inl (ap f e)
in_map f (y ∷ ys) x (inr i) = inr (in_map f ys x i)

pub in_mapped : {X Y : Type 0} (f : X → Y) (xs : List X) (y : Y) → In y (map f xs) → (x : X) × In x xs × (f x ≡ y)
in_mapped f [] y i = absurd i
in_mapped f (x ∷ xs) y (inl e) = (x, inl refl, e)
in_mapped f (x ∷ xs) y (inr i) = let r = in_mapped f xs y i in (r.0, inr r.1, r.2)

pub in_filter : {X : Type 0} (t : X → Bool) (xs : List X) (x : X) → In x xs → t x ≡ true → In x (filter t xs)
in_filter t [] x i e = absurd i
in_filter t (y ∷ ys) x (inl s) e = let p : t y ≡ true = ap t s ∙ e in rw p (inl s)
in_filter t (y ∷ ys) x (inr i) e = go (t y) (in_filter t ys x i e)
  where
    go : (b : Bool) → In x (filter t ys) → In x (cond b (y ∷ filter t ys) (filter t ys))
    go true j = inr j
    go false j = j

pub in_filtered : {X : Type 0} (t : X → Bool) (xs : List X) (x : X) → In x (filter t xs) → In x xs × (t x ≡ true)
in_filtered t [] x i = absurd i
in_filtered t (y ∷ ys) x i = ⊎_elim (λ e. yes e (λ j. in_filtered t ys x j) (rw e at i)) (λ e. let r = in_filtered t ys x (rw e at i) in (inr r.0, r.1)) (cases (t y))
  where
    yes : t y ≡ true → (In x (filter t ys) → In x ys × (t x ≡ true)) → In x (y ∷ filter t ys) → In x (y ∷ ys) × (t x ≡ true)
    yes e f (inl s) = (inl s, ap t (sym s) ∙ e)
    yes e f (inr j) = let r = f j in (inr r.0, r.1)

pub in_drop : {X : Type 0} (n : ℕ) (xs : List X) (x : X) → In x (drop n xs) → In x xs
in_drop n xs x i = subst (λ ys. In x ys) (take-append-drop n xs) (in_right x (take n xs) (drop n xs) i)

-- parts

pub subsequence_part : {X : Type 0} (xs ys : List X) → IsSubsequence xs ys → IsPart xs ys
subsequence_part xs ys (marks, e) = subst (λ zs. IsPart zs ys) e (go marks ys)
  where
    go : {X : Type 0} (ms : List Bool) (zs : List X) → IsPart (picked ms zs) zs
    go [] zs = part_nil zs
    go (m ∷ ms) [] = refl
    go (true ∷ ms) (z ∷ zs) = inr (picked ms zs, refl, go ms zs)
    go (false ∷ ms) (z ∷ zs) = inl (go ms zs)

pub part_filter : {X : Type 0} (t : X → Bool) (xs : List X) → IsPart (filter t xs) xs
part_filter t [] = refl
part_filter t (x ∷ xs) = go (t x) (part_filter t xs)
  where
    go : (b : Bool) → IsPart (filter t xs) xs → IsPart (cond b (x ∷ filter t xs) (filter t xs)) (x ∷ xs)
    go true h = inr (filter t xs, refl, h)
    go false h = inl h

pub part_trans : {X : Type 0} (xs ys zs : List X) → IsPart xs ys → IsPart ys zs → IsPart xs zs
part_trans xs ys [] h k = subst (λ ws. IsPart xs ws) k h
part_trans xs ys (z ∷ zs) h (inl k) = inl (part_trans xs ys zs h k)
part_trans {X} xs ys (z ∷ zs) h (inr (ws, e, k)) = go (subst (λ vs. IsPart xs vs) e h) (λ us j. part_trans us ws zs j k)
  where
    go : IsPart xs (z ∷ ws) → ((us : List X) → IsPart us ws → IsPart us zs) → IsPart xs (z ∷ zs)
    go (inl j) f = inl (f xs j)
    go (inr (us, s, j)) f = inr (us, s, f us j)

-- the first before the second

pub before_first : {X : Type 0} (xs : List X) (a b : X) → Before xs a b → In a xs
before_first [] a b h = absurd h
before_first (x ∷ xs) a b (inl h) = inl h.0
before_first (x ∷ xs) a b (inr h) = inr (before_first xs a b h)

pub before_second : {X : Type 0} (xs : List X) (a b : X) → Before xs a b → In b xs
before_second [] a b h = absurd h
before_second (x ∷ xs) a b (inl h) = inr (in_contains b xs h.1)
before_second (x ∷ xs) a b (inr h) = inr (before_second xs a b h)

pub before_part : {X : Type 0} (xs ys : List X) (a b : X) → IsPart xs ys → Before xs a b → Before ys a b
before_part xs [] a b h k = subst (λ zs. Before zs a b) h k
before_part xs (y ∷ ys) a b (inl h) k = inr (before_part xs ys a b h k)
before_part xs (y ∷ ys) a b (inr (zs, e, h)) k = go (subst (λ ws. Before ws a b) e k) (λ j. before_part zs ys a b h j)
  where
    go : Before (y ∷ zs) a b → (Before zs a b → Before ys a b) → Before (y ∷ ys) a b
    go (inl j) f = inl (j.0, contains_in b ys (part_in zs ys b h (in_contains b zs j.1)))
    go (inr j) f = inr (f j)

pub before_map : {X Y : Type 0} (f : X → Y) (xs : List X) (a b : X) → Before xs a b → Before (map f xs) (f a) (f b)
before_map f [] a b h = absurd h
before_map f (x ∷ xs) a b (inl h) = inl (ap f h.0, contains_in (f b) (map f xs) (in_map f xs b (in_contains b xs h.1)))
before_map f (x ∷ xs) a b (inr h) = inr (before_map f xs a b h)

pub before_mapped : {X Y : Type 0} (f : X → Y) (xs : List X) (c d : Y) → Before (map f xs) c d → (a : X) × ((b : X) × Before xs a b × (f a ≡ c) × (f b ≡ d))
before_mapped f [] c d h = absurd h
before_mapped f (x ∷ xs) c d (inl h) =
    let r = in_mapped f xs d (in_contains d (map f xs) h.1) in
    (x, (r.0, inl (refl, contains_in r.0 xs r.1), h.0, r.2))
before_mapped f (x ∷ xs) c d (inr h) = let r = before_mapped f xs c d h in (r.0, (r.1.0, inr r.1.1, r.1.2, r.1.3))

-- one element more
pub before_last : {X : Type 0} (xs : List X) (y a b : X) → Before (xs ++ y ∷ []) a b → Before xs a b ⊎ (In a xs × (y ≡ b))
before_last [] y a b (inl h) = absurd (in_contains b [] h.1)
before_last [] y a b (inr h) = absurd h
before_last (x ∷ xs) y a b (inl h) = go (in_cases b xs (y ∷ []) (in_contains b (xs ++ y ∷ []) h.1))
  where
    go : In b xs ⊎ In b (y ∷ []) → Before (x ∷ xs) a b ⊎ (In a (x ∷ xs) × (y ≡ b))
    go (inl i) = inl (inl (h.0, contains_in b xs i))
    go (inr (inl e)) = inr (inl h.0, e)
    go (inr (inr i)) = absurd i
before_last (x ∷ xs) y a b (inr h) = go (before_last xs y a b h)
  where
    go : Before xs a b ⊎ (In a xs × (y ≡ b)) → Before (x ∷ xs) a b ⊎ (In a (x ∷ xs) × (y ≡ b))
    go (inl k) = inl (inr k)
    go (inr k) = inr (inr k.0, k.1)

-- of two lists: the first stands in the first, or the second in the second
pub before_append : {X : Type 0} (xs ys : List X) (a b : X) → Before (xs ++ ys) a b → In a xs ⊎ In b ys
before_append [] ys a b h = inr (before_second ys a b h)
before_append (x ∷ xs) ys a b (inl h) = inl (inl h.0)
before_append (x ∷ xs) ys a b (inr h) = ⊎_elim (λ i. inl (inr i)) (λ i. inr i) (before_append xs ys a b h)

-- names

pub named_same : {X : Type 0} (f : X → CallName) (xs : List X) (a b : X) → NamedOnce (map f xs) → In a xs → In b xs → f a ≡ f b → a ≡ b
named_same f [] a b n i j e = absurd i
named_same f (x ∷ xs) a b n (inl s) (inl t) e = sym s ∙ t
named_same f (x ∷ xs) a b n (inl s) (inr j) e = absurd (n.0 (f b) (contains_in (f b) (map f xs) (in_map f xs b j)) (sym e ∙ ap f (sym s)))
named_same f (x ∷ xs) a b n (inr i) (inl t) e = absurd (n.0 (f a) (contains_in (f a) (map f xs) (in_map f xs a i)) (e ∙ ap f (sym t)))
named_same f (x ∷ xs) a b n (inr i) (inr j) e = named_same f xs a b n.1 i j e

pub named_apart : {X : Type 0} (f : X → CallName) (xs : List X) (a b : X) → NamedOnce (map f xs) → Before xs a b → f a ≢ f b
named_apart f [] a b n h e = absurd h
named_apart f (x ∷ xs) a b n (inl h) e = n.0 (f b) (contains_in (f b) (map f xs) (in_map f xs b (in_contains b xs h.1))) (sym e ∙ ap f (sym h.0))
named_apart f (x ∷ xs) a b n (inr h) e = named_apart f xs a b n.1 h e

-- no name stands in both of two lists
pub named_append : {X : Type 0} (f : X → CallName) (xs ys : List X) (a b : X) → NamedOnce (map f (xs ++ ys)) → In a xs → In b ys → f a ≢ f b
named_append f [] ys a b n i j e = absurd i
named_append f (x ∷ xs) ys a b n (inl s) j e = n.0 (f b) (contains_in (f b) (map f (xs ++ ys)) (in_map f (xs ++ ys) b (in_right b xs ys j))) (sym e ∙ ap f (sym s))
named_append f (x ∷ xs) ys a b n (inr i) j e = named_append f xs ys a b n.1 i j e

pub named_more : {X : Type 0} (f : X → CallName) (xs : List X) (y : X) → NamedOnce (map f xs) → ((x : X) → In x xs → f x ≢ f y) → NamedOnce (map f (xs ++ y ∷ []))
named_more f [] y n g = (λ m c. absurd (in_contains m [] c), tt)
named_more {X} f (x ∷ xs) y n g = (λ m c. go m (in_mapped f (xs ++ y ∷ []) m (in_contains m (map f (xs ++ y ∷ [])) c)), named_more f xs y n.1 (λ z i. g z (inr i)))
  where
    at : (z : X) → In z xs ⊎ In z (y ∷ []) → f z ≢ f x
    at z (inl i) e = n.0 (f z) (contains_in (f z) (map f xs) (in_map f xs z i)) e
    at z (inr (inl s)) e = g x (inl refl) (sym e ∙ ap f (sym s))
    at z (inr (inr i)) e = absurd i

    go : (m : CallName) → (z : X) × In z (xs ++ y ∷ []) × (f z ≡ m) → m ≢ f x
    go m (z, i, s) e = at z (in_cases z xs (y ∷ []) i) (s ∙ e)
