-- Elements of lists, and which stands before which.
use Rattle.std.proofs.Common.{◌≡◌, ◌≢◌, Bool, true, false, cond, List, [], ◌∷◌, ◌++◌, map, filter, refl, ap, sym, ◌∙◌, subst, ◌⊎◌, ⊎_elim, inl, inr}
use Rattle.partition_protocol.specs.Sequences.{IsSubsequence, picked}
use Rattle.partition_protocol.specs.Arrivals.{CallName, NamedOnce, name, calls_in}
use Rattle.partition_protocol.specs.History.{Entry, Executed, Called, Reset}
use Rattle.partition_protocol.specs.HistorySizes.{asked_of}
use Rattle.partition_protocol.proofs.Lists.{In, in_right, in_contains, contains_in, IsPart, part_nil, cases}
use Rattle.partition_protocol.proofs.Faithful.{part_in}
use Rattle.partition_protocol.proofs.HistorySizes.{in_calls}
use Rattle.partition_protocol.proofs.RowFacts.{in_map}
use Rattle.live_history_laws.specs.Entries.{StandsBefore}

pub in_mapped : {X Y : Type 0} (f : X → Y) (xs : List X) (y : Y) → In y (map f xs) → (x : X) × In x xs × (f x ≡ y)
in_mapped f [] y i = absurd i
in_mapped f (x ∷ xs) y (inl e) = (x, inl refl, e)
in_mapped f (x ∷ xs) y (inr i) = let r = in_mapped f xs y i in (r.0, inr r.1, r.2)

pub in_filter : {X : Type 0} (t : X → Bool) (xs : List X) (x : X) → In x xs → t x ≡ true → In x (filter t xs)
in_filter t [] x i e = absurd i
in_filter t (y ∷ ys) x (inl s) e = let p : t y ≡ true = ap t s ∙ e in rw p (inl s)
in_filter t (y ∷ ys) x (inr i) e = go (t y) (in_filter t ys x i e)
  where
    go : (b : Bool) → In x (filter t ys) → In x (cond b (y ∷ filter t ys) (filter t ys))
    go true j = inr j
    go false j = j

pub in_filtered : {X : Type 0} (t : X → Bool) (xs : List X) (x : X) → In x (filter t xs) → In x xs × (t x ≡ true)
in_filtered t [] x i = absurd i
in_filtered t (y ∷ ys) x i = ⊎_elim (λ e. yes e (λ j. in_filtered t ys x j) (rw e at i)) (λ e. let r = in_filtered t ys x (rw e at i) in (inr r.0, r.1)) (cases (t y))
  where
    yes : t y ≡ true → (In x (filter t ys) → In x ys × (t x ≡ true)) → In x (y ∷ filter t ys) → In x (y ∷ ys) × (t x ≡ true)
    yes e f (inl s) = (inl s, ap t (sym s) ∙ e)
    yes e f (inr j) = let r = f j in (inr r.0, r.1)

-- parts

pub subsequence_part : {X : Type 0} (xs ys : List X) → IsSubsequence xs ys → IsPart xs ys
subsequence_part xs ys (marks, e) = subst (λ zs. IsPart zs ys) e (go marks ys)
  where
    go : {X : Type 0} (ms : List Bool) (zs : List X) → IsPart (picked ms zs) zs
    go [] zs = part_nil zs
    go (m ∷ ms) [] = refl
    go (true ∷ ms) (z ∷ zs) = inr (picked ms zs, refl, go ms zs)
    go (false ∷ ms) (z ∷ zs) = inl (go ms zs)

pub part_filter : {X : Type 0} (t : X → Bool) (xs : List X) → IsPart (filter t xs) xs
part_filter t [] = refl
part_filter t (x ∷ xs) = go (t x) (part_filter t xs)
  where
    go : (b : Bool) → IsPart (filter t xs) xs → IsPart (cond b (x ∷ filter t xs) (filter t xs)) (x ∷ xs)
    go true h = inr (filter t xs, refl, h)
    go false h = inl h

pub part_trans : {X : Type 0} (xs ys zs : List X) → IsPart xs ys → IsPart ys zs → IsPart xs zs
part_trans xs ys [] h k = subst (λ ws. IsPart xs ws) k h
part_trans xs ys (z ∷ zs) h (inl k) = inl (part_trans xs ys zs h k)
part_trans {X} xs ys (z ∷ zs) h (inr (ws, e, k)) = go (subst (λ vs. IsPart xs vs) e h) (λ us j. part_trans us ws zs j k)
  where
    go : IsPart xs (z ∷ ws) → ((us : List X) → IsPart us ws → IsPart us zs) → IsPart xs (z ∷ zs)
    go (inl j) f = inl (f xs j)
    go (inr (us, s, j)) f = inr (us, s, f us j)

-- a part of two lists is a part of the first and then one of the second
pub record Parted {X : Type 0} (xs ys zs : List X) : Type 0 where
  pub early : List X
  pub late : List X
  pub whole : xs ≡ early ++ late
  pub first : IsPart early ys
  pub second : IsPart late zs

pub parted : {X : Type 0} (xs ys zs : List X) → IsPart xs (ys ++ zs) → Parted xs ys zs
parted xs [] zs h = record { early = []; late = xs; whole = refl; first = refl; second = h }
parted xs (y ∷ ys) zs (inl h) = let p = parted xs ys zs h in record { early = p.early; late = p.late; whole = p.whole; first = inl p.first; second = p.second }
parted xs (y ∷ ys) zs (inr (ws, e, h)) =
    let p = parted ws ys zs h in
    record { early = y ∷ p.early; late = p.late; whole = e ∙ ap (λ vs. y ∷ vs) p.whole; first = inr (p.early, refl, p.first); second = p.second }

-- the first before the second

pub before_second : {X : Type 0} (xs : List X) (a b : X) → StandsBefore xs a b → In b xs
before_second [] a b h = absurd h
before_second (x ∷ xs) a b (inl h) = inr (in_contains b xs h.1)
before_second (x ∷ xs) a b (inr h) = inr (before_second xs a b h)

pub before_part : {X : Type 0} (xs ys : List X) (a b : X) → IsPart xs ys → StandsBefore xs a b → StandsBefore ys a b
before_part xs [] a b h k = subst (λ zs. StandsBefore zs a b) h k
before_part xs (y ∷ ys) a b (inl h) k = inr (before_part xs ys a b h k)
before_part xs (y ∷ ys) a b (inr (zs, e, h)) k = go (subst (λ ws. StandsBefore ws a b) e k) (λ j. before_part zs ys a b h j)
  where
    go : StandsBefore (y ∷ zs) a b → (StandsBefore zs a b → StandsBefore ys a b) → StandsBefore (y ∷ ys) a b
    go (inl j) f = inl (j.0, contains_in b ys (part_in zs ys b h (in_contains b zs j.1)))
    go (inr j) f = inr (f j)

-- of two lists: the first stands in the first, or the second in the second
pub before_append : {X : Type 0} (xs ys : List X) (a b : X) → StandsBefore (xs ++ ys) a b → In a xs ⊎ In b ys
before_append [] ys a b h = inr (before_second ys a b h)
before_append (x ∷ xs) ys a b (inl h) = inl (inl h.0)
before_append (x ∷ xs) ys a b (inr h) = ⊎_elim (λ i. inl (inr i)) (λ i. inr i) (before_append xs ys a b h)

-- names

pub named_same : {X : Type 0} (f : X → CallName) (xs : List X) (a b : X) → NamedOnce (map f xs) → In a xs → In b xs → f a ≡ f b → a ≡ b
named_same f [] a b n i j e = absurd i
named_same f (x ∷ xs) a b n (inl s) (inl t) e = sym s ∙ t
named_same f (x ∷ xs) a b n (inl s) (inr j) e = absurd (n.0 (f b) (contains_in (f b) (map f xs) (in_map f xs b j)) (sym e ∙ ap f (sym s)))
named_same f (x ∷ xs) a b n (inr i) (inl t) e = absurd (n.0 (f a) (contains_in (f a) (map f xs) (in_map f xs a i)) (e ∙ ap f (sym t)))
named_same f (x ∷ xs) a b n (inr i) (inr j) e = named_same f xs a b n.1 i j e

-- no name stands in both of two lists
pub named_append : {X : Type 0} (f : X → CallName) (xs ys : List X) (a b : X) → NamedOnce (map f (xs ++ ys)) → In a xs → In b ys → f a ≢ f b
named_append f [] ys a b n i j e = absurd i
named_append f (x ∷ xs) ys a b n (inl s) j e = n.0 (f b) (contains_in (f b) (map f (xs ++ ys)) (in_map f (xs ++ ys) b (in_right b xs ys j))) (sym e ∙ ap f (sym s))
named_append f (x ∷ xs) ys a b n (inr i) j e = named_append f xs ys a b n.1 i j e

pub named_right : {X : Type 0} (f : X → CallName) (xs ys : List X) → NamedOnce (map f (xs ++ ys)) → NamedOnce (map f ys)
named_right f [] ys n = n
named_right f (x ∷ xs) ys n = named_right f xs ys n.1

-- of entries whose calls are named once

abbrev pub entry_name : {C : Type 0} → Executed C → CallName
entry_name x = name (asked_of x)

-- an entry of a name is the only one
only_first : {C : Type 0} (x y : Executed C) (es : List (Entry C)) → NamedOnce (map name (calls_in (Called x ∷ es))) → In (Called y) es → entry_name y ≢ entry_name x
only_first x y es once i = once.0 (entry_name y) (contains_in (entry_name y) (map name (calls_in es)) (in_map name (calls_in es) (asked_of y) (in_calls es y i)))

pub one_entry : {C : Type 0} (es : List (Entry C)) (x y : Executed C) → NamedOnce (map name (calls_in es)) → In (Called x) es → In (Called y) es → entry_name x ≡ entry_name y → x ≡ y
one_entry [] x y once i j e = absurd i
one_entry (Called z ∷ es) x y once (inl s) (inl t) e = let a : z ≡ x = cc in let b : z ≡ y = cc in sym a ∙ b
one_entry (Called z ∷ es) x y once (inl s) (inr j) e = let a : z ≡ x = cc in absurd (only_first z y es once j (sym e ∙ ap entry_name (sym a)))
one_entry (Called z ∷ es) x y once (inr i) (inl t) e = let b : z ≡ y = cc in absurd (only_first z x es once i (e ∙ ap entry_name (sym b)))
one_entry (Called z ∷ es) x y once (inr i) (inr j) e = one_entry es x y once.1 i j e
one_entry (Reset version ∷ es) x y once (inl s) j e = absurd cc
one_entry (Reset version ∷ es) x y once (inr i) (inl t) e = absurd cc
one_entry (Reset version ∷ es) x y once (inr i) (inr j) e = one_entry es x y once i j e

pub entries_apart : {C : Type 0} (es : List (Entry C)) (x y : Executed C) → NamedOnce (map name (calls_in es)) → StandsBefore es (Called x) (Called y) → entry_name x ≢ entry_name y
entries_apart [] x y once h e = absurd h
entries_apart (Called z ∷ es) x y once (inl h) e = let a : z ≡ x = let s = h.0 in cc in only_first z y es once (in_contains (Called y) es h.1) (sym e ∙ ap entry_name (sym a))
entries_apart (Called z ∷ es) x y once (inr h) e = entries_apart es x y once.1 h e
entries_apart (Reset version ∷ es) x y once (inl h) e = let s = h.0 in absurd cc
entries_apart (Reset version ∷ es) x y once (inr h) e = entries_apart es x y once h e

-- no call stands in both of two lists
pub apart_in_two : {C : Type 0} (es fs : List (Entry C)) (x y : Executed C) → NamedOnce (map name (calls_in (es ++ fs))) → In (Called x) es → In (Called y) fs → entry_name x ≢ entry_name y
apart_in_two [] fs x y once i j e = absurd i
apart_in_two (Called z ∷ es) fs x y once (inl s) j e = let a : z ≡ x = cc in only_first z y (es ++ fs) once (in_right (Called y) es fs j) (sym e ∙ ap entry_name (sym a))
apart_in_two (Called z ∷ es) fs x y once (inr i) j e = apart_in_two es fs x y once.1 i j e
apart_in_two (Reset version ∷ es) fs x y once (inl s) j e = absurd cc
apart_in_two (Reset version ∷ es) fs x y once (inr i) j e = apart_in_two es fs x y once i j e
