-- The entries, by key.
use Rattle.std.proofs.Common.{◌≡◌, ℕ, zero, suc, ◌-◌, ◌<◌, ◌≤◌, Bool, true, false, not, cond, bytes_eq, List, [], ◌∷◌, length, filter, take, option_map, Option, Some, None, refl, sym, ap, ◌∙◌, subst, arith}
use Rattle.std.specs.List.{find, AllByRecursion, IsDistinct}
use Rattle.std.specs.Option.{option_map_or}
use Rattle.std.specs.Map.{keys_of, lookup, lookup_entry, remove_entry}
use Rattle.std.proofs.lemmas.Bool.{true≢false, false_from_ne_true}
use Rattle.std.proofs.lemmas.Slice.Eq.{bytes_eq-Decides}
use Rattle.std.proofs.lemmas.List.{take_all}
use Rattle.std.proofs.lemmas.Map.Made.{IsDistinct-keys_filter}
use Rattle.lru.specs.LruCache.{LruCache, IsValid, promoted, put_entries}
use Rattle.near_cache.specs.Caches.{Kept, is_for, others}

-- finding

pub find_is : (key : List ℕ) (es : List Kept) → find (is_for key) es ≡ lookup_entry (bytes_eq key) es
find_is key [] = refl
find_is key (e ∷ es) = ap (cond (bytes_eq key e.0) (Some e)) (find_is key es)

pub hit_is : (key : List ℕ) (es : List Kept) → option_map (λ e. e.1) (find (is_for key) es) ≡ lookup (bytes_eq key) es
hit_is key [] = refl
hit_is key (e ∷ es) = go (bytes_eq key e.0) (hit_is key es)
  where
    go : (b : Bool) → option_map (λ e. e.1) (find (is_for key) es) ≡ lookup (bytes_eq key) es
        → option_map (λ e. e.1) (cond b (Some e) (find (is_for key) es)) ≡ cond b (Some e.1) (lookup (bytes_eq key) es)
    go true on = refl
    go false on = on

-- other keys

abbrev pub NoneFor : List ℕ → List Kept → Type 0
NoneFor key es = AllByRecursion (λ k. bytes_eq key k ≡ false) (keys_of es)

pub others_of_none : (key : List ℕ) (es : List Kept) → NoneFor key es → others key es ≡ es
others_of_none key [] none = refl
others_of_none key (e ∷ es) none = rw none.0 (ap (λ xs. e ∷ xs) (others_of_none key es none.1))

pub none_in_others : (key : List ℕ) (es : List Kept) → NoneFor key (others key es)
none_in_others key [] = tt
none_in_others key (e ∷ es) = go (bytes_eq key e.0) refl (none_in_others key es)
  where
    go : (b : Bool) → bytes_eq key e.0 ≡ b → NoneFor key (others key es) → NoneFor key (cond (not b) (e ∷ others key es) (others key es))
    go true h on = on
    go false h on = (h, on)

-- of distinct keys the first of a key is the only one
pub remove_is : (key : List ℕ) (es : List Kept) → IsDistinct bytes_eq (keys_of es) → remove_entry (bytes_eq key) es ≡ others key es
unfolding IsDistinct
remove_is key [] distinct = refl
remove_is key (e ∷ es) distinct = go (bytes_eq key e.0) refl (remove_is key es distinct.1)
  where
    go : (b : Bool) → bytes_eq key e.0 ≡ b → remove_entry (bytes_eq key) es ≡ others key es
        → cond b es (e ∷ remove_entry (bytes_eq key) es) ≡ cond (not b) (e ∷ others key es) (others key es)
    go true h on =
        let same : key ≡ e.0 = (bytes_eq-Decides key e.0).0 h in
        sym (others_of_none key es (subst (λ k. AllByRecursion (λ (y : List ℕ). bytes_eq k y ≡ false) (keys_of es)) (sym same) distinct.0))
    go false h on = ap (λ xs. e ∷ xs) on

-- lengths

length_filter : (test : Kept → Bool) (es : List Kept) → length (filter test es) ≤ length es
length_filter test [] = omega arith
length_filter test (e ∷ es) = go (test e) (length_filter test es)
  where
    go : (b : Bool) → length (filter test es) ≤ length es → length (cond b (e ∷ filter test es) (filter test es)) ≤ length (e ∷ es)
    go true h = omega (arith, h)
    go false h = omega (arith, h)

length_take : {X : Type 0} (n : ℕ) (xs : List X) → length (take n xs) ≤ n
length_take zero xs = omega arith
length_take (suc n) [] = omega arith
length_take (suc n) (x ∷ xs) = let h = length_take n xs in omega (arith, h)

-- what is found isn't among the others
found_apart : (key : List ℕ) (es : List Kept) (e : Kept) → lookup_entry (bytes_eq key) es ≡ Some e → (bytes_eq key e.0 ≡ true) × (length (others key es) < length es)
found_apart key [] e h = absurd cc
found_apart key (x ∷ es) e h = go (bytes_eq key x.0) refl h (λ k. found_apart key es e k)
  where
    go : (b : Bool) → bytes_eq key x.0 ≡ b → cond b (Some x) (lookup_entry (bytes_eq key) es) ≡ Some e
        → (lookup_entry (bytes_eq key) es ≡ Some e → (bytes_eq key e.0 ≡ true) × (length (others key es) < length es))
        → (bytes_eq key e.0 ≡ true) × (length (cond (not b) (x ∷ others key es) (others key es)) < length (x ∷ es))
    go true t s on = let same : x ≡ e = cc in let less = length_filter (λ k. not (is_for key k)) es in (ap (λ (k : Kept). bytes_eq key k.0) (sym same) ∙ t, omega (arith, less))
    go false t s on = let r = on s in let less = r.1 in (r.0, omega (arith, less))

none_found : (key : List ℕ) (es : List Kept) → lookup_entry (bytes_eq key) es ≡ None → NoneFor key es
none_found key [] h = tt
none_found key (x ∷ es) h = go (bytes_eq key x.0) refl h (λ k. none_found key es k)
  where
    go : (b : Bool) → bytes_eq key x.0 ≡ b → cond b (Some x) (lookup_entry (bytes_eq key) es) ≡ None → (lookup_entry (bytes_eq key) es ≡ None → NoneFor key es) → NoneFor key (x ∷ es)
    go true t s on = absurd cc
    go false t s on = (t, on s)

pub take_first : {X : Type 0} (n : ℕ) (x : X) (xs : List X) → 0 < n → take n (x ∷ xs) ≡ x ∷ take (n - 1) xs
take_first zero x xs h = absurd (omega arith)
take_first (suc n) x xs h = ap (λ k. x ∷ take k xs) (omega arith)

-- the cache of the kit's crate does what is said of entries

-- after a hit
abbrev pub used_entries : List ℕ → List Kept → List Kept
used_entries key es = option_map_or (λ e. e ∷ others key es) (find (is_for key) es) es

pub promoted_is : (key : List ℕ) (es : List Kept) → IsDistinct bytes_eq (keys_of es)
    → promoted (bytes_eq key) es ≡ used_entries key es
promoted_is key es distinct = rw (find_is key es, remove_is key es distinct) refl

pub put_is : (c : LruCache (List ℕ) (Option (List ℕ))) (key : List ℕ) (value : Option (List ℕ)) → IsValid bytes_eq c
    → put_entries bytes_eq c key value ≡ take c.cap ((key, value) ∷ others key c.entries)
put_is c key value valid = go (lookup_entry (bytes_eq key) c.entries) refl
  where
    go : (o : Option Kept) → lookup_entry (bytes_eq key) c.entries ≡ o
        → option_map_or (λ e. (e.0, value) ∷ remove_entry (bytes_eq key) c.entries) o ((key, value) ∷ take (c.cap - 1) c.entries)
        ≡ take c.cap ((key, value) ∷ others key c.entries)
    go None h =
        ap (λ xs. (key, value) ∷ take (c.cap - 1) xs) (sym (others_of_none key c.entries (none_found key c.entries h)))
        ∙ sym (take_first c.cap (key, value) (others key c.entries) valid.2)
    go (Some e) h =
        let found = found_apart key c.entries e h in
        let same : key ≡ e.0 = (bytes_eq-Decides key e.0).0 found.0 in
        let fits : length ((key, value) ∷ others key c.entries) ≤ c.cap = (let less = found.1 in omega (arith, less, valid.1)) in
        ap (λ k. (k, value) ∷ remove_entry (bytes_eq key) c.entries) (sym same) ∙ ap (λ xs. (key, value) ∷ xs) (remove_is key c.entries valid.0)
        ∙ sym (take_all c.cap ((key, value) ∷ others key c.entries) fits)

-- and what it keeps stays valid

distinct_take : (n : ℕ) (es : List Kept) → IsDistinct bytes_eq (keys_of es) → IsDistinct bytes_eq (keys_of (take n es))
unfolding IsDistinct
distinct_take zero es d = tt
distinct_take (suc n) [] d = tt
distinct_take (suc n) (e ∷ es) d = (among n es d.0, distinct_take n es d.1)
  where
    among : (n : ℕ) (xs : List Kept) → NoneFor e.0 xs → NoneFor e.0 (take n xs)
    among zero xs h = tt
    among (suc n) [] h = tt
    among (suc n) (x ∷ xs) h = (h.0, among n xs h.1)

distinct_front : (e : Kept) (es : List Kept) → IsDistinct bytes_eq (keys_of es) → IsDistinct bytes_eq (keys_of (e ∷ others e.0 es))
unfolding IsDistinct
distinct_front e es d = (none_in_others e.0 es, IsDistinct-keys_filter bytes_eq (λ k. not (is_for e.0 k)) es d)

pub valid_kept : (c : LruCache (List ℕ) (Option (List ℕ))) (key : List ℕ) (value : Option (List ℕ)) → IsValid bytes_eq c
    → IsValid bytes_eq (record { entries = take c.cap ((key, value) ∷ others key c.entries); cap = c.cap })
valid_kept c key value valid = (
  distinct_take c.cap ((key, value) ∷ others key c.entries) (distinct_front (key, value) c.entries valid.0),
  length_take c.cap ((key, value) ∷ others key c.entries),
  valid.2,
)

pub valid_used : (c : LruCache (List ℕ) (Option (List ℕ))) (key : List ℕ) → IsValid bytes_eq c → IsValid bytes_eq (record { entries = used_entries key c.entries; cap = c.cap })
valid_used c key valid = subst (λ o. IsValid bytes_eq (with_found o)) (sym (find_is key c.entries)) (go (lookup_entry (bytes_eq key) c.entries) refl)
  where
    with_found : Option Kept → LruCache (List ℕ) (Option (List ℕ))
    with_found o = record { entries = option_map_or (λ e. e ∷ others key c.entries) o c.entries; cap = c.cap }

    go : (o : Option Kept) → lookup_entry (bytes_eq key) c.entries ≡ o → IsValid bytes_eq (record { entries = option_map_or (λ e. e ∷ others key c.entries) o c.entries; cap = c.cap })
    go None h = valid
    go (Some e) h =
        let found = found_apart key c.entries e h in
        let less = found.1 in
        let same : key ≡ e.0 = (bytes_eq-Decides key e.0).0 found.0 in
        (subst (λ k. IsDistinct bytes_eq (keys_of (e ∷ others k c.entries))) (sym same) (distinct_front e c.entries valid.0), omega (arith, less, valid.1), valid.2)

pub valid_filter : (c : LruCache (List ℕ) (Option (List ℕ))) (test : Kept → Bool) → IsValid bytes_eq c → IsValid bytes_eq (record { entries = filter test c.entries; cap = c.cap })
valid_filter c test valid = (IsDistinct-keys_filter bytes_eq test c.entries valid.0, (let h = length_filter test c.entries in omega (arith, h, valid.1)), valid.2)

-- taking keys out one by one

module _ (test : List ℕ → Bool) where
  abbrev passing : List Kept → List Kept
  passing es = filter (λ e. test e.0) es

  abbrev failing : List Kept → List Kept
  failing es = filter (λ e. not (test e.0)) es

  first_passes : (es : List Kept) (key : List ℕ) (rest : List (List ℕ)) → keys_of (passing es) ≡ key ∷ rest → test key ≡ true
  first_passes [] key rest h = absurd cc
  first_passes (e ∷ es) key rest h = go (test e.0) refl h (λ k. first_passes es key rest k)
    where
      go : (b : Bool) → test e.0 ≡ b → keys_of (cond b (e ∷ passing es) (passing es)) ≡ key ∷ rest → (keys_of (passing es) ≡ key ∷ rest → test key ≡ true) → test key ≡ true
      go true t s on = let same : e.0 ≡ key = cc in ap test (sym same) ∙ t
      go false t s on = on s

  -- the first key that passes is taken out
  pub taken_out : (es : List Kept) (key : List ℕ) (rest : List (List ℕ)) → keys_of (passing es) ≡ key ∷ rest
      → (keys_of (passing (remove_entry (bytes_eq key) es)) ≡ rest) × (failing (remove_entry (bytes_eq key) es) ≡ failing es)
  taken_out [] key rest h = absurd cc
  taken_out (e ∷ es) key rest h = go (test e.0) refl h (λ k. taken_out es key rest k)
    where
      go : (b : Bool) → test e.0 ≡ b → keys_of (cond b (e ∷ passing es) (passing es)) ≡ key ∷ rest
          → (keys_of (passing es) ≡ key ∷ rest → (keys_of (passing (remove_entry (bytes_eq key) es)) ≡ rest) × (failing (remove_entry (bytes_eq key) es) ≡ failing es))
          → (keys_of (passing (cond (bytes_eq key e.0) es (e ∷ remove_entry (bytes_eq key) es))) ≡ rest)
          × (failing (cond (bytes_eq key e.0) es (e ∷ remove_entry (bytes_eq key) es)) ≡ failing (e ∷ es))
      go true t s on =
          let same : e.0 ≡ key = cc in
          let left : keys_of (passing es) ≡ rest = cc in
          let here : bytes_eq key e.0 ≡ true = (bytes_eq-Decides key e.0).1 (sym same) in
          rw (here, t) (left, refl)
      go false t s on =
          let passes = first_passes es key rest s in
          let apart : bytes_eq key e.0 ≡ false = false_from_ne_true (bytes_eq key e.0) (λ z. let same = (bytes_eq-Decides key e.0).0 z in true≢false (sym passes ∙ ap test same ∙ t)) in
          let r = on s in
          rw (apart, t) (r.0, ap (λ xs. e ∷ xs) r.1)

  pub none_left : (es : List Kept) → keys_of (passing es) ≡ [] → failing es ≡ es
  none_left [] h = refl
  none_left (e ∷ es) h = go (test e.0) refl h (λ k. none_left es k)
    where
      go : (b : Bool) → test e.0 ≡ b → keys_of (cond b (e ∷ passing es) (passing es)) ≡ [] → (keys_of (passing es) ≡ [] → failing es ≡ es) → cond (not b) (e ∷ failing es) (failing es) ≡ e ∷ es
      go true t s on = absurd cc
      go false t s on = ap (λ xs. e ∷ xs) (on s)
