-- A list behind those that have left its front, and a list with a copy at its end.
use Rattle.std.proofs.Common.{◌≡◌, ℕ, zero, suc, ◌+◌, ◌-◌, ◌≤◌, ◌<◌, List, [], ◌∷◌, ◌++◌, length, take, drop, slice_get, get_or, Option, Some, None, refl, sym, ap, ◌∙◌, length-drop, arith}
use Rattle.std.specs.Prelude.{remove, IfSome}
use borrow.Rule.Slice.PartMut.{put_mid}
use Rattle.std.specs.Option.{option_to_list}
use Rattle.std.proofs.lemmas.List.{append-nil, drop-append-le, drop_at, length-take}
use Rattle.std.proofs.lemmas.Option.{slice_get_past, slice_get_read}

remove_nil : {X : Type 0} (i : ℕ) → remove {X = X} [] i ≡ []
remove_nil zero = refl
remove_nil (suc i) = refl

-- k is the place i behind the first n
pub drop_remove : {X : Type 0} (n i k : ℕ) (xs : List X) → k ≡ n + i → drop n (remove xs k) ≡ remove (drop n xs) i
drop_remove zero i k xs is = let same : k ≡ i = omega (arith, is) in ap (remove xs) same
drop_remove (suc n) i zero xs is = absurd (omega (arith, is))
drop_remove (suc n) i (suc k) [] is = sym (remove_nil i)
drop_remove (suc n) i (suc k) (x ∷ xs) is = drop_remove n i k xs (omega (arith, is))

-- no message is there to be repeated
pub none_repeated : {X : Type 0} (xs : List X) (i : ℕ) → length xs ≤ i → xs ≡ xs ++ option_to_list (slice_get xs i)
none_repeated xs i past = rw (slice_get_past xs i past) (sym (append-nil xs))

-- the one at a place is put last
pub one_repeated : {X : Type 0} (n : ℕ) (xs ys : List X) (i : ℕ) (x : X) → n ≤ length xs → drop n xs ≡ ys → i < length ys → x ≡ get_or ys i x → drop n (xs ++ x ∷ []) ≡ ys ++ option_to_list (slice_get ys i)
one_repeated n xs ys i x few behind there is =
    rw (slice_get_read ys (length ys) i x refl there is) (drop-append-le n xs (x ∷ []) few ∙ ap (λ zs. zs ++ x ∷ []) behind)

last_taken : {X : Type 0} (ts : List X) (i : ℕ) (x : X) → slice_get ts i ≡ Some x → drop i (take (suc i) ts) ≡ x ∷ []
last_taken [] i x e = absurd cc
last_taken (t ∷ ts) zero x e = let same : t ≡ x = cc in ap (λ y. y ∷ []) same
last_taken (t ∷ ts) (suc i) x e = last_taken ts i x e

take_twice : {X : Type 0} (ts : List X) (i : ℕ) → take i (take (suc i) ts) ≡ take i ts
take_twice ts zero = refl
take_twice [] (suc i) = refl
take_twice (t ∷ ts) (suc i) = ap (λ us. t ∷ us) (take_twice ts i)

if_some : {X : Type 0} (o : Option X) (P : X → Type 0) → ((x : X) → o ≡ Some x → P x) → IfSome o P
if_some None P h = tt
if_some (Some x) P h = h x refl

behind_front : {X : Type 0} (n k : ℕ) (xs ys : List X) → n ≤ length xs → drop n (put_mid n k xs ys) ≡ ys ++ drop k (drop n xs)
behind_front n k xs ys few = drop_at (take n xs) (ys ++ drop k (drop n xs)) n (omega (arith, length-take n xs))

-- the part up to the place i behind the first n is turned by one
pub brought : {X : Type 0} (n i : ℕ) (xs ys : List X) → n + i < length xs → let part = take (n + i + 1 - n) (drop n xs) in ys ≡ drop (length part - 1) part ++ take (length part - 1) part
    → IfSome (slice_get (drop n xs) i) (λ first. drop n (put_mid n (n + i + 1 - n) xs ys) ≡ first ∷ remove (drop n xs) i)
brought n i xs ys there turned =
    let ts = drop n xs in
    let count : n + i + 1 - n ≡ suc i = omega arith in
    let long : length (take (suc i) ts) - 1 ≡ i = omega (arith, length-take (suc i) ts, length-drop n xs) in
    if_some (slice_get ts i) (λ first. drop n (put_mid n (n + i + 1 - n) xs ys) ≡ first ∷ remove ts i)
    (λ first is.
    let front : ys ≡ first ∷ take i ts = turned ∙ rw (count, long, last_taken ts i first is, take_twice ts i) refl in
    behind_front n (n + i + 1 - n) xs ys (omega (arith, there)) ∙ rw (count, front) refl)
