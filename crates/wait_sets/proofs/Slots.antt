-- The places of lists, and how many lists have somebody.
use Rattle.std.proofs.Common.{◌≡◌, ◌≢◌, ◌⊎◌, ⊎_elim, ℕ, ◌+◌, ◌-◌, ◌<◌, ◌≤◌, List, [], ◌∷◌, ◌++◌, length, take, get_or, slice_set, replicate, sum_by, map, drop, All, refl, ap, sym, ◌∙◌, arith}
use Rattle.std.proofs.lemmas.List.{append-nil, take_all, drop_all, length-take, length-set, take_more_set, get_or_default, get_or-set_same, get_or-set_other}
use Rattle.std.proofs.lemmas.List.Elements.{All-nil, All-cons, All-head, All-tail}
use Rattle.std.proofs.lemmas.List.Folds.{sum_by-replicate}
use Rattle.std.proofs.lemmas.List.Sums.{sum_by-cons, sum_by_push, sum_by-set}
use Rattle.wait_sets.specs.declared.waiter.Waiter.{Waiter}
use Rattle.grid_base.specs.declared.TheConstants.{PARTITIONS}
use Rattle.wait_sets.specs.Lists.{place_of, list_at, with_list, if_some}
use Rattle.wait_sets.specs.ListLaws.{EveryListIsItsOwn}

pub other_place : (m n p : ℕ) → m ≢ n → place_of m p ≢ place_of n p
other_place m n p d e = d (omega (arith, e))

pub list_there : (lists : List (List Waiter)) (m p : ℕ) (list : List Waiter) → place_of m p < length lists → list_at (with_list lists m p list) m p ≡ list
list_there lists m p list l = get_or-set_same lists (place_of m p) list [] l

pub list_elsewhere : (lists : List (List Waiter)) (m n p : ℕ) (list : List Waiter) → n ≢ m → list_at (with_list lists m p list) n p ≡ list_at lists n p
list_elsewhere lists m n p list d = get_or-set_other lists (place_of m p) (place_of n p) list [] (other_place n m p d)

pub other_spot : (m n p q : ℕ) → p < PARTITIONS → q < PARTITIONS → (n ≢ m) ⊎ (q ≢ p) → place_of n q ≢ place_of m p
other_spot m n p q l k d e =
    let one : n ≡ m = omega (arith, e, l, k) in
    let other : q ≡ p = omega (arith, e, one) in
    ⊎_elim (λ h. h one) (λ h. h other) d

pub every_list_is_its_own : EveryListIsItsOwn
every_list_is_its_own m p lists list l there = (
  list_there lists m p list there,
  λ n q k d. get_or-set_other lists (place_of m p) (place_of n q) list [] (other_spot m n p q l k d),
)

-- how many

pub one_at_most : (list : List Waiter) → if_some list ≤ 1
one_at_most [] = omega arith
one_at_most (w ∷ ws) = omega arith

pub some_at_most : (lists : List (List Waiter)) → sum_by if_some lists ≤ length lists
some_at_most [] = omega arith
some_at_most (list ∷ lists) = let a = one_at_most list in let b = some_at_most lists in let c = sum_by-cons if_some list lists in omega (arith, a, b, c)

pub none_waits : (list : List Waiter) → if_some list ≡ 0 → list ≡ []
none_waits [] e = refl
none_waits (w ∷ ws) e = absurd (omega (arith, e))

pub none_empty : (n : ℕ) → sum_by if_some (replicate n []) ≡ 0
none_empty n = sum_by-replicate if_some n [] ∙ omega arith

pub some_idle : (lists : List (List Waiter)) → All (λ (list : List Waiter). list ≡ []) lists → sum_by if_some lists ≡ 0
some_idle [] h = refl
some_idle (list ∷ lists) h =
    let here : list ≡ [] = All-head (λ (l : List Waiter). l ≡ []) list lists h in
    let none : if_some list ≡ 0 = ap if_some here in
    let rest = some_idle lists (All-tail (λ (l : List Waiter). l ≡ []) list lists h) in
    let c = sum_by-cons if_some list lists in
    omega (arith, c, none, rest)

pub all_idle : (lists : List (List Waiter)) → sum_by if_some lists ≡ 0 → All (λ (list : List Waiter). list ≡ []) lists
all_idle [] e = All-nil (λ (list : List Waiter). list ≡ [])
all_idle (list ∷ lists) e =
    let c = sum_by-cons if_some list lists in
    let none : if_some list ≡ 0 = omega (arith, e, c) in
    let rest : sum_by if_some lists ≡ 0 = omega (arith, e, c) in
    All-cons (λ (l : List Waiter). l ≡ []) list lists (none_waits list none) (all_idle lists rest)

pub some_added : (list : List Waiter) (w : Waiter) → if_some (list ++ w ∷ []) ≡ 1
some_added [] w = refl
some_added (x ∷ xs) w = refl

-- with another list at a place
pub counted_anew : (lists : List (List Waiter)) (i : ℕ) (list : List Waiter) → i < length lists → sum_by if_some (slice_set lists i list) + if_some (get_or lists i []) ≡ sum_by if_some lists + if_some list
counted_anew lists i list l = sum_by-set if_some lists i list [] l

pub was_there : (lists : List (List Waiter)) (i : ℕ) (old : List Waiter) → i < length lists → old ≡ get_or lists i old → get_or lists i [] ≡ old
was_there lists i old l e = get_or_default lists i [] old l ∙ sym e

pub within_count : (lists : List (List Waiter)) (i : ℕ) (old : List Waiter) (busy : ℕ) → i < length lists → old ≡ get_or lists i old → busy ≡ sum_by if_some lists → if_some old ≤ busy
within_count lists i old busy l e b =
    let anew = counted_anew lists i [] l in
    let same : if_some (get_or lists i []) ≡ if_some old = ap if_some (was_there lists i old l e) in
    omega (arith, anew, same, b)

pub recounted : (lists : List (List Waiter)) (i : ℕ) (old new : List Waiter) (busy : ℕ) → i < length lists → old ≡ get_or lists i old → busy ≡ sum_by if_some lists
    → busy - if_some old + if_some new ≡ sum_by if_some (slice_set lists i new)
recounted lists i old new busy l e b =
    let anew = counted_anew lists i new l in
    let same : if_some (get_or lists i []) ≡ if_some old = ap if_some (was_there lists i old l e) in
    let within = within_count lists i old busy l e b in
    omega (arith, anew, same, b, within)

pub one_more : (lists : List (List Waiter)) (i : ℕ) (old : List Waiter) (w : Waiter) (busy : ℕ) → i < length lists → old ≡ get_or lists i old → busy ≡ sum_by if_some lists
    → busy + (1 - if_some old) ≡ sum_by if_some (slice_set lists i (old ++ w ∷ []))
one_more lists i old w busy l e b =
    let anew = recounted lists i old (old ++ w ∷ []) busy l e b in
    let one = some_added old w in
    let most = one_at_most old in
    let within = within_count lists i old busy l e b in
    omega (arith, anew, one, most, within)

-- of the first lists, one more of which was changed
pub counted_further : (lists : List (List Waiter)) (i busy : ℕ) (list : List Waiter) → i < length lists → busy ≡ sum_by if_some (take i lists)
    → busy + if_some list ≡ sum_by if_some (take (i + 1) (slice_set lists i list))
counted_further lists i busy list l b =
    let more : take (i + 1) (slice_set lists i list) ≡ take i lists ++ list ∷ [] = take_more_set lists i list l in
    let sum = sum_by_push if_some (take i lists) list in
    let whole : sum_by if_some (take (i + 1) (slice_set lists i list)) ≡ sum_by if_some (take i lists ++ list ∷ []) = ap (sum_by if_some) more in
    omega (arith, b, sum, whole)

pub counted_whole : (lists : List (List Waiter)) (n busy : ℕ) → length lists ≤ n → busy ≡ sum_by if_some (take n lists) → busy ≡ sum_by if_some lists
counted_whole lists n busy l b = b ∙ ap (sum_by if_some) (take_all n lists l)

pub within_lists : (lists : List (List Waiter)) (i busy : ℕ) (list : List Waiter) → i < length lists → busy ≡ sum_by if_some (take i lists) → busy + if_some list ≤ length lists
within_lists lists i busy list l b =
    let further = counted_further lists i busy list l b in
    let most = some_at_most (take (i + 1) (slice_set lists i list)) in
    let short = length-take (i + 1) (slice_set lists i list) in
    let long = length-set lists i list in
    omega (arith, further, most, short, long)

-- once all are passed
pub passed_all : (f : List Waiter → List Waiter) (lists : List (List Waiter)) (n : ℕ) → length lists ≤ n → map f (take n lists) ++ drop n lists ≡ map f lists
passed_all f lists n l = rw (take_all n lists l, drop_all n lists l) (append-nil (map f lists))
