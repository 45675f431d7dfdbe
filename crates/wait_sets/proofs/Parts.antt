-- What happens to the runs of a list as it grows and gets shorter.
use Rattle.std.proofs.Common.{◌≡◌, ℕ, zero, suc, ◌+◌, ◌-◌, ◌≤◌, ◌<◌, ◌⊎◌, Bool, true, false, ◌==◌, List, [], ◌∷◌, ◌++◌, length, take, drop, filter, get_or, set, refl, ap, sym, ◌∙◌, subst, inl, inr, ⊎_elim, arith, append_assoc, append-nil, length-append, length-take, length-drop, take-append-drop}
use Rattle.std.specs.Prelude.{nat_lt, slice_index, slice_range, if◌then◌else◌}
use Rattle.std.specs.List.{remove}
use Rattle.std.proofs.lemmas.List.{take-append-le, drop-append-le, drop_at, drop_all, drop_more, take_more, take_more_set, drop-drop, drop-set-lt, get_or-drop, set_split, take_all}
use Rattle.std.proofs.lemmas.List.Elements.{All-nil, All-cons, All-get_or, All-push, All-append, All-take, All-drop, All-filter, filter-append}
use Rattle.std.proofs.lemmas.Bool.Decides.{nat_tests}
use Rattle.wait_sets.specs.Runs.{AreAlike, AreRuns, EndsAlike, lengthened, shortened, stayed}

none_or_some : (k : ℕ) → (k ≡ 0) ⊎ (0 < k)
none_or_some zero = inl refl
none_or_some (suc k) = inr (omega arith)

no_more : {X : Type 0} (xs : List X) → length xs ≡ 0 → xs ≡ []
no_more [] e = refl
no_more (x ∷ xs) e = absurd (let k : ⊥ = omega (arith, e) in k)

alike_front : {X K : Type 0} (kind : X → K) (xs ys : List X) (ns : List ℕ) → AreAlike kind xs → AreRuns kind ns ys → AreRuns kind (length xs ∷ ns) (xs ++ ys)
alike_front {X} {K} kind xs ys ns alike more =
    let within : length xs ≤ length (xs ++ ys) = omega (arith, length-append xs ys) in
    let front : take (length xs) (xs ++ ys) ≡ xs = take-append-le (length xs) xs ys (omega arith) ∙ take_all (length xs) xs (omega arith) in
    (within, subst (AreAlike kind) (sym front) alike, subst (AreRuns kind ns) (sym (drop_at xs ys (length xs) refl)) more)

-- a newcomer

-- the last run has nobody, or the newcomer is of the last one's kind
abbrev pub Joins : {X K : Type 0} → (X → K) → ℕ → List X → X → Type 0
Joins kind n xs y = (n ≡ 0) ⊎ EndsAlike kind xs y

pub last_within : {X K : Type 0} (kind : X → K) (ns : List ℕ) (n : ℕ) (xs : List X) → AreRuns kind (ns ++ n ∷ []) xs → n ≤ length xs
last_within kind [] n xs h = h.0
last_within kind (m ∷ ms) n xs h = let within = last_within kind ms n (drop m xs) h.2 in omega (arith, length-drop m xs)

joins_behind : {X K : Type 0} (kind : X → K) (m : ℕ) (ms : List ℕ) (n : ℕ) (xs : List X) (y : X) → AreRuns kind (ms ++ n ∷ []) (drop m xs) → Joins kind n xs y → Joins kind n (drop m xs) y
joins_behind {X} {K} kind m ms n xs y h joins = ⊎_elim (λ none. inl none) (λ j. some j) joins
  where
    some : EndsAlike kind xs y → Joins kind n (drop m xs) y
    some j = ⊎_elim (λ none. inl (let within = last_within kind ms n (drop m xs) h in omega arith)) (λ more. inr (j.0, more, still more, j.3)) (none_or_some (length (drop m xs)))
      where
        still : 0 < length (drop m xs) → get_or (drop m xs) (length (drop m xs) - 1) j.0 ≡ j.0
        still more =
            let long = length-drop m xs in
            let place : m + (length (drop m xs) - 1) ≡ length xs - 1 = omega (arith, long) in
            get_or-drop m xs (length (drop m xs) - 1) j.0 ∙ ap (λ i. get_or xs i j.0) place ∙ j.2

alike_with : {X K : Type 0} (kind : X → K) (n : ℕ) (xs : List X) (y : X) → n ≡ length xs → AreAlike kind xs → Joins kind n xs y → AreAlike kind (xs ++ y ∷ [])
alike_with {X} {K} kind n [] y e alike joins = (kind y, All-cons (λ x. kind x ≡ kind y) y [] refl (All-nil (λ x. kind x ≡ kind y)))
alike_with {X} {K} kind n (x ∷ xs) y e alike joins = ⊎_elim (λ none. absurd (let k : ⊥ = omega (arith, e, none) in k)) some joins
  where
    some : EndsAlike kind (x ∷ xs) y → AreAlike kind (x ∷ xs ++ y ∷ [])
    some j =
        let there : length (x ∷ xs) - 1 < length (x ∷ xs) = let more = j.1 in omega arith in
        let its : kind (get_or (x ∷ xs) (length (x ∷ xs) - 1) j.0) ≡ alike.0 = All-get_or (λ z. kind z ≡ alike.0) (x ∷ xs) (length (x ∷ xs) - 1) j.0 there alike.1 in
        (alike.0, All-push (λ z. kind z ≡ alike.0) (x ∷ xs) y alike.1 (sym j.3 ∙ sym (ap kind j.2) ∙ its))

grown : {X K : Type 0} (kind : X → K) (ns : List ℕ) (n : ℕ) (xs : List X) (y : X) → AreRuns kind (ns ++ n ∷ []) xs → Joins kind n xs y → AreRuns kind (ns ++ (n + 1) ∷ []) (xs ++ y ∷ [])
grown {X} {K} kind [] n xs y h joins =
    let long : length xs ≤ n = let e : length (drop n xs) ≡ 0 = ap length h.2 in omega (arith, length-drop n xs, e) in
    let same : n ≡ length xs = let within = h.0 in omega arith in
    let longer : length (xs ++ y ∷ []) ≡ length xs + 1 = length-append xs (y ∷ []) in
    let alike : AreAlike kind (xs ++ y ∷ []) = alike_with kind n xs y same (subst (AreAlike kind) (take_all n xs long) h.1) joins in
    (omega arith, subst (AreAlike kind) (sym (take_all (n + 1) (xs ++ y ∷ []) (omega arith))) alike, drop_all (n + 1) (xs ++ y ∷ []) (omega arith))
grown {X} {K} kind (m ∷ ms) n xs y h joins =
    let longer : length (xs ++ y ∷ []) ≡ length xs + 1 = length-append xs (y ∷ []) in
    let within : m ≤ length xs = h.0 in
    let more = grown kind ms n (drop m xs) y h.2 (joins_behind kind m ms n xs y h.2 joins) in
    (omega arith, subst (AreAlike kind) (sym (take-append-le m xs (y ∷ []) within)) h.1, subst (AreRuns kind (ms ++ (n + 1) ∷ [])) (sym (drop-append-le m xs (y ∷ []) within)) more)

-- a run of nobody yet
pub begun : {X K : Type 0} (kind : X → K) (one : K) (ns : List ℕ) (xs : List X) → AreRuns kind ns xs → AreRuns kind (ns ++ 0 ∷ []) xs
begun kind one [] xs h = (omega arith, (one, All-nil (λ x. kind x ≡ one)), h)
begun kind one (n ∷ ns) xs h = (h.0, h.1, begun kind one ns (drop n xs) h.2)

pub some_run : {X K : Type 0} (kind : X → K) (ns : List ℕ) (xs : List X) → 0 < length xs → AreRuns kind ns xs → 0 < length ns
some_run kind [] xs some h = absurd (let e : length xs ≡ 0 = ap length h in let k : ⊥ = omega (arith, e, some) in k)
some_run kind (n ∷ ns) xs some h = omega arith

last_apart : (ns : List ℕ) → 0 < length ns → ns ≡ take (length ns - 1) ns ++ get_or ns (length ns - 1) 0 ∷ []
last_apart ns some =
    let k : ℕ = length ns - 1 in
    let last : drop k ns ≡ get_or ns k 0 ∷ [] = drop_more ns k 0 (omega arith) ∙ ap (λ ms. get_or ns k 0 ∷ ms) (drop_all (k + 1) ns (omega arith)) in
    sym (take-append-drop k ns) ∙ ap (λ ms. take k ns ++ ms) last

last_set : (ns : List ℕ) (n : ℕ) → 0 < length ns → set ns (length ns - 1) n ≡ take (length ns - 1) ns ++ n ∷ []
last_set ns n some =
    let k : ℕ = length ns - 1 in
    set_split ns k n (omega arith) ∙ ap (λ ms. take k ns ++ n ∷ ms) (drop_all (suc k) ns (omega arith))

pub runs_lengthened : {X K : Type 0} (kind : X → K) (ns : List ℕ) (xs : List X) (y : X) → 0 < length ns → AreRuns kind ns xs → Joins kind (get_or ns (length ns - 1) 0) xs y → AreRuns kind (lengthened ns) (xs ++ y ∷ [])
runs_lengthened kind ns xs y some h joins =
    let last : ℕ = get_or ns (length ns - 1) 0 in
    let apart : AreRuns kind (take (length ns - 1) ns ++ last ∷ []) xs = subst (λ ms. AreRuns kind ms xs) (last_apart ns some) h in
    subst (λ ms. AreRuns kind ms (xs ++ y ∷ [])) (sym (last_set ns (last + 1) some)) (grown kind (take (length ns - 1) ns) last xs y apart joins)

pub last_run_within : {X K : Type 0} (kind : X → K) (ns : List ℕ) (xs : List X) → 0 < length ns → AreRuns kind ns xs → get_or ns (length ns - 1) 0 ≤ length xs
last_run_within kind ns xs some h = last_within kind (take (length ns - 1) ns) (get_or ns (length ns - 1) 0) xs (subst (λ ms. AreRuns kind ms xs) (last_apart ns some) h)

-- the two ways in which a newcomer is added

pub joined : {X K : Type 0} (kind : X → K) (ns : List ℕ) (xs : List X) (y : X) → AreRuns kind ns xs → EndsAlike kind xs y → AreRuns kind (lengthened ns) (xs ++ y ∷ [])
joined kind ns xs y h ends = runs_lengthened kind ns xs y (some_run kind ns xs ends.1 h) h (inr ends)

pub begins : {X K : Type 0} (kind : X → K) (ns : List ℕ) (xs : List X) (y : X) → AreRuns kind ns xs → AreRuns kind (lengthened (ns ++ 0 ∷ [])) (xs ++ y ∷ [])
begins kind ns xs y h =
    let long : length (ns ++ 0 ∷ []) ≡ length ns + 1 = length-append ns (0 ∷ []) in
    let last : get_or (ns ++ 0 ∷ []) (length (ns ++ 0 ∷ []) - 1) 0 ≡ 0 = (let e : length (ns ++ 0 ∷ []) - 1 ≡ length ns = omega (arith, long) in ap (λ k. get_or (ns ++ 0 ∷ []) k 0) e) ∙ last_of ns in
    runs_lengthened kind (ns ++ 0 ∷ []) xs y (omega (arith, long)) (begun kind (kind y) ns xs h) (inl last)
  where
    last_of : (ms : List ℕ) → get_or (ms ++ 0 ∷ []) (length ms) 0 ≡ 0
    last_of [] = refl
    last_of (m ∷ ms) = last_of ms

-- what a newcomer finds, whether it joins the last run or begins one
pub record Opened {X K : Type 0} (kind : X → K) (ms : List ℕ) (xs : List X) (y : X) : Type 0 where
  pub runs : AreRuns kind ms xs
  pub after : AreRuns kind (lengthened ms) (xs ++ y ∷ [])
  pub some : 0 < length ms
  pub room : slice_index ms (length ms - 1) ≤ length xs

pub opened : {X K : Type 0} (kind : X → K) (joins : Bool) (ns : List ℕ) (xs : List X) (y : X) → AreRuns kind ns xs → (joins ≡ true → EndsAlike kind xs y) → Opened kind (if joins then ns else ns ++ 0 ∷ []) xs y
opened kind true ns xs y h ends =
    let some : 0 < length ns = some_run kind ns xs (ends refl).1 h in
    record { runs = h; after = joined kind ns xs y h (ends refl); some = some; room = last_run_within kind ns xs some h }
opened kind false ns xs y h ends =
    let runs = begun kind (kind y) ns xs h in
    let some : 0 < length (ns ++ 0 ∷ []) = omega (arith, length-append ns (0 ∷ [])) in
    record { runs = runs; after = begins kind ns xs y h; some = some; room = last_run_within kind (ns ++ 0 ∷ []) xs some runs }

-- one who leaves

removed_front : {X : Type 0} (xs ys : List X) (i : ℕ) → i < length xs → remove (xs ++ ys) i ≡ remove xs i ++ ys
removed_front [] ys i h = absurd (let k : ⊥ = omega (arith, h) in k)
removed_front (x ∷ xs) ys zero h = refl
removed_front (x ∷ xs) ys (suc i) h = ap (λ zs. x ∷ zs) (removed_front xs ys i (omega arith))

removed_length : {X : Type 0} (xs : List X) (i : ℕ) → i < length xs → length (remove xs i) ≡ length xs - 1
removed_length [] i h = absurd (let k : ⊥ = omega (arith, h) in k)
removed_length (x ∷ xs) zero h = omega arith
removed_length (x ∷ xs) (suc i) h = let more = removed_length xs i (omega arith) in omega arith

removed_alike : {X K : Type 0} (kind : X → K) (xs : List X) (i : ℕ) → AreAlike kind xs → AreAlike kind (remove xs i)
removed_alike {X} {K} kind xs i h = let P : X → Type 0 = λ x. kind x ≡ h.0 in (h.0, All-append P (take i xs) (drop (suc i) xs) (All-take P i xs h.1) (All-drop P (suc i) xs h.1))

removed_behind : {X : Type 0} (n i : ℕ) (xs : List X) → n ≤ length xs → n ≤ i → remove xs i ≡ take n xs ++ remove (drop n xs) (i - n)
removed_behind zero i xs within h = let e : i ≡ i - 0 = omega arith in ap (remove xs) e
removed_behind (suc n) i [] within h = absurd (let k : ⊥ = omega (arith, within) in k)
removed_behind (suc n) zero (x ∷ xs) within h = absurd (let k : ⊥ = omega (arith, h) in k)
removed_behind (suc n) (suc i) (x ∷ xs) within h =
    let e : i - n ≡ suc i - suc n = omega arith in
    ap (λ zs. x ∷ zs) (removed_behind n i xs (omega arith) (omega arith)) ∙ ap (λ k. x ∷ take n xs ++ remove (drop n xs) k) e

pub runs_shortened : {X K : Type 0} (kind : X → K) (ns : List ℕ) (xs : List X) (i : ℕ) → i < length xs → AreRuns kind ns xs → AreRuns kind (shortened ns i) (remove xs i)
runs_shortened kind [] xs i there h = absurd (let e : length xs ≡ 0 = ap length h in let k : ⊥ = omega (arith, e, there) in k)
runs_shortened {X} {K} kind (n ∷ ns) xs i there h = go (λ less. runs_shortened kind ns (drop n xs) (i - n) less h.2) (nat_lt i n) refl
  where
    front : List X
    front = take n xs

    back : List X
    back = drop n xs

    whole : xs ≡ front ++ back
    whole = sym (take-append-drop n xs)

    long : length front ≡ n
    long = let within = h.0 in omega (arith, length-take n xs)

    within_front : i < n → remove xs i ≡ remove front i ++ back
    within_front less = ap (λ zs. remove zs i) whole ∙ removed_front front back i (omega (arith, long))

    less_one : i < n → (last : Bool) → (n == 1) ≡ last → AreRuns kind (if last then ns else (n - 1) ∷ ns) (remove front i ++ back)
    less_one less false is =
        let same : length (remove front i) ≡ n - 1 = let e = removed_length front i (omega (arith, long)) in omega (arith, long, e) in
        subst (λ k. AreRuns kind (k ∷ ns) (remove front i ++ back)) same (alike_front kind (remove front i) back ns (removed_alike kind front i h.1) h.2)
    less_one less true is =
        let one : n ≡ 1 = grind (arith, nat_tests) in
        let short : length (remove front i) ≡ 0 = let e = removed_length front i (omega (arith, long)) in omega (arith, long, e, one) in
        subst (λ zs. AreRuns kind ns (zs ++ back)) (sym (no_more (remove front i) short)) h.2

    go : (i - n < length back → AreRuns kind (shortened ns (i - n)) (remove back (i - n))) → (less : Bool) → nat_lt i n ≡ less → AreRuns kind (if less then (if n == 1 then ns else (n - 1) ∷ ns) else n ∷ shortened ns (i - n)) (remove xs i)
    go behind_shortened true is =
        let less : i < n = grind (arith, nat_tests) in
        subst (AreRuns kind (if n == 1 then ns else (n - 1) ∷ ns)) (sym (within_front less)) (less_one less (n == 1) refl)
    go behind_shortened false is =
        let behind : n ≤ i = grind (arith, nat_tests) in
        let more : AreRuns kind (shortened ns (i - n)) (remove back (i - n)) = behind_shortened (let e = length-drop n xs in omega (arith, e)) in
        let at : AreRuns kind (n ∷ shortened ns (i - n)) (front ++ remove back (i - n)) = subst (λ k. AreRuns kind (k ∷ shortened ns (i - n)) (front ++ remove back (i - n))) long (alike_front kind front (remove back (i - n)) (shortened ns (i - n)) h.1 more) in
        subst (AreRuns kind (n ∷ shortened ns (i - n))) (sym (removed_behind n i xs h.0 behind)) at

-- at the run that is found, which has others or none

pub one_less : (ns : List ℕ) (i left place run : ℕ) → i < length ns → shortened ns place ≡ take i ns ++ shortened (drop i ns) left → run ≡ get_or ns i run → left < run → (run ≡ 1 → ⊥) → set ns i (run - 1) ≡ shortened ns place
one_less ns i left place run there so_far is less more =
    let here : nat_lt left run ≡ true = grind (arith, nat_tests) in
    let others : (run == 1) ≡ false = grind (arith, nat_tests) in
    let its : drop i ns ≡ run ∷ drop (suc i) ns = drop_more ns i run there ∙ (let e : i + 1 ≡ suc i = omega arith in ap (λ k. get_or ns i run ∷ drop k ns) e) ∙ ap (λ k. k ∷ drop (suc i) ns) (sym is) in
    let found : shortened (run ∷ drop (suc i) ns) left ≡ (run - 1) ∷ drop (suc i) ns = rw (here, others) refl in
    set_split ns i (run - 1) there ∙ sym (so_far ∙ ap (λ ms. take i ns ++ shortened ms left) its ∙ ap (λ ms. take i ns ++ ms) found)

pub none_left : (ns : List ℕ) (i left place run : ℕ) → i < length ns → shortened ns place ≡ take i ns ++ shortened (drop i ns) left → run ≡ get_or ns i run → left < run → run ≡ 1 → remove ns i ≡ shortened ns place
none_left ns i left place run there so_far is less last =
    let here : nat_lt left run ≡ true = grind (arith, nat_tests) in
    let alone : (run == 1) ≡ true = grind (arith, nat_tests) in
    let its : drop i ns ≡ run ∷ drop (suc i) ns = drop_more ns i run there ∙ (let e : i + 1 ≡ suc i = omega arith in ap (λ k. get_or ns i run ∷ drop k ns) e) ∙ ap (λ k. k ∷ drop (suc i) ns) (sym is) in
    let found : shortened (run ∷ drop (suc i) ns) left ≡ drop (suc i) ns = rw (here, alone) refl in
    sym (so_far ∙ ap (λ ms. take i ns ++ shortened ms left) its ∙ ap (λ ms. take i ns ++ ms) found)

pub passed_by : (ns : List ℕ) (i left run : ℕ) → i < length ns → run ≡ get_or ns i run → run ≤ left → take i ns ++ shortened (drop i ns) left ≡ take (i + 1) ns ++ shortened (drop (i + 1) ns) (left - run)
passed_by ns i left run there is behind =
    let not_here : nat_lt left run ≡ false = grind (arith, nat_tests) in
    let its : drop i ns ≡ run ∷ drop (i + 1) ns = drop_more ns i run there ∙ ap (λ k. k ∷ drop (i + 1) ns) (sym is) in
    let found : shortened (run ∷ drop (i + 1) ns) left ≡ run ∷ shortened (drop (i + 1) ns) (left - run) = rw not_here refl in
    let more : take (i + 1) ns ≡ take i ns ++ run ∷ [] = take_more ns i run there ∙ ap (λ k. take i ns ++ k ∷ []) (sym is) in
    ap (λ ms. take i ns ++ shortened ms left) its ∙ ap (λ ms. take i ns ++ ms) found ∙ sym (append_assoc (take i ns) (run ∷ []) (shortened (drop (i + 1) ns) (left - run))) ∙ ap (λ ms. ms ++ shortened (drop (i + 1) ns) (left - run)) (sym more)

-- those who stay, run by run

-- so far: the first runs have those who stay, and the others are as they were
pub record StayedSoFar {X K : Type 0} (kind : X → K) (stays : X → Bool) (ns : List ℕ) (xs : List X) (i : ℕ) (ms : List ℕ) (start : ℕ) : Type 0 where
  pub others : drop i ms ≡ drop i ns
  pub whole : stayed stays ns xs ≡ take i ms ++ stayed stays (drop i ns) (drop start xs)
  pub within : start ≤ length xs
  pub runs : AreRuns kind (drop i ns) (drop start xs)

pub run_at : {X K : Type 0} (kind : X → K) (stays : X → Bool) (ns : List ℕ) (xs : List X) (i : ℕ) (ms : List ℕ) (start run : ℕ) → i < length ms → run ≡ get_or ms i run → StayedSoFar kind stays ns xs i ms start
    → (drop i ns ≡ run ∷ drop (i + 1) ms) × (start + run ≤ length xs)
run_at kind stays ns xs i ms start run there is so =
    let its : drop i ns ≡ run ∷ drop (i + 1) ms = sym so.others ∙ drop_more ms i run there ∙ ap (λ k. k ∷ drop (i + 1) ms) (sym is) in
    let runs : AreRuns kind (run ∷ drop (i + 1) ms) (drop start xs) = subst (λ ks. AreRuns kind ks (drop start xs)) its so.runs in
    (its, (let fits = runs.0 in let within = so.within in omega (arith, length-drop start xs)))

pub stayed_more : {X K : Type 0} (kind : X → K) (stays : X → Bool) (ns : List ℕ) (xs : List X) (i : ℕ) (ms : List ℕ) (start run kept : ℕ) → i < length ms → run ≡ get_or ms i run
    → kept ≡ length (filter stays (slice_range xs start (start + run))) → StayedSoFar kind stays ns xs i ms start → StayedSoFar kind stays ns xs (i + 1) (set ms i kept) (start + run)
stayed_more {X} {K} kind stays ns xs i ms start run kept there is counted so =
    record { others = others; whole = whole; within = place.1; runs = subst (λ ks. AreRuns kind ks (drop (start + run) xs)) (sym rest) (subst (AreRuns kind (drop (i + 1) ms)) behind runs.2) }
  where
    place : (drop i ns ≡ run ∷ drop (i + 1) ms) × (start + run ≤ length xs)
    place = run_at kind stays ns xs i ms start run there is so

    runs : AreRuns kind (run ∷ drop (i + 1) ms) (drop start xs)
    runs = subst (λ ks. AreRuns kind ks (drop start xs)) place.0 so.runs

    behind : drop run (drop start xs) ≡ drop (start + run) xs
    behind = drop-drop run start xs

    rest : drop (i + 1) ns ≡ drop (i + 1) ms
    rest = sym (drop-drop 1 i ns) ∙ ap (drop 1) place.0

    others : drop (i + 1) (set ms i kept) ≡ drop (i + 1) ns
    others = drop-set-lt (i + 1) ms i kept (omega arith) ∙ sym rest

    same : length (filter stays (take run (drop start xs))) ≡ kept
    same = (let e : run ≡ start + run - start = omega arith in ap (λ k. length (filter stays (take k (drop start xs)))) e) ∙ sym counted

    whole : stayed stays ns xs ≡ take (i + 1) (set ms i kept) ++ stayed stays (drop (i + 1) ns) (drop (start + run) xs)
    whole =
        so.whole
        ∙ ap (λ ks. take i ms ++ stayed stays ks (drop start xs)) place.0
        ∙ ap (λ k. take i ms ++ k ∷ stayed stays (drop (i + 1) ms) (drop run (drop start xs))) same
        ∙ ap (λ ys. take i ms ++ kept ∷ stayed stays (drop (i + 1) ms) ys) behind
        ∙ ap (λ ks. take i ms ++ kept ∷ stayed stays ks (drop (start + run) xs)) (sym rest)
        ∙ sym (append_assoc (take i ms) (kept ∷ []) (stayed stays (drop (i + 1) ns) (drop (start + run) xs)))
        ∙ ap (λ ks. ks ++ stayed stays (drop (i + 1) ns) (drop (start + run) xs)) (sym (take_more_set ms i kept there))

pub stayed_all : {X K : Type 0} (kind : X → K) (stays : X → Bool) (ns : List ℕ) (xs : List X) (i : ℕ) (ms : List ℕ) (start : ℕ) → length ms ≤ i → StayedSoFar kind stays ns xs i ms start → ms ≡ stayed stays ns xs
stayed_all kind stays ns xs i ms start past so =
    let none : drop i ns ≡ [] = sym so.others ∙ drop_all i ms past in
    sym (so.whole ∙ ap (λ ks. take i ms ++ stayed stays ks (drop start xs)) none ∙ append-nil (take i ms) ∙ take_all i ms past)

pub runs_stayed : {X K : Type 0} (kind : X → K) (stays : X → Bool) (ns : List ℕ) (xs : List X) → AreRuns kind ns xs → AreRuns kind (stayed stays ns xs) (filter stays xs)
runs_stayed kind stays [] xs h = ap (filter stays) h
runs_stayed {X} {K} kind stays (n ∷ ns) xs h =
    let front : List X = take n xs in
    let back : List X = drop n xs in
    let alike : AreAlike kind (filter stays front) = (h.1.0, All-filter stays (λ x. kind x ≡ h.1.0) front h.1.1) in
    let whole : filter stays xs ≡ filter stays front ++ filter stays back = ap (filter stays) (sym (take-append-drop n xs)) ∙ filter-append stays front back in
    subst (AreRuns kind (stayed stays (n ∷ ns) xs)) (sym whole) (alike_front kind (filter stays front) (filter stays back) (stayed stays ns back) alike (runs_stayed kind stays ns back h.2))

pub runs_of_some : {X K : Type 0} (kind : X → K) (ns : List ℕ) (xs : List X) → AreRuns kind ns xs → AreRuns kind (filter (λ n. nat_lt 0 n) ns) xs
runs_of_some kind [] xs h = h
runs_of_some kind (zero ∷ ns) xs h = runs_of_some kind ns xs h.2
runs_of_some kind (suc n ∷ ns) xs h = let some : nat_lt 0 (suc n) ≡ true = grind (arith, nat_tests) in rw some (h.0, h.1, runs_of_some kind ns (drop (suc n) xs) h.2)
