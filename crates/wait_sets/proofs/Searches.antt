-- A search by runs, and one for either of two tests.
use Rattle.std.proofs.Common.{◌≡◌, ℕ, zero, suc, ◌+◌, ◌≤◌, ◌<◌, Bool, true, false, cond, ◌||◌, List, [], ◌∷◌, ◌++◌, length, take, drop, get_or, Option, Some, None, All, refl, ap, sym, ◌∙◌, subst, arith, length-take, length-drop}
use Rattle.std.specs.Prelude.{nat_lt, if◌then◌else◌}
use Rattle.std.specs.List.{position, position_from, position_or_len, remove}
use Rattle.std.specs.Option.{option_or}
use Rattle.std.proofs.lemmas.Iterator.Adapters.{position_from-zero}
use Rattle.std.proofs.lemmas.List.{take-take, take_all, take-append-le, get_or-take, drop_more, drop_all, drop-drop}
use Rattle.std.proofs.lemmas.List.Elements.{All-nil, All-cons, All-head, All-tail, All-weaker, All-take, All-from_get_or}
use Rattle.std.proofs.lemmas.List.Quantifiers.{position-Some}
use Rattle.std.proofs.lemmas.Bool.Decides.{nat_tests}
use Rattle.wait_sets.specs.Runs.{AreAlike, AreRuns, passes_first}

-- those that fail in front are passed over
pub passed : {X : Type 0} (f : X → Bool) (n : ℕ) (xs : List X) (i : ℕ) → All (λ x. f x ≡ false) (take n xs) → position_from f i xs ≡ position_from f (i + n) (drop n xs)
passed f zero xs i h = let e : i ≡ i + 0 = omega arith in ap (λ k. position_from f k xs) e
passed f (suc n) [] i h = refl
passed {X} f (suc n) (x ∷ xs) i h =
    let P : X → Type 0 = λ z. f z ≡ false in
    let e : i + 1 + n ≡ i + suc n = omega arith in
    rw (All-head P x (take n xs) h) (passed f n xs (i + 1) (All-tail P x (take n xs) h) ∙ ap (λ k. position_from f k (drop n xs)) e)

-- a run is passed over where its first fails, if kinds decide the test
pub passed_run : {X K : Type 0} (kind : X → K) (f : X → Bool) (n : ℕ) (ns : List ℕ) (xs : List X) (i : ℕ) → ((x y : X) → kind x ≡ kind y → f x ≡ f y)
    → AreRuns kind (n ∷ ns) xs → ((x : X) (more : List X) → xs ≡ x ∷ more → f x ≡ false) → position_from f i xs ≡ position_from f (i + n) (drop n xs)
passed_run {X} {K} kind f n ns xs i decides h fails = passed f n xs i (all n xs h.1 fails)
  where
    all : (n : ℕ) (xs : List X) → AreAlike kind (take n xs) → ((x : X) (more : List X) → xs ≡ x ∷ more → f x ≡ false) → All (λ x. f x ≡ false) (take n xs)
    all zero xs alike fails = All-nil (λ x. f x ≡ false)
    all (suc n) [] alike fails = All-nil (λ x. f x ≡ false)
    all (suc n) (x ∷ xs) alike fails =
        let P : X → Type 0 = λ z. kind z ≡ alike.0 in
        let its : kind x ≡ alike.0 = All-head P x (take n xs) alike.1 in
        All-weaker P (λ z. f z ≡ false) (λ z same. decides z x (same ∙ sym its) ∙ fails x xs refl) (x ∷ take n xs) alike.1

-- run by run

pub record SearchedSoFar {X K : Type 0} (kind : X → K) (f : X → Bool) (ns : List ℕ) (xs : List X) (i start : ℕ) : Type 0 where
  pub within : start ≤ length xs
  pub runs : AreRuns kind (drop i ns) (drop start xs)
  pub same : position_from f 0 xs ≡ position_from f start (drop start xs)

pub search_begins : {X K : Type 0} (kind : X → K) (f : X → Bool) (ns : List ℕ) (xs : List X) → AreRuns kind ns xs → SearchedSoFar kind f ns xs 0 0
search_begins kind f ns xs h = record { within = omega arith; runs = h; same = refl }

pub search_ends : {X K : Type 0} (kind : X → K) (f : X → Bool) (ns : List ℕ) (xs : List X) (i start : ℕ) → passes_first f (drop start xs) ≡ true → SearchedSoFar kind f ns xs i start → position_from f 0 xs ≡ Some start
search_ends kind f ns xs i start passes so = so.same ∙ here (drop start xs) passes
  where
    here : (ys : List _) → passes_first f ys ≡ true → position_from f start ys ≡ Some start
    here [] e = absurd (cc)
    here (y ∷ ys) e = rw e refl

pub search_goes_on : {X K : Type 0} (kind : X → K) (f : X → Bool) (ns : List ℕ) (xs : List X) (i start : ℕ) → ((x y : X) → kind x ≡ kind y → f x ≡ f y) → i < length ns → passes_first f (drop start xs) ≡ false
    → SearchedSoFar kind f ns xs i start → (start + get_or ns i 0 ≤ length xs) × SearchedSoFar kind f ns xs (i + 1) (start + get_or ns i 0)
search_goes_on {X} {K} kind f ns xs i start decides there fails so =
    (further, record { within = further; runs = subst (AreRuns kind (drop (i + 1) ns)) behind runs.2; same = so.same ∙ passed_run kind f run (drop (i + 1) ns) (drop start xs) start decides runs first ∙ ap (position_from f (start + run)) behind })
  where
    run : ℕ
    run = get_or ns i 0

    runs : AreRuns kind (run ∷ drop (i + 1) ns) (drop start xs)
    runs = subst (λ ms. AreRuns kind ms (drop start xs)) (drop_more ns i 0 there) so.runs

    further : start + run ≤ length xs
    further = let fits = runs.0 in let within = so.within in omega (arith, length-drop start xs)

    behind : drop run (drop start xs) ≡ drop (start + run) xs
    behind = drop-drop run start xs

    first : (x : X) (more : List X) → drop start xs ≡ x ∷ more → f x ≡ false
    first x more e = sym (ap (passes_first f) e) ∙ fails

pub search_fails : {X K : Type 0} (kind : X → K) (f : X → Bool) (ns : List ℕ) (xs : List X) (i start : ℕ) → length ns ≤ i → SearchedSoFar kind f ns xs i start → position_from f 0 xs ≡ None
search_fails kind f ns xs i start past so =
    let none : drop start xs ≡ [] = subst (λ ms. AreRuns kind ms (drop start xs)) (drop_all i ns past) so.runs in
    so.same ∙ ap (position_from f start) none

-- who stands at a place is first of what begins there
pub passes_at : {X : Type 0} (f : X → Bool) (xs : List X) (i : ℕ) (x : X) → i < length xs → x ≡ get_or xs i x → passes_first f (drop i xs) ≡ f x
passes_at f xs i x there is = ap (passes_first f) (drop_more xs i x there) ∙ ap f (sym is)

pub passes_none : {X : Type 0} (f : X → Bool) (xs : List X) (i : ℕ) → length xs ≤ i → passes_first f (drop i xs) ≡ false
passes_none f xs i past = ap (passes_first f) (drop_all i xs past)

-- place by place
pub passed_one : {X : Type 0} (f : X → Bool) (xs : List X) (i : ℕ) (x : X) → i < length xs → get_or xs i x ≡ x → f x ≡ false → position_from f i (drop i xs) ≡ position_from f (i + 1) (drop (i + 1) xs)
passed_one f xs i x there is fails = ap (position_from f i) (drop_more xs i x there) ∙ rw (is, fails) refl

pub found_one : {X : Type 0} (f : X → Bool) (xs : List X) (i : ℕ) (x : X) → i < length xs → get_or xs i x ≡ x → f x ≡ true → position_from f i (drop i xs) ≡ Some i
found_one f xs i x there is passes = ap (position_from f i) (drop_more xs i x there) ∙ rw (is, passes) refl

pub found_none : {X : Type 0} (f : X → Bool) (xs : List X) (i : ℕ) → length xs ≤ i → position_from f i (drop i xs) ≡ None
found_none f xs i past = ap (position_from f i) (drop_all i xs past)

-- either of two tests

either_from : {X : Type 0} (f g : X → Bool) (xs : List X) (i : ℕ) → position_from (λ x. f x || g x) i xs ≡ option_or (position_from g i (take (position_or_len f xs) xs)) (position_from f i xs)
either_from f g [] i = refl
either_from {X} f g (x ∷ xs) i = go (either_from f g xs (i + 1)) (f x) (g x) refl refl
  where
    rest : List X
    rest = take (1 + position_or_len f xs) (x ∷ xs)

    longer : rest ≡ x ∷ take (position_or_len f xs) xs
    longer = let e : 1 + position_or_len f xs ≡ suc (position_or_len f xs) = omega arith in ap (λ k. take k (x ∷ xs)) e

    go : position_from (λ z. f z || g z) (i + 1) xs ≡ option_or (position_from g (i + 1) (take (position_or_len f xs) xs)) (position_from f (i + 1) xs) → (a b : Bool) → f x ≡ a → g x ≡ b
        → position_from (λ z. f z || g z) i (x ∷ xs) ≡ option_or (position_from g i (take (position_or_len f (x ∷ xs)) (x ∷ xs))) (position_from f i (x ∷ xs))
    go later true b e k = rw e refl
    go later false true e k = rw (e, k, longer) (rw k refl)
    go later false false e k = rw (e, k, longer) (rw k later)

pub at_first : {X : Type 0} (f : X → Bool) (xs : List X) (p : ℕ) → position_from f 0 xs ≡ Some p → position_or_len f xs ≡ p
at_first f xs p e = go (nat_lt (position_or_len f xs) (length xs)) (position_from-zero f xs ∙ e)
  where
    go : (b : Bool) → cond b (Some (position_or_len f xs)) None ≡ Some p → position_or_len f xs ≡ p
    go true s = cc
    go false s = absurd (cc)

pub at_none : {X : Type 0} (f : X → Bool) (xs : List X) → position_from f 0 xs ≡ None → length xs ≤ position_or_len f xs
at_none f xs e = go (nat_lt (position_or_len f xs) (length xs)) refl (position_from-zero f xs ∙ e)
  where
    go : (b : Bool) → nat_lt (position_or_len f xs) (length xs) ≡ b → cond b (Some (position_or_len f xs)) None ≡ None → length xs ≤ position_or_len f xs
    go true is s = absurd (cc)
    go false is s = grind (arith, nat_tests)

pub first_within : {X : Type 0} (f : X → Bool) (xs : List X) (p : ℕ) → position_from f 0 xs ≡ Some p → p < length xs
first_within f xs p e = go (nat_lt (position_or_len f xs) (length xs)) refl (position_from-zero f xs ∙ e)
  where
    go : (b : Bool) → nat_lt (position_or_len f xs) (length xs) ≡ b → cond b (Some (position_or_len f xs)) None ≡ Some p → p < length xs
    go true is s = let same : position_or_len f xs ≡ p = cc in grind (arith, nat_tests)
    go false is s = absurd (cc)

pub either_found : {X : Type 0} (f g : X → Bool) (xs : List X) (p : ℕ) → position_from f 0 xs ≡ Some p → position (λ x. f x || g x) xs ≡ option_or (position_from g 0 (take p xs)) (Some p)
either_found f g xs p e =
    position_from-zero (λ x. f x || g x) xs ∙ either_from f g xs 0 ∙ ap (λ k. option_or (position_from g 0 (take k xs)) (position_from f 0 xs)) (at_first f xs p e) ∙ ap (λ r. option_or (position_from g 0 (take p xs)) r) e

pub either_none : {X : Type 0} (f g : X → Bool) (xs : List X) → position_from f 0 xs ≡ None → position (λ x. f x || g x) xs ≡ option_or (position_from g 0 (take (length xs) xs)) None
either_none f g xs e =
    let all : take (position_or_len f xs) xs ≡ take (length xs) xs = take_all (position_or_len f xs) xs (at_none f xs e) ∙ sym (take_all (length xs) xs (omega arith)) in
    position_from-zero (λ x. f x || g x) xs ∙ either_from f g xs 0 ∙ ap (λ ys. option_or (position_from g 0 ys) (position_from f 0 xs)) all ∙ ap (λ r. option_or (position_from g 0 (take (length xs) xs)) r) e

-- what is known of a front is known of it in a part
pub front_within : {X : Type 0} (P : X → Type 0) (n k : ℕ) (xs : List X) → All P (take n xs) → All P (take n (take k xs))
front_within P n k xs h = go (nat_lt k n) refl
  where
    go : (b : Bool) → nat_lt k n ≡ b → All P (take n (take k xs))
    go true is =
        let less : k ≤ n = grind (arith, nat_tests) in
        let short : length (take k xs) ≤ n = omega (arith, length-take k xs) in
        subst (All P) (sym (take_all n (take k xs) short)) (subst (All P) (take-take k n xs less) (All-take P k (take n xs) h))
    go false is = subst (All P) (sym (take-take n k xs (grind (arith, nat_tests)))) h

-- a newcomer is looked at alone

added : {X : Type 0} (f : X → Bool) (xs : List X) (y : X) (i : ℕ) → position_from f i xs ≡ None → position_from f i (xs ++ y ∷ []) ≡ (if f y then Some (i + length xs) else None)
added f [] y i e = let k : i ≡ i + 0 = omega arith in ap (λ j. if f y then Some j else None) k
added f (x ∷ xs) y i e = go (added f xs y (i + 1)) (f x) refl
  where
    go : (position_from f (i + 1) xs ≡ None → position_from f (i + 1) (xs ++ y ∷ []) ≡ (if f y then Some (i + 1 + length xs) else None)) → (b : Bool) → f x ≡ b
        → position_from f i (x ∷ xs ++ y ∷ []) ≡ (if f y then Some (i + suc (length xs)) else None)
    go later true is = absurd (let clash : Some i ≡ None = rw is at e in cc)
    go later false is =
        let none : position_from f (i + 1) xs ≡ None = rw is at e in
        let k : i + 1 + length xs ≡ i + suc (length xs) = omega arith in
        rw is (later none ∙ ap (λ j. if f y then Some j else None) k)

pub newcomer_alone : {X : Type 0} (f : X → Bool) (xs : List X) (y : X) → position f xs ≡ None → position f (xs ++ y ∷ []) ≡ (if f y then Some (length xs) else None)
newcomer_alone f xs y e =
    let k : 0 + length xs ≡ length xs = omega arith in
    position_from-zero f (xs ++ y ∷ []) ∙ added f xs y 0 (sym (position_from-zero f xs) ∙ e) ∙ ap (λ j. if f y then Some j else None) k

-- who stands before the first fails both tests

second : (a b : Bool) → (a || b) ≡ false → b ≡ false
second true b e = absurd (cc)
second false b e = e

pub none_fails : {X : Type 0} (f g : X → Bool) (xs : List X) (i : ℕ) → position_from (λ x. f x || g x) i xs ≡ None → All (λ x. g x ≡ false) xs
none_fails f g [] i e = All-nil (λ x. g x ≡ false)
none_fails f g (x ∷ xs) i e = go (none_fails f g xs (i + 1)) (f x || g x) refl
  where
    go : (position_from (λ z. f z || g z) (i + 1) xs ≡ None → All (λ z. g z ≡ false) xs) → (b : Bool) → (f x || g x) ≡ b → All (λ z. g z ≡ false) (x ∷ xs)
    go later true is = absurd (let clash : Some i ≡ None = rw is at e in cc)
    go later false is = All-cons (λ z. g z ≡ false) x xs (second (f x) (g x) is) (later (rw is at e))

removed_rest : {X : Type 0} (xs : List X) (p : ℕ) → p < length xs → take p (remove xs p) ≡ take p xs
removed_rest xs p there = take-append-le p (take p xs) (drop (suc p) xs) (omega (arith, length-take p xs)) ∙ take-take p p xs (omega arith)

pub earlier_fail : {X : Type 0} (f g : X → Bool) (xs : List X) (p : ℕ) → position (λ x. f x || g x) xs ≡ Some p → All (λ x. g x ≡ false) (take p (remove xs p))
earlier_fail f g [] p e = absurd (cc)
earlier_fail {X} f g (x ∷ xs) p e =
    let known = position-Some (λ z. f z || g z) (x ∷ xs) p x e in
    let there : p < length (x ∷ xs) = known.0 in
    let long : length (take p (x ∷ xs)) ≤ p = omega (arith, length-take p (x ∷ xs)) in
    let all : All (λ z. g z ≡ false) (take p (x ∷ xs)) = All-from_get_or (λ z. g z ≡ false) (take p (x ∷ xs)) x (λ k less. one k (omega (arith, long, less)) (known.2 k (omega (arith, long, less)))) in
    subst (All (λ z. g z ≡ false)) (sym (removed_rest (x ∷ xs) p there)) all
  where
    one : (k : ℕ) → k < p → (f (get_or (x ∷ xs) k x) || g (get_or (x ∷ xs) k x)) ≡ false → g (get_or (take p (x ∷ xs)) k x) ≡ false
    one k less fails = ap g (get_or-take p (x ∷ xs) k x less) ∙ second (f (get_or (x ∷ xs) k x)) (g (get_or (x ∷ xs) k x)) fails

-- up to a place of a front
pub due_before : {X : Type 0} (f : X → Bool) (xs : List X) (undue end : ℕ) → All (λ x. f x ≡ false) (take undue xs) → position_from f 0 (take end xs) ≡ position_from f undue (drop undue (take end xs))
due_before f xs undue end h =
    let k : 0 + undue ≡ undue = omega arith in
    passed f undue (take end xs) 0 (front_within (λ x. f x ≡ false) undue end xs h) ∙ ap (λ i. position_from f i (drop undue (take end xs))) k

pub due_at : {X : Type 0} (f : X → Bool) (xs : List X) (end i : ℕ) (x : X) → i < end → end ≤ length xs → x ≡ get_or xs i x → f x ≡ true → position_from f i (drop i (take end xs)) ≡ Some i
due_at f xs end i x less within is passes = found_one f (take end xs) i x (omega (arith, length-take end xs)) (get_or-take end xs i x less ∙ sym is) passes

pub undue_at : {X : Type 0} (f : X → Bool) (xs : List X) (end i : ℕ) (x : X) → i < end → end ≤ length xs → x ≡ get_or xs i x → f x ≡ false → position_from f i (drop i (take end xs)) ≡ position_from f (i + 1) (drop (i + 1) (take end xs))
undue_at f xs end i x less within is fails = passed_one f (take end xs) i x (omega (arith, length-take end xs)) (get_or-take end xs i x less ∙ sym is) fails

pub undue_all : {X : Type 0} (f : X → Bool) (xs : List X) (end i : ℕ) → end ≤ i → position_from f i (drop i (take end xs)) ≡ None
undue_all f xs end i past = found_none f (take end xs) i (omega (arith, length-take end xs))

pub or_none : {X : Type 0} (r : Option X) → option_or r None ≡ r
or_none None = refl
or_none (Some x) = refl
