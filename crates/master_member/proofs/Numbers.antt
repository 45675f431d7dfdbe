-- The numbers below a bound, as loops go over them.
use Rattle.std.proofs.Common.{◌≡◌, ℕ, zero, suc, ◌+◌, ◌<◌, Bool, true, false, cond, not, ◌&&◌, ◌||◌, List, [], ◌∷◌, ◌++◌, Some, None, filter, refl, ap, sym, ◌∙◌, ⊎_elim, arith, add-one, append-nil, true≢false}
use Rattle.std.specs.List.{list_all, list_any}
use Rattle.std.proofs.lemmas.List.Elements.{filter-append}
use Rattle.std.proofs.lemmas.List.Folds.{list_all-append, list_any-append}
use Rattle.partition_protocol.proofs.Lists.{cases}
use Rattle.partition_protocol.proofs.Forward.{le_cases}
use Rattle.partition_protocol.specs.Service.{numbers_below}
use Rattle.masters_protocol.specs.Machine.{lowest_of}

pub numbers_more : (n : ℕ) → numbers_below (n + 1) ≡ numbers_below n ++ n ∷ []
numbers_more n = rw (add-one n) refl

module _ (p : ℕ → Bool) (n : ℕ) where
  -- one number more passes
  pub filter_more : p n ≡ true → filter p (numbers_below (n + 1)) ≡ filter p (numbers_below n) ++ n ∷ []
  filter_more e = ap (filter p) (numbers_more n) ∙ filter-append p (numbers_below n) (n ∷ []) ∙ ap (λ b. filter p (numbers_below n) ++ cond b (n ∷ []) []) e

  -- or doesn't
  pub filter_same : p n ≡ false → filter p (numbers_below (n + 1)) ≡ filter p (numbers_below n)
  filter_same e = ap (filter p) (numbers_more n) ∙ filter-append p (numbers_below n) (n ∷ []) ∙ ap (λ b. filter p (numbers_below n) ++ cond b (n ∷ []) []) e ∙ append-nil (filter p (numbers_below n))

  pub any_more : list_any p (numbers_below (n + 1)) ≡ (list_any p (numbers_below n) || p n)
  any_more = ap (list_any p) (numbers_more n) ∙ list_any-append p (numbers_below n) (n ∷ []) ∙ ap (λ b. list_any p (numbers_below n) || b) (or_false (p n))
    where
      or_false : (b : Bool) → (b || false) ≡ b
      or_false true = refl
      or_false false = refl

  pub all_more : list_all p (numbers_below (n + 1)) ≡ (list_all p (numbers_below n) && p n)
  all_more = ap (list_all p) (numbers_more n) ∙ list_all-append p (numbers_below n) (n ∷ []) ∙ ap (λ b. list_all p (numbers_below n) && b) (and_true (p n))
    where
      and_true : (b : Bool) → (b && true) ≡ b
      and_true true = refl
      and_true false = refl

-- all of those that pass a test pass another, as far as one number more
pub all_of_more : (p t : ℕ → Bool) (n : ℕ) → list_all t (filter p (numbers_below (n + 1))) ≡ (list_all t (filter p (numbers_below n)) && not (p n && not (t n)))
all_of_more p t n = ⊎_elim
    (λ e. ap (list_all t) (filter_more p n e) ∙ list_all-append t (filter p (numbers_below n)) (n ∷ []) ∙ ap (λ b. list_all t (filter p (numbers_below n)) && b) (on (p n) (t n) e))
    (λ e. ap (list_all t) (filter_same p n e) ∙ off (list_all t (filter p (numbers_below n))) (p n) (t n) e)
    (cases (p n))
  where
    on : (a b : Bool) → a ≡ true → (b && true) ≡ not (a && not b)
    on true true e = refl
    on true false e = refl
    on false b e = absurd (true≢false (sym e))

    off : (c a b : Bool) → a ≡ false → c ≡ (c && not (a && not b))
    off true true b e = absurd (true≢false e)
    off true false b e = refl
    off false a b e = refl

-- the lowest that passes: none of those before it does
pub lowest_is : (p : ℕ → Bool) (n m : ℕ) → m < n → filter p (numbers_below m) ≡ [] → p m ≡ true → lowest_of (filter p (numbers_below n)) ≡ Some m
lowest_is p zero m l none here = absurd (omega (arith, l))
lowest_is p (suc n) m l none here = ⊎_elim
    (λ e. ap (λ (k : ℕ). lowest_of (filter p (numbers_below (suc k)))) (sym e) ∙ ap (λ (k : ℕ). lowest_of (filter p (numbers_below k))) (sym (add-one m)) ∙ ap lowest_of (filter_more p m here) ∙ ap (λ (xs : List ℕ). lowest_of (xs ++ m ∷ [])) none)
    (λ k. ap lowest_of (filter-append p (numbers_below n) (n ∷ [])) ∙ stays (filter p (numbers_below n)) (filter p (n ∷ [])) m (lowest_is p n m k none here))
    (le_cases m n (omega (arith, l)))
  where
    stays : (xs ys : List ℕ) (m : ℕ) → lowest_of xs ≡ Some m → lowest_of (xs ++ ys) ≡ Some m
    stays [] ys m e = absurd (let n : None ≡ Some m = e in cc)
    stays (x ∷ xs) ys m e = e

pub none_passes : (p : ℕ → Bool) (n : ℕ) → filter p (numbers_below n) ≡ [] → lowest_of (filter p (numbers_below n)) ≡ None
none_passes p n e = ap lowest_of e

-- one of those below a bound passes

pub any_there : (p : ℕ → Bool) (n m : ℕ) → m < n → p m ≡ true → list_any p (numbers_below n) ≡ true
any_there p zero m l here = absurd (omega (arith, l))
any_there p (suc n) m l here = ⊎_elim
    (λ e. list_any-append p (numbers_below n) (n ∷ []) ∙ ap (λ b. list_any p (numbers_below n) || b) (last (sym e)) ∙ or_true (list_any p (numbers_below n)))
    (λ k. list_any-append p (numbers_below n) (n ∷ []) ∙ ap (λ b. b || list_any p (n ∷ [])) (any_there p n m k here))
    (le_cases m n (omega (arith, l)))
  where
    or_true : (b : Bool) → (b || true) ≡ true
    or_true true = refl
    or_true false = refl

    last : n ≡ m → list_any p (n ∷ []) ≡ true
    last e = ap (λ b. b || false) (ap p e ∙ here)

-- none as far as one number more
pub any_not : (p : ℕ → Bool) (n : ℕ) → list_any p (numbers_below n) ≡ false → p n ≡ false → list_any p (numbers_below (n + 1)) ≡ false
any_not p n none off = any_more p n ∙ ap (λ b. b || p n) none ∙ off
