-- The numbers below one.
use Rattle.std.proofs.Common.{◌≡◌, ℕ, zero, suc, ◌<◌, Bool, true, false, eqb, [], ◌∷◌, ◌++◌, length, Contains, refl, sym, subst, arith}
use Rattle.std.proofs.lemmas.List.{length-append}
use Rattle.std.proofs.lemmas.List.Elements.{Contains-append_left, Contains-append_right}
use Rattle.counted_calls.specs.Calls.{numbers_below}
use Rattle.counted_calls.proofs.Later.{same_number, other_number}

pub no_numbers : numbers_below 0 ≡ []
unfolding numbers_below
no_numbers = refl

pub one_number_more : (n : ℕ) → numbers_below (suc n) ≡ numbers_below n ++ n ∷ []
unfolding numbers_below
one_number_more n = refl

pub as_many_numbers : (n : ℕ) → length (numbers_below n) ≡ n
unfolding numbers_below
as_many_numbers zero = refl
as_many_numbers (suc n) = let parts = length-append (numbers_below n) (n ∷ []) in let less = as_many_numbers n in omega (arith, parts, less)

pub number_there : (n m : ℕ) → m < n → Contains (numbers_below n) m
unfolding numbers_below
number_there zero m less = absurd (omega (arith, less))
number_there (suc n) m less = go (eqb m n) refl (number_there n m)
  where
    last : Contains (n ∷ []) n
    last = (0, omega arith, refl)

    go : (b : Bool) → eqb m n ≡ b → (m < n → Contains (numbers_below n) m) → Contains (numbers_below n ++ n ∷ []) m
    go true e before = subst (λ k. Contains (numbers_below n ++ n ∷ []) k) (sym (same_number m n e)) (Contains-append_right (numbers_below n) (n ∷ []) n last)
    go false e before = let other = other_number m n e in Contains-append_left (numbers_below n) (n ∷ []) m (before (omega (arith, less, other)))
