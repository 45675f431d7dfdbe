-- Names that are all different: those of one connection are no more than the numbers that they may have.
use Rattle.std.proofs.Common.{◌≡◌, ◌≢◌, ℕ, zero, suc, ◌+◌, ◌≤◌, ◌<◌, ◌==◌, ◌&&◌, Bool, true, false, cond, List, [], ◌∷◌, ◌++◌, refl, sym, ◌∙◌, ⊎_elim, inl, inr, arith}
use Rattle.std.specs.Prelude.{nat_lt}
use Rattle.std.proofs.lemmas.Bool.Decides.{nat_tests}
use Rattle.partition_protocol.specs.Arrivals.{CallName, NamedOnce}
use Rattle.partition_protocol.proofs.Lists.{In, in_cases, in_contains, contains_in}
use Rattle.partition_protocol.proofs.RowFacts.{both_left, both_right}
use Rattle.replay_run.proofs.Counting.{count, count_none}
use Rattle.replay_run.proofs.Places.{same_number}

-- two lists, with no name in both
pub once_both : (xs ys : List CallName) → NamedOnce xs → NamedOnce ys → ((a b : CallName) → In a xs → In b ys → a ≢ b) → NamedOnce (xs ++ ys)
once_both [] ys first then apart = then
once_both (x ∷ xs) ys first then apart = (
  λ m c. ⊎_elim (λ i. first.0 m (contains_in m xs i)) (λ j e. apart x m (inl refl) j (sym e)) (in_cases m xs ys (in_contains m (xs ++ ys) c)),
  once_both xs ys first.1 then (λ a b i j. apart a b (inr i) j),
)

abbrev is_on : ℕ → CallName → Bool
is_on c name = name.conn == c

abbrev is_below : ℕ → ℕ → CallName → Bool
is_below c n name = (name.conn == c) && nat_lt name.number n

abbrev is_that : ℕ → ℕ → CallName → Bool
is_that c n name = (name.conn == c) && (name.number == n)

that_name : (c n : ℕ) (name : CallName) → is_that c n name ≡ true → record { conn = c; number = n } ≡ name
that_name c n name e =
    let conn = same_number name.conn c (both_left (name.conn == c) (name.number == n) e) in
    let number = same_number name.number n (both_right (name.conn == c) (name.number == n) e) in
    sym (λ i. record { conn = conn i; number = number i })

-- one at most has that name
named_few : (c n : ℕ) (names : List CallName) → NamedOnce names → count (is_that c n) names ≤ 1
named_few c n [] once = omega arith
named_few c n (x ∷ xs) once = go (is_that c n x) refl (named_few c n xs once.1)
  where
    go : (b : Bool) → is_that c n x ≡ b → count (is_that c n) xs ≤ 1 → cond b 1 0 + count (is_that c n) xs ≤ 1
    go true e rest =
        let none = count_none (is_that c n) xs (λ y i f. once.0 y (contains_in y xs i) (sym (that_name c n y f) ∙ that_name c n x e)) in
        omega (arith, none)
    go false e rest = omega (arith, rest)

-- a number below the next one is below it or is it
one_more : (c n : ℕ) (x : CallName) → cond (is_below c (suc n) x) 1 0 ≤ cond (is_below c n x) 1 0 + cond (is_that c n x) 1 0
one_more c n x = go (x.conn == c)
  where
    which : (a b d : Bool) → (a ≡ true → b ≡ false → d ≡ true) → cond a 1 0 ≤ cond b 1 0 + cond d 1 0
    which false b d h = omega arith
    which true true d h = omega arith
    which true false true h = omega arith
    which true false false h = absurd (let clash = h refl refl in cc)

    go : (b : Bool) → cond (b && nat_lt x.number (suc n)) 1 0 ≤ cond (b && nat_lt x.number n) 1 0 + cond (b && (x.number == n)) 1 0
    go false = omega arith
    go true = which (nat_lt x.number (suc n)) (nat_lt x.number n) (x.number == n) (λ e f. grind (arith, nat_tests, e, f))

below_more : (c n : ℕ) (names : List CallName) → count (is_below c (suc n)) names ≤ count (is_below c n) names + count (is_that c n) names
below_more c n [] = omega arith
below_more c n (x ∷ xs) = let rest = below_more c n xs in let here = one_more c n x in omega (arith, rest, here)

below_few : (c n : ℕ) (names : List CallName) → NamedOnce names → count (is_below c n) names ≤ n
below_few c zero names once = let none = count_none (is_below c 0) names (λ x i e. nothing_below x e) in omega (arith, none)
  where
    nothing_below : (x : CallName) → is_below c 0 x ≡ true → ⊥
    nothing_below x e = let low = both_right (x.conn == c) (nat_lt x.number 0) e in grind (arith, nat_tests, low)
below_few c (suc n) names once =
    let rest = below_few c n names once in
    let that = named_few c n names once in
    let more = below_more c n names in
    omega (arith, rest, that, more)

-- where all of the connection are below a number
pub numbers_fewer : (c n : ℕ) (names : List CallName) → NamedOnce names → ((name : CallName) → In name names → name.conn ≡ c → name.number < n) → count (is_on c) names ≤ n
numbers_fewer c n names once below = let few = below_few c n names once in let most = all_below names below in omega (arith, few, most)
  where
    all_below : (xs : List CallName) → ((name : CallName) → In name xs → name.conn ≡ c → name.number < n) → count (is_on c) xs ≤ count (is_below c n) xs
    all_below [] h = omega arith
    all_below (x ∷ xs) h = let rest = all_below xs (λ y i. h y (inr i)) in go (x.conn == c) refl rest
      where
        go : (b : Bool) → (x.conn == c) ≡ b → count (is_on c) xs ≤ count (is_below c n) xs → cond b 1 0 + count (is_on c) xs ≤ cond (b && nat_lt x.number n) 1 0 + count (is_below c n) xs
        go false e rest = omega (arith, rest)
        go true e rest =
            let low = h x (inl refl) (same_number x.conn c e) in
            let test : nat_lt x.number n ≡ true = grind (arith, nat_tests, low) in
            rw test (omega (arith, rest))
