-- Fewer numbers than there are below n leave one of those out.
use Rattle.std.proofs.Common.{◌≡◌, ℕ, zero, suc, ◌<◌, ◌≤◌, Bool, true, false, ◌==◌, nat_eq, List, [], ◌∷◌, length, refl, ◌⊎◌, inl, inr, ⊎_elim, arith}
use Rattle.std.specs.Prelude.{if◌then◌else◌}
use Rattle.std.proofs.lemmas.Bool.{or_from, or_parts, cond_both, ne_eqb}
use Rattle.std.proofs.lemmas.Bool.Decides.{nat_tests}
use Rattle.partition_table.specs.Rows.{is_among}

pub true_or_false : (b : Bool) → (b ≡ true) ⊎ (b ≡ false)
true_or_false true = inl refl
true_or_false false = inr refl

abbrev without : ℕ → List ℕ → List ℕ
without k [] = []
without k (m ∷ ms) = if k == m then without k ms else m ∷ without k ms

length-without : (k : ℕ) (ms : List ℕ) → length (without k ms) ≤ length ms
length-without k [] = omega arith
length-without k (m ∷ ms) =
    let rest = length-without k ms in
    cond_both (k == m) (without k ms) (m ∷ without k ms) (λ xs. length xs ≤ length (m ∷ ms)) (λ _. omega (arith, rest)) (λ _. omega (arith, rest))

-- a number that is there leaves fewer
length-without_there : (k : ℕ) (ms : List ℕ) → is_among ms k ≡ true → length (without k ms) < length ms
length-without_there k [] there = cc
length-without_there k (m ∷ ms) there =
    let later = length-without_there k ms in
    let rest = length-without k ms in
    cond_both (k == m) (without k ms) (m ∷ without k ms) (λ xs. length xs < length (m ∷ ms)) (λ _. omega (arith, rest))
    (λ other. let among : is_among ms k ≡ true = rw other at there in omega (arith, later among))

-- another number that is left out was left out before
among-without : (k j : ℕ) (ms : List ℕ) → (j == k) ≡ false → is_among (without k ms) j ≡ false → is_among ms j ≡ false
among-without k j [] apart out = refl
among-without k j (m ∷ ms) apart out =
    let later = among-without k j ms apart in
    cond_both (k == m) (without k ms) (m ∷ without k ms) (λ xs. is_among xs j ≡ false → is_among (m ∷ ms) j ≡ false)
    (λ same out. let differ : (j == m) ≡ false = grind (arith, nat_tests) in or_from _ _ differ (later out))
    (λ _ out. let parts = or_parts (nat_eq j m) (is_among (without k ms) j) out in or_from _ _ parts.0 (later parts.1)) out

pub fresh : (n : ℕ) (ms : List ℕ) → length ms < n → (m : ℕ) × (m < n) × (is_among ms m ≡ false)
fresh zero ms few = absurd (omega (arith, few))
fresh (suc n) ms few =
    let later = fresh n (without n ms) in
    ⊎_elim
    (λ there.
    let found = later (omega (arith, length-without_there n ms there, few)) in
    let below : found.0 < n = found.1 in
    (found.0, omega (arith, below), among-without n found.0 ms (ne_eqb _ _ (λ same. omega (arith, same, below))) found.2))
    (λ out. (n, omega arith, out))
    (true_or_false (is_among ms n))
