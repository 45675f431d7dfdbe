-- No member stands twice in a row.
use Rattle.std.proofs.Common.{◌≡◌, ◌≢◌, ℕ, zero, suc, ◌+◌, ◌*◌, ◌/◌, ◌%◌, ◌<◌, ◌≤◌, Bool, true, false, not, ◌==◌, nat_eq, List, [], ◌∷◌, ◌++◌, map, refl, ap, ◌⊎◌, ⊎_elim, inl, inr, arith}
use Rattle.std.specs.Prelude.{filter}
use Rattle.std.proofs.Math.Nat.{div-add-mod, mul-le-mul_left}
use Rattle.std.proofs.lemmas.Bool.{and_from, and_parts, or_from, or_parts, not-true, not_from_false, cond_both, cases_lt, ne_eqb}
use Rattle.std.proofs.lemmas.Bool.Decides.{nat_tests}
use Rattle.partition_table.specs.Rows.{RowMember, has_number, number_of, is_among, others, begun_by, eligible_member, members_from}
use Rattle.partition_table.specs.RowFacts.{are_distinct}

-- a filter brings nobody in
pub among-filter : (p : RowMember → Bool) (rs : List RowMember) (m : ℕ) → is_among (map number_of rs) m ≡ false → is_among (map number_of (filter p rs)) m ≡ false
among-filter p [] m out = refl
among-filter p (r ∷ rs) m out =
    let parts = or_parts (nat_eq m r.member) (is_among (map number_of rs) m) out in
    let rest = among-filter p rs m parts.1 in
    cond_both (p r) (r ∷ filter p rs) (filter p rs) (λ xs. is_among (map number_of xs) m ≡ false) (λ _. or_from _ _ parts.0 rest) (λ _. rest)

-- and keeps the members distinct
pub distinct-filter : (p : RowMember → Bool) (rs : List RowMember) → are_distinct (map number_of rs) ≡ true → are_distinct (map number_of (filter p rs)) ≡ true
distinct-filter p [] once = refl
distinct-filter p (r ∷ rs) once =
    let parts = and_parts (not (is_among (map number_of rs) r.member)) (are_distinct (map number_of rs)) once in
    let rest = distinct-filter p rs parts.1 in
    let new = among-filter p rs r.member (not-true _ parts.0) in
    cond_both (p r) (r ∷ filter p rs) (filter p rs) (λ xs. are_distinct (map number_of xs) ≡ true) (λ _. and_from _ _ (not_from_false _ new) rest) (λ _. rest)

other_number : (a b : ℕ) → (a == b) ≡ false → (b == a) ≡ false
other_number a b differ = grind (arith, nat_tests)

-- m isn't among the others
pub among-others : (m : ℕ) (rs : List RowMember) → is_among (map number_of (others m rs)) m ≡ false
among-others m [] = refl
among-others m (r ∷ rs) =
    let rest = among-others m rs in
    cond_both (not (has_number m r)) (r ∷ others m rs) (others m rs) (λ xs. is_among (map number_of xs) m ≡ false)
    (λ other. or_from _ _ (other_number r.member m (not-true _ other)) rest) (λ _. rest)

-- a leader before the others
pub distinct-led : (r : RowMember) (rs : List RowMember) → are_distinct (map number_of rs) ≡ true → are_distinct (map number_of (r ∷ others r.member rs)) ≡ true
distinct-led r rs once = and_from _ _ (not_from_false _ (among-others r.member rs)) (distinct-filter (λ (x : RowMember). not (has_number r.member x)) rs once)

among-joined : (rs : List RowMember) (joiner : RowMember) (m : ℕ) → is_among (map number_of rs) m ≡ false → (m == joiner.member) ≡ false → is_among (map number_of (rs ++ joiner ∷ [])) m ≡ false
among-joined [] joiner m out differ = or_from _ _ differ refl
among-joined (r ∷ rs) joiner m out differ =
    let parts = or_parts (nat_eq m r.member) (is_among (map number_of rs) m) out in
    or_from _ _ parts.0 (among-joined rs joiner m parts.1 differ)

-- a joiner after members that it isn't among
pub distinct-joined : (rs : List RowMember) (joiner : RowMember) → are_distinct (map number_of rs) ≡ true → is_among (map number_of rs) joiner.member ≡ false → are_distinct (map number_of (rs ++ joiner ∷ [])) ≡ true
distinct-joined [] joiner once out = refl
distinct-joined (r ∷ rs) joiner once out =
    let parts = and_parts (not (is_among (map number_of rs) r.member)) (are_distinct (map number_of rs)) once in
    let apart = or_parts (nat_eq joiner.member r.member) (is_among (map number_of rs) joiner.member) out in
    and_from _ _ (not_from_false _ (among-joined rs joiner r.member (not-true _ parts.0) (other_number joiner.member r.member apart.0))) (distinct-joined rs joiner parts.1 apart.1)

numbers-others_begun : (ms : List ℕ) → map number_of (map (λ k. record { member = k; eligible = false }) ms) ≡ ms
numbers-others_begun [] = refl
numbers-others_begun (m ∷ ms) = ap (λ ks. m ∷ ks) (numbers-others_begun ms)

-- the row of a reopening has these members
pub numbers-begun_by : (ms : List ℕ) → map number_of (begun_by ms) ≡ ms
numbers-begun_by [] = refl
numbers-begun_by (m ∷ ms) = ap (λ ks. m ∷ ks) (numbers-others_begun ms)

pub numbers-eligible : (ms : List ℕ) → map number_of (map eligible_member ms) ≡ ms
numbers-eligible [] = refl
numbers-eligible (m ∷ ms) = ap (λ ks. m ∷ ks) (numbers-eligible ms)

cases_le : (a b : ℕ) → (a + 1 ≤ b) ⊎ (b ≤ a)
cases_le a b = ⊎_elim (λ below. inl (omega arith)) (λ above. inr above) (cases_lt a b)

-- two numbers less than n apart differ modulo n
differ-mod : (n a j : ℕ) → 0 < j → j < n → a % n ≢ (a + j) % n
differ-mod n a j some few same =
    let one = div-add-mod a n in
    let two = div-add-mod (a + j) n in
    ⊎_elim
    (λ (up : a / n + 1 ≤ (a + j) / n). let over : n * (a / n + 1) ≤ n * ((a + j) / n) = mul-le-mul_left n up in let more : n * (a / n + 1) ≡ n * (a / n) + n = grind arith in omega arith)
    (λ (down : (a + j) / n ≤ a / n). let over : n * ((a + j) / n) ≤ n * (a / n) = mul-le-mul_left n down in omega arith)
    (cases_le (a / n) ((a + j) / n))

-- no later one of n members in a row has the number of the first
among-members_from : (n j k from : ℕ) → 0 < j → j + k ≤ n → is_among (members_from n k (from + j)) (from % n) ≡ false
among-members_from n j zero from some few = refl
among-members_from n j (suc k) from some few =
    let next : (from + j) + 1 ≡ from + (j + 1) = omega arith in
    let differ : (from % n == (from + j) % n) ≡ false = ne_eqb _ _ (differ-mod n from j some (omega arith)) in
    or_from _ _ differ (rw next (among-members_from n (j + 1) k from (omega arith) (omega arith)))

-- up to n of n members in a row are distinct
pub distinct-members_from : (n k from : ℕ) → k ≤ n → are_distinct (members_from n k from) ≡ true
distinct-members_from n zero from few = refl
distinct-members_from n (suc k) from few =
    and_from _ _ (not_from_false _ (among-members_from n 1 k from (omega arith) (omega arith))) (distinct-members_from n k (from + 1) (omega arith))
