-- What each new row keeps.
use Rattle.std.proofs.Common.{◌≡◌, ℕ, ◌+◌, min, Bool, true, false, not, ◌==◌, nat_eq, List, [], ◌∷◌, map, Option, Some, None, refl, ap, ◌∙◌, arith}
use Rattle.std.specs.Prelude.{IsTrue}
use Rattle.std.specs.List.{find}
use Rattle.std.proofs.lemmas.Bool.{or_from, or_parts, cond_both}
use Rattle.partition_table.specs.Rows.{Row, RowMember, has_number, number_of, is_among, is_in, is_empty, others, led_by, first_eligible, initial_row, without, with_joiner, handed, reopened, eligible_member}
use Rattle.partition_table.specs.RowFacts.{are_distinct, HasDistinctMembers, begins_eligible}
use Rattle.partition_table.proofs.Opening.{with_backups-members_from}
use Rattle.partition_table.proofs.Distinct.{among-filter, among-others, distinct-filter, distinct-led, distinct-joined, distinct-members_from, numbers-begun_by, numbers-eligible}

-- what is found passes the test
find-passes : (p : RowMember → Bool) (rs : List RowMember) (r : RowMember) → find p rs ≡ Some r → p r ≡ true
find-passes p [] r found = cc
find-passes p (x ∷ xs) r found =
    cond_both (p x) (Some x) (find p xs) (λ o. o ≡ Some r → p r ≡ true)
    (λ passes e. let same : r ≡ x = cc in ap p same ∙ passes) (λ _ e. find-passes p xs r e) found

-- and is none of those that are out
find-apart : (p : RowMember → Bool) (rs : List RowMember) (r : RowMember) (m : ℕ) → find p rs ≡ Some r → is_among (map number_of rs) m ≡ false → (m == r.member) ≡ false
find-apart p [] r m found out = cc
find-apart p (x ∷ xs) r m found out =
    let parts = or_parts (nat_eq m x.member) (is_among (map number_of xs) m) out in
    cond_both (p x) (Some x) (find p xs) (λ o. o ≡ Some r → (m == r.member) ≡ false)
    (λ _ e. let same : r ≡ x = cc in ap (λ (y : RowMember). m == y.member) same ∙ parts.0) (λ _ e. find-apart p xs r m e parts.1) found

among-led_by : (leader : Option RowMember) (rs : List RowMember) (m : ℕ) → ((r : RowMember) → leader ≡ Some r → (m == r.member) ≡ false) → is_among (map number_of rs) m ≡ false → is_among (map number_of (led_by leader rs)) m ≡ false
among-led_by None rs m apart out = refl
among-led_by (Some r) rs m apart out = or_from _ _ (apart r refl) (among-filter (λ (x : RowMember). not (has_number r.member x)) rs m out)

-- the row without m doesn't have m
pub is_in-without : (row : Row) (m : ℕ) → is_in (without row m) m ≡ false
is_in-without row m =
    let rs = others m row.members in
    let out = among-others m row.members in
    among-led_by (first_eligible rs) rs m (λ r found. find-apart (λ (x : RowMember). x.eligible) rs r m found out) out

begins_eligible-led_by : (leader : Option RowMember) (rs : List RowMember) → ((r : RowMember) → leader ≡ Some r → r.eligible ≡ true) → begins_eligible (led_by leader rs) ≡ not (is_empty (led_by leader rs))
begins_eligible-led_by None rs may = refl
begins_eligible-led_by (Some r) rs may = may r refl

-- and is led by one that may lead, if it isn't lost
pub begins_eligible-without : (row : Row) (m : ℕ) → begins_eligible (without row m).members ≡ not (without row m).lost
begins_eligible-without row m =
    let rs = others m row.members in
    begins_eligible-led_by (first_eligible rs) rs (λ r found. find-passes (λ (x : RowMember). x.eligible) rs r found)

distinct-led_by : (leader : Option RowMember) (rs : List RowMember) → are_distinct (map number_of rs) ≡ true → are_distinct (map number_of (led_by leader rs)) ≡ true
distinct-led_by None rs once = refl
distinct-led_by (Some r) rs once = distinct-led r rs once

distinct-others : (m : ℕ) (rs : List RowMember) → are_distinct (map number_of rs) ≡ true → are_distinct (map number_of (others m rs)) ≡ true
distinct-others m rs once = distinct-filter (λ (x : RowMember). not (has_number m x)) rs once

pub distinct-without : (row : Row) (m : ℕ) → HasDistinctMembers row → HasDistinctMembers (without row m)
distinct-without row m once = let rs = others m row.members in distinct-led_by (first_eligible rs) rs (distinct-others m row.members once)

pub distinct-with_joiner : (row : Row) (m : ℕ) → is_in row m ≡ false → HasDistinctMembers row → HasDistinctMembers (with_joiner row m)
distinct-with_joiner row m out once = distinct-joined row.members (record { member = m; eligible = false }) once out

pub distinct-handed : (row : Row) (from to : ℕ) → HasDistinctMembers row → HasDistinctMembers (handed row from to)
distinct-handed row from to once = distinct-led (eligible_member to) (others from row.members) (distinct-others from row.members once)

pub distinct-reopened : (row : Row) (ms : List ℕ) → IsTrue (are_distinct ms) → HasDistinctMembers (reopened row ms)
distinct-reopened row ms once = rw numbers-begun_by once

pub distinct-initial_row : (partition members backups : ℕ) → HasDistinctMembers (initial_row partition members backups)
distinct-initial_row partition members backups =
    rw (numbers-eligible, with_backups-members_from members backups members partition)
    (distinct-members_from members (min members (backups + 1)) partition (omega arith))
