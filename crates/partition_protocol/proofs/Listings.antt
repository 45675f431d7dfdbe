-- Rows list members, each once.
use Rattle.std.proofs.Common.{◌≡◌, ℕ, zero, suc, ◌<◌, Bool, true, false, not, List, [], ◌∷◌, ◌++◌, map, take, filter, Option, Some, None, refl, ap, sym, subst, arith}
use Rattle.std.specs.Prelude.{All}
use Rattle.partition_table.specs.declared.Row.{Row}
use Rattle.partition_table.specs.declared.RowMember.{RowMember}
use Rattle.partition_table.specs.Rows.{number_of, has_number, is_in, is_among, numbers_of, members_from, with_backups, initial_row, first_eligible, others, led_by, without, with_joiner, handed, with_eligible, reopened}
use Rattle.partition_table.specs.RowFacts.{are_distinct}
use Rattle.partition_table.proofs.Distinct.{distinct-members_from, numbers-begun_by, numbers-eligible}
use Rattle.partition_table.proofs.RowLaws.{distinct-without, distinct-with_joiner, distinct-handed}
use Rattle.partition_protocol.specs.WellFormed.{IsRowOf}
use Rattle.partition_protocol.proofs.Lists.{In, Every, every_in, every_append, every_from_in, every_filter, on_if}
use Rattle.partition_protocol.proofs.Histories.{filter_in}
use Rattle.partition_protocol.proofs.RowFacts.{in_map, in_among, among_in, both, both_left, both_right, not_true, not_both, false_or_not}
use Rattle.partition_protocol.proofs.NextRows.{find_in, members_from_below, take_in}
use Rattle.partition_protocol.proofs.Joins.{marked_members}

abbrev pub AreBelow : ℕ → List ℕ → Type 0
AreBelow n ms = Every (λ m. m < n) ms

-- numbers of members, each once
abbrev pub IsListing : ℕ → List ℕ → Type 0
IsListing n ms = AreBelow n ms × (are_distinct ms ≡ true)

abbrev pub IsRowListing : ℕ → Row → Type 0
IsRowListing n row = IsListing n (numbers_of row)

-- in the words of the claims

pub every_all : {X : Type 0} (P : X → Type 0) (xs : List X) → Every P xs → All P xs
every_all P [] h k d l = absurd (omega (arith, l))
every_all P (x ∷ xs) h zero d l = h.0
every_all P (x ∷ xs) h (suc k) d l = every_all P xs h.1 k d (omega (arith, l))

pub every_number : (P : ℕ → Type 0) (rs : List RowMember) → Every P (map number_of rs) → Every (λ (r : RowMember). P r.member) rs
every_number P [] h = tt
every_number P (r ∷ rs) h = (h.0, every_number P rs h.1)

pub listing_row : (n : ℕ) (row : Row) → IsRowListing n row → IsRowOf n row
listing_row n row h = record {
  below = every_all (λ (r : RowMember). r.member < n) row.members (every_number (λ m. m < n) row.members h.0);
  distinct = h.1;
}

-- parts of a listing

-- the first isn't among the rest
pub first_apart : (m : ℕ) (ms : List ℕ) → are_distinct (m ∷ ms) ≡ true → In m ms → ⊥
first_apart m ms h i = not_both (is_among ms m) (among_in ms m i) (not_true (is_among ms m) (both_left (not (is_among ms m)) (are_distinct ms) h))

pub rest_distinct : (m : ℕ) (ms : List ℕ) → are_distinct (m ∷ ms) ≡ true → are_distinct ms ≡ true
rest_distinct m ms h = both_right (not (is_among ms m)) (are_distinct ms) h

pub distinct_cons : (m : ℕ) (ms : List ℕ) → (In m ms → ⊥) → are_distinct ms ≡ true → are_distinct (m ∷ ms) ≡ true
distinct_cons m ms f h = both (not (is_among ms m)) (are_distinct ms) (let out : is_among ms m ≡ false = false_or_not (is_among ms m) (λ e. f (in_among ms m e)) in rw out refl) h

pub filter_listing : (n : ℕ) (t : ℕ → Bool) (ms : List ℕ) → IsListing n ms → IsListing n (filter t ms)
filter_listing n t ms h = (every_filter (λ m. m < n) t ms h.0, distinct ms h.1)
  where
    distinct : (ks : List ℕ) → are_distinct ks ≡ true → are_distinct (filter t ks) ≡ true
    distinct [] e = refl
    distinct (k ∷ ks) e =
        let rest = distinct ks (rest_distinct k ks e) in
        on_if (λ js. are_distinct js ≡ true) (t k) (k ∷ filter t ks) (filter t ks) (distinct_cons k (filter t ks) (λ i. first_apart k ks e (filter_in t ks k i).0) rest) rest

pub take_listing : (n b : ℕ) (ms : List ℕ) → IsListing n ms → IsListing n (take b ms)
take_listing n zero ms h = (tt, refl)
take_listing n (suc b) [] h = (tt, refl)
take_listing n (suc b) (m ∷ ms) h =
    let rest = take_listing n b ms (h.0.1, rest_distinct m ms h.1) in
    ((h.0.0, rest.0), distinct_cons m (take b ms) (λ i. first_apart m ms h.1 (take_in b ms m i)) rest.1)

pub with_backups_listing : (n b : ℕ) (ms : List ℕ) → IsListing n ms → IsListing n (with_backups b ms)
with_backups_listing n b [] h = (tt, refl)
with_backups_listing n b (m ∷ ms) h =
    let rest = take_listing n b ms (h.0.1, rest_distinct m ms h.1) in
    ((h.0.0, rest.0), distinct_cons m (take b ms) (λ i. first_apart m ms h.1 (take_in b ms m i)) rest.1)

pub members_from_listing : (n from : ℕ) → IsListing n (members_from n n from)
members_from_listing zero from = (tt, refl)
members_from_listing (suc k) from = (
  every_from_in (λ m. m < suc k) (members_from (suc k) (suc k) from) (λ m i. members_from_below (suc k) (suc k) from m (omega arith) i),
  distinct-members_from (suc k) (suc k) from (omega arith),
)

-- the rows that are made

pub filter_below : (n : ℕ) (t : RowMember → Bool) (rs : List RowMember) → AreBelow n (map number_of rs) → AreBelow n (map number_of (filter t rs))
filter_below n t [] h = tt
filter_below n t (r ∷ rs) h = on_if (λ (qs : List RowMember). AreBelow n (map number_of qs)) (t r) (r ∷ filter t rs) (filter t rs) (h.0, filter_below n t rs h.1) (filter_below n t rs h.1)

pub others_below : (n m : ℕ) (rs : List RowMember) → AreBelow n (map number_of rs) → AreBelow n (map number_of (others m rs))
others_below n m rs h = filter_below n (λ r. not (has_number m r)) rs h

pub led_below : (n : ℕ) (leader : Option RowMember) (rs : List RowMember) → ((r : RowMember) → leader ≡ Some r → In r rs) → AreBelow n (map number_of rs) → AreBelow n (map number_of (led_by leader rs))
led_below n None rs f h = tt
led_below n (Some r) rs f h = (every_in (λ m. m < n) (map number_of rs) r.member h (in_map number_of rs r (f r refl)), others_below n r.member rs h)

pub without_listing : (n m : ℕ) (row : Row) → IsRowListing n row → IsRowListing n (without row m)
without_listing n m row h =
    let rest = others m row.members in
    (led_below n (first_eligible rest) rest (λ r e. (find_in (λ (x : RowMember). x.eligible) rest r e).0) (others_below n m row.members h.0), distinct-without row m h.1)

pub joiner_numbers : (m : ℕ) (rs : List RowMember) → map number_of (rs ++ record { member = m; eligible = false } ∷ []) ≡ map number_of rs ++ m ∷ []
joiner_numbers m [] = refl
joiner_numbers m (r ∷ rs) = ap (λ ks. r.member ∷ ks) (joiner_numbers m rs)

pub joiner_listing : (n m : ℕ) (row : Row) → m < n → is_in row m ≡ false → IsRowListing n row → IsRowListing n (with_joiner row m)
joiner_listing n m row l out h = (subst (AreBelow n) (sym (joiner_numbers m row.members)) (every_append (λ k. k < n) (numbers_of row) (m ∷ []) h.0 (l, tt)), distinct-with_joiner row m out h.1)

pub handed_listing : (n from to : ℕ) (row : Row) → to < n → IsRowListing n row → IsRowListing n (handed row from to)
handed_listing n from to row l h = ((l, others_below n to (others from row.members) (others_below n from row.members h.0)), distinct-handed row from to h.1)

pub marked_listing : (n m : ℕ) (row : Row) → IsRowListing n row → IsRowListing n (with_eligible row m)
marked_listing n m row h = subst (IsListing n) (sym (marked_members m row.members)) h

pub initial_listing : (partition n b : ℕ) → IsRowListing n (initial_row partition n b)
initial_listing partition n b = subst (IsListing n) (sym numbers) (with_backups_listing n b (members_from n n partition) (members_from_listing n partition))
  where
    numbers : numbers_of (initial_row partition n b) ≡ with_backups b (members_from n n partition)
    numbers = numbers-eligible (with_backups b (members_from n n partition))

pub reopened_listing : (n : ℕ) (row : Row) (ms : List ℕ) → IsListing n ms → IsRowListing n (reopened row ms)
reopened_listing n row ms h = subst (IsListing n) (sym (numbers-begun_by ms)) h
