-- The rows of the partition table: who keeps a partition, in which version.
-- A row lists its members with the primary first, and its version is one more with each new row of the partition.
use Rattle.std.specs.Prelude.{ℕ, zero, suc, ◌+◌, ◌%◌, Bool, true, false, not, ◌&&◌, ◌||◌, ◌==◌, nat_eq, List, [], ◌∷◌, ◌++◌, map, take, Option, Some, None, option_map, filter}
use Rattle.std.specs.List.{list_any, find}
pub use Rattle.partition_table.specs.declared.members.RowMember.{RowMember}
pub use Rattle.partition_table.specs.declared.row.Row.{Row}

-- is the member's number m?
abbrev pub has_number : ℕ → RowMember → Bool
has_number m r = r.member == m

-- the member of that number, if the row has it
abbrev pub find_member : Row → ℕ → Option RowMember
find_member row m = find (has_number m) row.members

abbrev pub number_of : RowMember → ℕ
number_of r = r.member

-- the numbers of the row's members, the primary's first
abbrev pub numbers_of : Row → List ℕ
numbers_of row = map number_of row.members

abbrev pub is_among : List ℕ → ℕ → Bool
is_among ms m = list_any (nat_eq m) ms

abbrev pub is_first : List ℕ → ℕ → Bool
is_first [] m = false
is_first (k ∷ ks) m = k == m

abbrev pub is_in : Row → ℕ → Bool
is_in row m = is_among (numbers_of row) m

-- a member of the row that may lead it
abbrev pub is_eligible : Row → ℕ → Bool
is_eligible row m = list_any (λ (r : RowMember). (r.member == m) && r.eligible) row.members

abbrev pub first_of : List RowMember → Option ℕ
first_of [] = None
first_of (r ∷ rs) = Some r.member

-- the primary is the first member
abbrev pub is_primary : Row → ℕ → Bool
is_primary row m = is_first (numbers_of row) m

abbrev pub rest_of : List RowMember → List RowMember
rest_of [] = []
rest_of (r ∷ rs) = rs

-- the backups are the members after the primary, in the order of the row
abbrev pub backups_of : Row → List RowMember
backups_of row = rest_of row.members

abbrev pub is_backup : Row → ℕ → Bool
is_backup row m = not (is_primary row m) && is_in row m

-- that many of the n members, from one on, and on from the first after the last
abbrev pub members_from : ℕ → ℕ → ℕ → List ℕ
members_from n zero from = []
members_from n (suc k) from = (from % n) ∷ members_from n k (from + 1)

-- the first of these, and up to b more
abbrev pub with_backups : ℕ → List ℕ → List ℕ
with_backups b [] = []
with_backups b (m ∷ ms) = m ∷ take b ms

abbrev pub eligible_member : ℕ → RowMember
eligible_member m = record { member = m; eligible = true }

-- of n members, the one whose number is the partition's modulo n leads, and up to b that follow it are backups
abbrev pub initial_row : ℕ → ℕ → ℕ → Row
initial_row partition n b = record { version = 1; reset = 0; lost = false; members = map eligible_member (with_backups b (members_from n n partition)) }

-- the first member that may lead
abbrev pub first_eligible : List RowMember → Option RowMember
first_eligible rs = find (λ (r : RowMember). r.eligible) rs

-- the number of the first member that may lead and isn't among these
abbrev pub first_live_eligible : Row → List ℕ → Option ℕ
first_live_eligible row detected = option_map number_of (find (λ (r : RowMember). r.eligible && not (is_among detected r.member)) row.members)

-- the members but m
abbrev pub others : ℕ → List RowMember → List RowMember
others m rs = filter (λ (r : RowMember). not (has_number m r)) rs

-- led by this one: it moves to the front, and the others keep their order. With nobody to lead there are none
abbrev pub led_by : Option RowMember → List RowMember → List RowMember
led_by None rs = []
led_by (Some r) rs = r ∷ others r.member rs

abbrev pub is_empty : {X : Type 0} → List X → Bool
is_empty [] = true
is_empty (x ∷ xs) = false

-- the next row has a version one more, and is lost where it has no members
abbrev pub next_row : Row → List RowMember → Row
next_row row rs = record { version = row.version + 1; reset = row.reset; lost = is_empty rs; members = rs }

-- without m: the first eligible of the others leads. If none is, the row is lost
abbrev pub without : Row → ℕ → Row
without row m = let rs = others m row.members in next_row row (led_by (first_eligible rs) rs)

-- a joiner comes last, and may not lead yet
abbrev pub with_joiner : Row → ℕ → Row
with_joiner row m = next_row row (row.members ++ record { member = m; eligible = false } ∷ [])

-- handed over: one member leaves, and another leads
abbrev pub handed : Row → ℕ → ℕ → Row
handed row from to = next_row row (eligible_member to ∷ others to (others from row.members))

abbrev pub marked : ℕ → RowMember → RowMember
marked m r = record { member = r.member; eligible = r.eligible || has_number m r }

-- the same row, where m may lead from now on
abbrev pub with_eligible : Row → ℕ → Row
with_eligible row m = record { version = row.version; reset = row.reset; lost = row.lost; members = map (marked m) row.members }

-- begun by these members: the first may lead, and the others not yet
abbrev pub begun_by : List ℕ → List RowMember
begun_by [] = []
begun_by (m ∷ ms) = eligible_member m ∷ map (λ k. record { member = k; eligible = false }) ms

-- reopened by these members: the row begins empty, which its reset says
abbrev pub reopened : Row → List ℕ → Row
reopened row ms = record { version = row.version + 1; reset = row.version + 1; lost = false; members = begun_by ms }
