-- What the rows of a partition keep, whatever made them.
use Rattle.std.specs.Prelude.{ℕ, Bool, true, false, not, ◌&&◌, List, [], ◌∷◌, IsTrue}
use Rattle.partition_table.specs.Rows.{Row, RowMember, is_among, numbers_of}

-- no number stands twice
abbrev pub are_distinct : List ℕ → Bool
are_distinct [] = true
are_distinct (m ∷ ms) = not (is_among ms m) && are_distinct ms

-- each member has one place in the row
abbrev pub HasDistinctMembers : Row → Type 0
HasDistinctMembers row = IsTrue (are_distinct (numbers_of row))

-- where the old row's members have one place each, the new row's have
abbrev pub KeepsDistinct : Row → Row → Type 0
KeepsDistinct old new = HasDistinctMembers old → HasDistinctMembers new

-- the first of these may lead
abbrev pub begins_eligible : List RowMember → Bool
begins_eligible [] = false
begins_eligible (r ∷ rs) = r.eligible
