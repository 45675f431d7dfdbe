-- Rows that follow one another, which the definitions of `partition_table` compute.
use Rattle.std.specs.Prelude.{◌≡◌, ℕ, Bool, true, false, List, [], ◌∷◌, map, Some, None, refl}
use Rattle.partition_table.specs.declared.RowMember.{RowMember}
use Rattle.partition_table.specs.declared.Row.{Row}
use Rattle.partition_table.specs.Rows.{eligible_member, initial_row, with_joiner, without, handed, with_eligible, reopened, is_primary, is_backup, is_in, is_eligible, first_of, backups_of, first_live_eligible}

-- one that may not lead yet
abbrev later : ℕ → RowMember
later member = record { member = member; eligible = false }

abbrev may : ℕ → RowMember
may = eligible_member

-- a row that isn't lost, of a partition that wasn't reopened
abbrev row_of : ℕ → List RowMember → Row
row_of version members = record { version = version; reset = 0; lost = false; members = members }

the_partition_names_the_first_primary : initial_row 5 3 1 ≡ row_of 1 (may 2 ∷ may 0 ∷ [])
the_partition_names_the_first_primary = refl

its_backups_follow_it : initial_row 5 3 2 ≡ row_of 1 (may 2 ∷ may 0 ∷ may 1 ∷ [])
its_backups_follow_it = refl

there_are_no_more_backups_than_others : initial_row 5 3 7 ≡ row_of 1 (may 2 ∷ may 0 ∷ may 1 ∷ [])
there_are_no_more_backups_than_others = refl

abbrev joining : Row
joining = with_joiner (initial_row 5 3 1) 1

a_joiner_comes_last : joining ≡ row_of 2 (may 2 ∷ may 0 ∷ later 1 ∷ [])
a_joiner_comes_last = refl

the_next_that_may_lead_follows_a_primary : without joining 2 ≡ row_of 3 (may 0 ∷ later 1 ∷ [])
the_next_that_may_lead_follows_a_primary = refl

without_one_that_may_lead_the_row_is_lost : without (without joining 2) 0 ≡ record { version = 4; reset = 0; lost = true; members = [] }
without_one_that_may_lead_the_row_is_lost = refl

a_lost_row_is_reopened_in_the_version_of_its_reset
    : reopened (without (without joining 2) 0) (1 ∷ 2 ∷ []) ≡ record { version = 5; reset = 5; lost = false; members = may 1 ∷ later 2 ∷ [] }
a_lost_row_is_reopened_in_the_version_of_its_reset = refl

one_that_joined_may_lead : with_eligible joining 1 ≡ row_of 2 (may 2 ∷ may 0 ∷ may 1 ∷ [])
one_that_joined_may_lead = refl

a_row_is_handed_over : handed (with_eligible joining 1) 2 1 ≡ row_of 3 (may 1 ∷ may 0 ∷ [])
a_row_is_handed_over = refl

-- of the members 0, 1, 2 and 3, the last of whom isn't in the row
abbrev of_each : (Row → ℕ → Bool) → List Bool
of_each test = map (test joining) (0 ∷ 1 ∷ 2 ∷ 3 ∷ [])

a_row_tells_its_members
    : map of_each (is_primary ∷ is_backup ∷ is_in ∷ is_eligible ∷ [])
    ≡ (false ∷ false ∷ true ∷ false ∷ [])
    ∷ (true ∷ true ∷ false ∷ false ∷ [])
    ∷ (true ∷ true ∷ true ∷ false ∷ [])
    ∷ (true ∷ false ∷ true ∷ false ∷ [])
    ∷ []
a_row_tells_its_members = refl

the_first_is_primary : first_of joining.members ≡ Some 2
the_first_is_primary = refl

the_others_are_backups : backups_of joining ≡ may 0 ∷ later 1 ∷ []
the_others_are_backups = refl

the_first_live_one_that_may_lead_is_found
    : map (first_live_eligible joining) ((3 ∷ 4 ∷ []) ∷ (2 ∷ 4 ∷ []) ∷ (0 ∷ 2 ∷ []) ∷ []) ≡ Some 2 ∷ Some 0 ∷ None ∷ []
the_first_live_one_that_may_lead_is_found = refl
