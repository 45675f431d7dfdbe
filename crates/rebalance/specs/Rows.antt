-- What a plan reads of the rows: their primaries, and whether they are settled.
use Rattle.std.specs.Prelude.{◌≡◌, ◌<◌, ℕ, zero, suc, Bool, true, false, not, ◌&&◌, ◌||◌, List, [], ◌∷◌, map, Option, None, if◌then◌else◌}
use Rattle.std.specs.List.{list_all}
use Rattle.partition_table.specs.declared.members.RowMember.{RowMember}
use Rattle.partition_table.specs.declared.row.Row.{Row}
use Rattle.partition_table.specs.Rows.{first_of}

-- the first member of a row that isn't lost
abbrev pub primary_of : Row → Option ℕ
primary_of row = if row.lost then None else first_of row.members

-- the primaries, in order of partition: none for a lost row
abbrev pub primaries : List Row → List (Option ℕ)
primaries rows = map primary_of rows

-- each of its members may lead
abbrev pub may_all_lead : Row → Bool
may_all_lead row = list_all (λ (listed : RowMember). listed.eligible) row.members

-- a row that isn't lost, and is moving or has a member that may not lead yet
abbrev pub is_unsettled : Row → Bool → Bool
is_unsettled row moving = not row.lost && (moving || not (may_all_lead row))

abbrev pub is_unsettled_at : List Row → List Bool → ℕ → Bool
is_unsettled_at [] moving p = false
is_unsettled_at (row ∷ rows) [] p = false
is_unsettled_at (row ∷ rows) (mark ∷ marks) zero = is_unsettled row mark
is_unsettled_at (row ∷ rows) (mark ∷ marks) (suc p) = is_unsettled_at rows marks p

-- the first partition that isn't settled
pub record IsFirstUnsettled (rows : List Row) (moving : List Bool) (partition : ℕ) : Type 0 where
  pub unsettled : is_unsettled_at rows moving partition ≡ true
  pub settled_before : (p : ℕ) → p < partition → is_unsettled_at rows moving p ≡ false
