-- What the backups of a row acknowledged, in a list that has room for each of them.
use Rattle.std.specs.Prelude.{ℕ, ◌+◌, ◌≤◌, List, map, length, IsTrue}
use Rattle.partition_table.specs.declared.Row.{Row}
use Rattle.partition_table.specs.Rows.{number_of, backups_of, is_among}
use Rattle.partition_table.specs.RowFacts.{are_distinct}
use Rattle.partition_protocol.specs.Node.{Acknowledged}

-- the acknowledgements, and how many more need no memory
pub record AckList : Type 0 where
  pub list : List Acknowledged
  pub spare : ℕ

abbrev pub acker_of : Acknowledged → ℕ
acker_of a = a.member

-- who acknowledged, in the order of their first acknowledgements
abbrev pub ackers_of : List Acknowledged → List ℕ
ackers_of acks = map acker_of acks

-- the numbers of the row's backups
abbrev pub backup_numbers : Row → List ℕ
backup_numbers row = map number_of (backups_of row)

-- Backups of the row acknowledged, each in one place, and there is a place for each of them
pub record HasPlaces (row : Row) (acks : AckList) : Type 0 where
  pub once : IsTrue (are_distinct (ackers_of acks.list))
  pub backups : (m : ℕ) → IsTrue (is_among (ackers_of acks.list) m) → IsTrue (is_among (backup_numbers row) m)
  pub places : length (backups_of row) ≤ length acks.list + acks.spare
