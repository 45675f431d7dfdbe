-- The cells that a queue is made for.
use Rattle.std.specs.Prelude.{◌≡◌, ℕ, List, map, Some, slice_get}
use Rattle.atomic_table.specs.Seated.{TableId}
use Rattle.hand_cell.specs.declared.cell.Cell.{Cell}
use Rattle.hand_cell.specs.Calls.{plan_of}

-- the cells' tables, and what they were made for
pub record Roster (P : Type 0) : Type 0 where
  pub tables : List TableId
  pub plans : List P

module _ {T P E O : Type 0} where
  abbrev pub roster_of : List (Cell T P E O) → Roster P
  roster_of cells = record { tables = map (λ c. c.table.shared.table_id) cells; plans = map (λ c. plan_of c) cells }

  -- the cell stands at this place of a roster
  pub record StandsAt (roster : Roster P) (place : ℕ) (cell : Cell T P E O) : Type 0 where
    pub table : slice_get roster.tables place ≡ Some cell.table.shared.table_id
    pub plan : slice_get roster.plans place ≡ Some (plan_of cell)
