-- The rows that members know and messages carry are rows that the service made.
use Rattle.std.specs.Prelude.{◌≡◌, ℕ, List, Some, slice_get, Contains}
use Rattle.grid_base.specs.Objects.{Object}
use Rattle.partition_table.specs.declared.Row.{Row}
use Rattle.partition_table.specs.Rows.{numbers_of}
use Rattle.partition_protocol.specs.Messages.{Packet}
use Rattle.partition_protocol.specs.Node.{Node}
use Rattle.partition_protocol.specs.World.{World, start}
use Rattle.partition_protocol.specs.Events.{Event, run}
use Rattle.partition_protocol.specs.ReadOff.{row_in}
use Rattle.partition_protocol.specs.Sequences.{IsFrontOf}

-- after some of these events, from the first on, it was the service's row, with these very marks
abbrev pub WasMade : {C State : Type 0} → Object C State → World C → List (Event C) → Row → Type 0
WasMade {C} o opening events row = (front : List (Event C)) × IsFrontOf front events × ((run o opening front).service.row ≡ row)

pub record AreRowsMade {C State : Type 0} (o : Object C State) (opening : World C) (events : List (Event C)) : Type 0 where
  pub known : (m : ℕ) (node : Node) → slice_get (run o opening events).nodes m ≡ Some node → WasMade o opening events node.known
  pub in_flight : (p : Packet) (row : Row) → Contains (run o opening events).packets p → Contains (row_in p.message) row → WasMade o opening events row
  -- the row that the partition stands by
  pub standing : WasMade o opening events (run o opening events).recorded.standing

-- of any number of members and backups
abbrev pub EveryRowWasMade : {C State : Type 0} → Object C State → Type 0
EveryRowWasMade {C} o = (partition members backups : ℕ) (events : List (Event C)) → AreRowsMade o (start partition members backups) events

-- two rows have the same members in the same order, and differ at most in which of them may lead
pub record DifferInMarks (r s : Row) : Type 0 where
  pub reset : r.reset ≡ s.reset
  pub lost : r.lost ≡ s.lost
  pub members : numbers_of r ≡ numbers_of s

-- so do two that the service made in one version
abbrev pub EveryVersionHasOneRow : {C State : Type 0} → Object C State → Type 0
EveryVersionHasOneRow {C} o =
    (partition members backups : ℕ) (events : List (Event C)) (r s : Row)
    → let opening = start partition members backups in
    WasMade o opening events r → WasMade o opening events s → r.version ≡ s.version → DifferInMarks r s
