-- What the states of a move are: who leaves the row and who comes, and the row of the step.
use Rattle.std.specs.Prelude.{ℕ, Bool, true, ◌&&◌, ◌==◌, [], Option, Some, None}
use Rattle.partition_table.specs.declared.Row.{Row}
use Rattle.partition_table.specs.Rows.{is_in, without, handed, with_eligible}
use Rattle.partition_protocol.specs.Service.{Service, Move, NoMove, Joining, Joined, Freezing, Drained}

-- a move that brings its target in, and may have a source that leaves
pub record Entry : Type 0 where
  pub source : Option ℕ
  pub target : ℕ
  pub row : Row

-- a move whose target comes in the place of its source
pub record Replacement : Type 0 where
  pub source : ℕ
  pub target : ℕ
  pub row : Row

-- the protocol's move, and the row in which it stands
pub record Step : Type 0 where
  pub row : Row
  pub move : Move

-- each state is a move of the protocol

abbrev pub joining_step : Entry → Step
joining_step e = record { row = e.row; move = Joining e.source e.target }

abbrev pub joined_step : Replacement → Step
joined_step r = record { row = r.row; move = Joined r.source r.target }

abbrev pub freezing_step : Replacement → Step
freezing_step r = record { row = r.row; move = Freezing r.source r.target }

abbrev pub drained_step : Replacement → Step
drained_step r = record { row = r.row; move = Drained r.source r.target }

-- no move is under way in this row
abbrev pub ended_step : Row → Step
ended_step row = record { row = row; move = NoMove }

-- a service that was told of no crash, with this row and this move
abbrev pub service_at : Step → Service
service_at s = record { row = s.row; move = s.move; detected = [] }

-- the row and the move that a service has
abbrev pub step_of : Service → Step
step_of s = record { row = s.row; move = s.move }

-- where there is a source, the row has it
abbrev pub has_source : Row → Option ℕ → Bool
has_source row None = true
has_source row (Some source) = is_in row source

-- that member says that it has the contents of the row's version, and it is the one that the move waits for
abbrev pub is_awaited : ℕ → ℕ → Entry → Bool
is_awaited member version e = (e.row.version == version) && (e.target == member)

-- the target may lead from now on
abbrev pub with_target : Entry → Row
with_target e = with_eligible e.row e.target

-- the next row is without the source
abbrev pub dropping : Replacement → Replacement
dropping r = record { source = r.source; target = r.target; row = without r.row r.source }

-- in the next row the target leads, and the source is gone
abbrev pub committing : Replacement → Replacement
committing r = record { source = r.source; target = r.target; row = handed r.row r.source r.target }
