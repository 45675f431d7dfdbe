-- The terms on which a parcel is made.
use Rattle.std.specs.Prelude.{ℕ}
use Rattle.grid_base.specs.declared.calls.Request.{Request}
use Rattle.hand_cell.specs.declared.cell.Cell.{Cell}
use Rattle.hand_cell.specs.Told.{Told}
use Rattle.hand_cell.specs.Calls.{plan_of}
use Rattle.job_queues.specs.declared.call.BegunCall.{BegunCall}

-- what the cell was made for, the pass that goes with the call, as it was then, and the call's event
pub record Terms (P E : Type 0) : Type 0 where
  pub plan : P
  pub first : Told E
  pub event : E

-- the terms of a call to a member at a moment, over this cell, with this pass
abbrev pub terms_for : {T P E O : Type 0} → (ℕ → Request → ℕ → E) → Cell T P E O → Told E → ℕ → Request → ℕ → Terms P E
terms_for call_of cell pass member request now = record { plan = plan_of cell; first = pass; event = call_of member request now }

-- the terms that a call noted which was run over this cell
abbrev pub terms_noted : {T P E O : Type 0} → Cell T P E O → BegunCall T P E O → Terms P E
terms_noted cell call = record { plan = plan_of cell; first = call.first.value; event = call.event.value }
