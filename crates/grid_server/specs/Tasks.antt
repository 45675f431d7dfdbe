-- What the tasks of a server do.
use Rattle.std.specs.Prelude.{◌≡◌, ℕ, ◌≤◌, List, length, Option, IfSome, IfNone, Result, IfOk}
use Rattle.grid_base.specs.declared.calls.Request.{Request}
use Rattle.call_engine.specs.Limits.{RequestFits}
use Rattle.grid_cli.specs.declared.status.Status.{Status}
use Rattle.grid_cli.specs.declared.status.Status.TheVariants.{ReadFault, WriteFault}
use Rattle.grid_edge.specs.Doors.{Book}
use Rattle.grid_edge.specs.Faults.{Rose, HasCause}
use Rattle.grid_edge.specs.declared.doors.DoorFault.{DoorFault}
use Rattle.partition_world.specs.declared.event.Event.{Event}
use Rattle.partition_world.specs.declared.event.Happened.{Happened}
use Rattle.live_grid.specs.declared.grid.GridPass.{GridPass}
use Rattle.live_grid.specs.declared.grid.LiveGrid.{LiveGrid}
use Rattle.live_grid.specs.declared.plan.GridPlan.{GridPlan}
use Rattle.live_grid.specs.declared.world.LiveWorld.{LiveWorld}
use Rattle.live_grid.specs.Grids.{place_of}
use Rattle.live_grid.specs.Histories.{live_key, live_call}
use Rattle.live_grid.specs.Outcomes.{LiveTells}
use Rattle.live_control.specs.Running.{MayServe as MayControl}
use Rattle.live_control.specs.Serving.{HasServed as HasControlled}
use Rattle.live_server.specs.declared.connections.Connections.{Connections}
use Rattle.live_server.specs.Order.{KeepsOrder}
use Rattle.live_server.specs.Serving.{HasServedAll}
use Rattle.live_server.specs.Standing.{MayServe, HasLetAllIn, Rests}
use Rattle.live_session.specs.Connections.{ServesCalls}
use Rattle.serve_options.specs.declared.options.ServeOptions.{ServeOptions}
use Rattle.grid_server.specs.Serving.{Operator, AtDoors}

-- The operator's script may be run, and clients may be served
pub record MayMeet {F K : Type 0} (options : ServeOptions) (grid : LiveGrid) (book : Book) (connections : Connections LiveWorld F K GridPlan (Event Request) Happened) (pass : GridPass) : Type 0 where
  pub some : 1 ≤ options.members
  pub most : options.members ≤ 8
  pub may_control : MayControl grid pass
  pub calls : ServesCalls RequestFits (place_of grid)
  pub may : MayServe live_key (place_of grid) connections book

-- The clients that came through the doors were served, and no connection is left. The doors stand open as they did. Since the closing was seen that is
-- answered, all were let in who had come by then
pub record HasServedClients {F K D : Type 0} (empty_looks : D → ℕ) (grid : LiveGrid) (given : List ℕ) (connections : Connections LiveWorld F K GridPlan (Event Request) Happened) (opened closed : AtDoors) (ended : Result D DoorFault) : Type 0 where
  pub clients : HasServedAll live_key LiveTells live_call (place_of grid) given connections.journal connections.passes.items closed.book
  pub in_order : KeepsOrder live_key connections.journal connections.passes.items
  pub let_in : IfOk ended (λ closing. HasLetAllIn opened.looks (empty_looks closing) closed.looks (length closed.book.arrivals))
  pub rests : Rests (place_of grid) connections
  pub opening : closed.book.opening ≡ opened.book.opening
  pub cause : HasCause opened.faults closed.faults ended

-- The control script was run, and each fault that it ended with was counted
pub record HasOperated (grid : LiveGrid) (members : ℕ) (status : Status) (before after : Operator) (old new : GridPass) : Type 0 where
  pub control : HasControlled grid members status before.script.given after.script.given before.out.bytes after.out.bytes old new
  pub read_fault : status ≡ ReadFault → Rose before.script.faults after.script.faults
  pub write_fault : status ≡ WriteFault → Rose before.out.faults after.out.faults
  pub kept : MayControl grid new

-- Clients were served and the operator heard, or else a worker had no thread, and nothing was done
pub record HasMet {F K D : Type 0} (empty_looks : D → ℕ) (grid : LiveGrid) (given : List ℕ) (members : ℕ) (connections : Connections LiveWorld F K GridPlan (Event Request) Happened) (opened closed : AtDoors) (before after : Operator) (old new : GridPass) (met : Option (Result D DoorFault × Status)) : Type 0 where
  pub served : IfSome met (λ ended. HasServedClients empty_looks grid given connections opened closed ended.0)
  pub operated : IfSome met (λ ended. HasOperated grid members ended.1 before after old new)
  pub untouched : IfNone met (after ≡ before)
  pub none_came : IfNone met (closed ≡ opened)
