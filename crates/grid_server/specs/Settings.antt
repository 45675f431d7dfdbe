-- What a server is made of before anything has happened.
use Rattle.std.specs.Prelude.{◌≡◌, ℕ, ◌*◌, ◌≤◌, All, List, [], length, Some, slice_get}
use Rattle.entry_processors.specs.declared.form.Form.{Form}
use Rattle.grid_base.specs.declared.calls.Request.{Request}
use Rattle.hand_cell.specs.Told.{Told}
use Rattle.partition_threads.specs.declared.workplace.Workplace.{Workplace}
use Rattle.partition_threads.specs.Workplaces.{IsTokenAt, AreTokensAt}
use Rattle.partition_world.specs.declared.event.Event.{Event}
use Rattle.session_calls.specs.Passes.{HaveNumber}
use Rattle.partition_world.specs.declared.event.Happened.{Happened}
use Rattle.live_grid.specs.declared.grid.LiveGrid.{LiveGrid}
use Rattle.live_grid.specs.declared.plan.GridPlan.{GridPlan}
use Rattle.live_grid.specs.declared.world.LiveWorld.{LiveWorld}
use Rattle.live_grid.specs.Grids.{AreCells, IsGridPassOf, place_of}
use Rattle.live_control.specs.Running.{MayServe as MayControl}
use Rattle.live_server.specs.declared.connections.Connections.{Connections}
use Rattle.live_server.specs.declared.connections.TheConstants.{ROOM}
use Rattle.slab.specs.Slab.{slab_len}
use Rattle.serve_options.specs.declared.options.ServeOptions.{ServeOptions}
use Rattle.grid_server.specs.declared.setting.Setting.{Setting}
use Rattle.grid_server.specs.declared.setting.Worker.{Worker}

-- the worker has a token of the queue of its number, and holds no call
abbrev pub IsWorker : Workplace LiveWorld GridPlan (Event Request) Happened → Worker → Type 0
IsWorker place worker = IsTokenAt place worker.number worker.tokens.queue × (worker.tokens.held.items ≡ [])

abbrev pub AreWorkers : Workplace LiveWorld GridPlan (Event Request) Happened → List Worker → Type 0
AreWorkers place workers = All (λ (worker : Worker). IsWorker place worker) workers

-- none of the passes has seen an event
abbrev pub AreNew : List (Told (Event Request)) → Type 0
AreNew passes = (partition : ℕ) (pass : Told (Event Request)) → slice_get passes partition ≡ Some pass → pass.seen ≡ []

module _ {F K : Type 0} where
  -- No connection has come. The passes have every connection's number for a name and have seen nothing, and there are tokens of each member's workers
  pub record IsUnused (grid : LiveGrid) (members : ℕ) (connections : Connections LiveWorld F K GridPlan (Event Request) Happened) : Type 0 where
    pub none_came : connections.accepted ≡ 0
    pub no_clients : slab_len connections.clients ≡ 0
    pub room : ROOM ≤ connections.clients.capacity
    pub of_grid : IsGridPassOf grid (record { passes = connections.passes; tokens = connections.tokens })
    pub named : (number : ℕ) → HaveNumber number connections.passes.items
    pub unseen : AreNew connections.passes.items
    pub workers : length connections.tokens.items ≡ 4 * members

  -- A grid of these options in which nothing has happened: the first pass has Control, and what the threads need stands ready
  pub record IsSetting (options : ServeOptions) (forms : List Form) (setting : Setting F K) : Type 0 where
    pub cells : AreCells options.members options.backups forms options.capacity (place_of setting.grid).cells.items
    pub may_control : MayControl setting.grid setting.pass
    pub unseen : AreNew setting.pass.passes.items
    pub tokens : AreTokensAt (place_of setting.grid) setting.pass.tokens.items
    pub workers : AreWorkers (place_of setting.grid) setting.workers.items
    pub connections : IsUnused setting.grid options.members setting.connections
