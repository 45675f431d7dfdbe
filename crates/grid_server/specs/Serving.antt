-- What a server that has ended has done.
use Rattle.std.specs.Prelude.{◌≡◌, ℕ, List, [], map, length, Option, Some, None}
use Rattle.entry_processors.specs.declared.form.Form.{Form}
use Rattle.grid_base.specs.declared.calls.Request.{Request}
use Rattle.grid_cli.specs.declared.status.Status.{Status}
use Rattle.grid_cli.specs.declared.status.Status.TheVariants.{DoorFault, ReadFault, WriteFault}
use Rattle.grid_edge.specs.Doors.{Book}
use Rattle.grid_edge.specs.Faults.{Rose}
use Rattle.grid_edge.specs.Given.{Given}
use Rattle.hand_cell.specs.Told.{Told}
use Rattle.loop_journal.specs.declared.entry.Entry.{Entry}
use Rattle.partition_world.specs.declared.event.Event.{Event}
use Rattle.session_calls.specs.Passes.{ArePassesOf, AreJoinedWith}
use Rattle.live_grid.specs.declared.grid.GridPass.{GridPass}
use Rattle.live_grid.specs.declared.grid.LiveGrid.{LiveGrid}
use Rattle.live_grid.specs.Grids.{AreCells, place_of}
use Rattle.live_grid.specs.Histories.{live_key, live_call}
use Rattle.live_grid.specs.Outcomes.{LiveTells}
use Rattle.live_control.specs.Running.{MayServe as MayControl}
use Rattle.live_control.specs.Serving.{HasServed as HasControlled}
use Rattle.live_server.specs.Order.{KeepsOrder}
use Rattle.live_server.specs.Serving.{HasServedAll}
use Rattle.live_server.specs.Standing.{HasLetAllIn}
use Rattle.live_server.specs.Times.{AnswersStandFirst}
use Rattle.served_history_laws.specs.Histories.{TellsHistories}
use Rattle.serve_options.specs.declared.options.ServeOptions.{ServeOptions}
use Rattle.grid_server.specs.Settings.{AreNew}

-- a source at one moment: what it has given, and its count of faults
pub record Incoming : Type 0 where
  pub given : Given
  pub faults : ℕ

-- a sink at one moment: the bytes that it has taken, and its count of faults
pub record Stream : Type 0 where
  pub bytes : List ℕ
  pub faults : ℕ

-- an operator's streams: what was read of the script, and what was written
pub record Operator : Type 0 where
  pub script : Incoming
  pub out : Stream

abbrev pub operator : (given : Given) → (reads : ℕ) → (taken : List ℕ) → (writes : ℕ) → Operator
operator given reads taken writes = record { script = record { given = given; faults = reads }; out = record { bytes = taken; faults = writes } }

-- doors at one moment
pub record AtDoors : Type 0 where
  pub book : Book
  pub looks : ℕ
  pub faults : ℕ

abbrev pub at_doors : Book → (looks faults : ℕ) → AtDoors
at_doors book looks faults = record { book = book; looks = looks; faults = faults }

-- the doors were opened for the members, from that port on
abbrev pub IsOpenedFor : ServeOptions → Book → Type 0
IsOpenedFor options book = book.opening ≡ Some (record { members = options.members; port = options.port })

-- They were just opened: none has come yet
pub record IsOpened (options : ServeOptions) (book : Book) : Type 0 where
  pub opening : IsOpenedFor options book
  pub none_accepted : book.arrivals ≡ []
  pub none_returned : book.returns ≡ []

module _ {D : Type 0} (empty_looks : D → ℕ) where
  -- how the server ended: as its control script, once all were let in who had come by the closing that was seen; or by a fault of its doors
  abbrev pub EndsAs : (told status : Status) → (closing : Option D) → (outside closed : AtDoors) → Type 0
  EndsAs told status None outside closed = (status ≡ DoorFault) × Rose outside.faults closed.faults
  EndsAs told status (Some closing) outside closed = (status ≡ told) × HasLetAllIn outside.looks (empty_looks closing) closed.looks (length closed.book.arrivals)

-- A grid of these options and forms has served behind doors that were opened for its members. Its operator's script was run on it from the start, with a
-- pass of each of its cells; each connection that came through the doors was served with others, and the pass has taken these in. It may run an
-- operator's events. The journal has what was done for the connections, and by it their calls keep their order
pub record HasServed {D : Type 0} (empty_looks : D → ℕ) (options : ServeOptions) (forms : List Form) (given : List ℕ) (before after : Operator) (outside closed : AtDoors)
    (status : Status) (grid : LiveGrid) (pass : GridPass) (journal : List Entry) (closing : Option D) : Type 0 where
  pub opened : IsOpenedFor options closed.book
  pub cells : AreCells options.members options.backups forms options.capacity (place_of grid).cells.items
  pub first : GridPass
  pub may_begin : MayControl grid first
  pub new : AreNew first.passes.items
  pub last : GridPass
  pub may_end : MayControl grid last
  pub told : Status
  pub control : HasControlled grid options.members told before.script.given after.script.given before.out.bytes after.out.bytes first last
  pub theirs : List (Told (Event Request))
  pub of_grid : ArePassesOf (place_of grid).cells.items theirs
  pub clients : HasServedAll live_key LiveTells live_call (place_of grid) given journal theirs closed.book
  pub gathered : AreJoinedWith live_key last.passes.items (map (λ pass. Some pass) theirs) pass.passes.items
  pub may_go_on : MayControl grid pass
  pub histories : TellsHistories (place_of grid) given journal pass.passes.items closed.book
  pub in_order : KeepsOrder live_key journal pass.passes.items
  pub in_time : AnswersStandFirst live_key LiveTells live_call (place_of grid) given journal pass.passes.items closed.book
  pub ends : EndsAs empty_looks told status closing outside closed
  -- a fault of the script or of what is written is told only where there was one
  pub read_fault : told ≡ ReadFault → Rose before.script.faults after.script.faults
  pub write_fault : told ≡ WriteFault → Rose before.out.faults after.out.faults
