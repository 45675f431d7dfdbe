-- What a server that has ended has done, of what its threads did.
use Rattle.std.specs.Prelude.{IsSomeAnd, IfSome, IfNone}
use Rattle.std.proofs.Common.{◌≡◌, inl, inr, ⊎_elim, ℕ, ◌-◌, ◌^◌, ◌<◌, ◌≤◌, List, map, length, Option, Some, None, Result, Ok, Err, IfOk, OnErr, slice_get, sym, ap, ◌∙◌, subst, arith}
use Rattle.std.proofs.lemmas.List.{length-map}
use Rattle.entry_processors.specs.declared.form.Form.{Form}
use Rattle.grid_base.specs.declared.calls.Request.{Request}
use Rattle.grid_cli.specs.declared.status.Status.{Status}
use Rattle.grid_cli.specs.declared.status.Status.TheVariants.{DoorFault as FaultOfDoors}
use Rattle.grid_edge.specs.Faults.{HasCause}
use Rattle.grid_edge.specs.declared.doors.DoorFault.{DoorFault}
use Rattle.hand_cell.specs.declared.cell.Cell.{Cell}
use Rattle.hand_cell.specs.Calls.{plan_of}
use Rattle.hand_cell.specs.Told.{Told}
use Rattle.job_queues.specs.Roster.{roster_of}
use Rattle.partition_threads.specs.Workplaces.{AreTokensAt}
use Rattle.partition_world.specs.declared.event.Event.{Event}
use Rattle.partition_world.specs.declared.event.Happened.{Happened}
use Rattle.session_calls.specs.Passes.{ArePassesOf, AreJoinedWith}
use Rattle.session_calls.proofs.OfCells.{came_from, mapped}
use Rattle.live_grid.specs.declared.grid.GridPass.{GridPass}
use Rattle.live_grid.specs.declared.grid.LiveGrid.{LiveGrid}
use Rattle.live_grid.specs.declared.plan.GridPlan.{GridPlan}
use Rattle.live_grid.specs.declared.world.LiveWorld.{LiveWorld}
use Rattle.live_grid.specs.Grids.{AreCells, IsGridPassOf, place_of}
use Rattle.live_grid.specs.Histories.{live_key, live_call}
use Rattle.live_grid.specs.Outcomes.{LiveTells}
use Rattle.live_control.specs.Running.{MayServe as MayControl}
use Rattle.live_server.specs.declared.connections.Connections.{Connections}
use Rattle.loop_journal.specs.declared.entry.Entry.{Entry}
use Rattle.live_server.specs.Laws.{StaysServed, StaysInOrder, KeepsAnswersFirst}
use Rattle.live_server.specs.Order.{KeepsOrder}
use Rattle.live_server.specs.Serving.{HasServedAll}
use Rattle.live_server.specs.Standing.{HasLetAllIn, Rests}
use Rattle.served_history_laws.specs.Histories.{HaveMembers, ServedTellsHistories}
use Rattle.serve_options.specs.declared.options.ServeOptions.{ServeOptions}
use Rattle.grid_server.specs.declared.setting.Setting.{Setting}
use Rattle.serve_options.specs.Options.{Words, AreOptions}
use Rattle.grid_server.specs.declared.ended.Ended.{Ended}
use Rattle.grid_server.specs.Commands.{IsNotBegun, HasServedFrom, HasEnded}
use Rattle.grid_server.specs.Serving.{Operator, AtDoors, IsOpened, EndsAs, HasServed}
use Rattle.grid_server.specs.Settings.{AreNew, IsSetting}
use Rattle.grid_server.specs.Tasks.{HasServedClients, HasOperated}
use Rattle.grid_server.proofs.Opening.{may_control_by}
use Rattle.grid_server.proofs.Regained.{tables_of, still_controls}

-- How a server ended, by how its clients' side did
pub ends_as : {D : Type 0} (empty_looks : D → ℕ) (told status : Status) (closing : Option D) (opened closed : AtDoors) (ended : Result D DoorFault)
    → IfOk ended (λ seen. (status ≡ told) × (closing ≡ Some seen)) → OnErr ended ((status ≡ FaultOfDoors) × (closing ≡ None))
    → IfOk ended (λ seen. HasLetAllIn opened.looks (empty_looks seen) closed.looks (length closed.book.arrivals)) → HasCause opened.faults closed.faults ended
    → EndsAs empty_looks told status closing opened closed
ends_as empty_looks told status closing opened closed (Ok seen) as_told by_fault let_in cause =
    subst (λ (c : Option _). EndsAs empty_looks told status c opened closed) (sym as_told.1) (as_told.0, let_in)
ends_as empty_looks told status closing opened closed (Err fault) as_told by_fault let_in cause =
    subst (λ (c : Option _). EndsAs empty_looks told status c opened closed) (sym by_fault.1) (by_fault.0, cause.rose)

-- passes whose cells are these, in their order
passes_of : {T P E O : Type 0} (cells : List (Cell T P E O)) (passes : List (Told E)) → map (λ (p : Told E). p.table) passes ≡ (roster_of cells).tables → ArePassesOf cells passes
passes_of cells passes tables = record {
  as_long = sym (length-map passes (λ p. p.table)) ∙ (ap length tables ∙ length-map cells (λ c. c.table.shared.table_id));
  each = λ place pass e. sym (ap (λ ts. slice_get ts place) tables) ∙ mapped (λ p. p.table) passes place pass e;
}

-- the operator's pass may run events once it has taken the clients' in
regained : (grid : LiveGrid) (last pass : GridPass) (theirs : List (Told (Event Request))) → MayControl grid last → length theirs ≡ length (place_of grid).cells.items
    → AreJoinedWith live_key last.passes.items (map (λ part. Some part) theirs) pass.passes.items → IsGridPassOf grid pass → MayControl grid pass
regained grid last pass theirs kept long joined whole = record {
  of_grid = record { as_many = kept.of_grid.as_many; tables = tables_of (place_of grid).cells.items pass.passes.items whole.cells };
  control = still_controls live_key last.passes.items theirs pass.passes.items (long ∙ sym (passes_of (place_of grid).cells.items last.passes.items kept.of_grid.tables).as_long) kept.control joined;
}

module _ {F K : Type 0} where
  -- the passes and tokens of connections that rest are a grid's pass
  pub rest_gathers : (grid stage_grid : LiveGrid) (connections : Connections LiveWorld F K GridPlan (Event Request) Happened) (pass : GridPass) → grid ≡ stage_grid → pass.passes ≡ connections.passes → pass.tokens ≡ connections.tokens → Rests (place_of stage_grid) connections → IsGridPassOf grid pass
  rest_gathers grid stage_grid connections pass same_grid same_passes same_tokens rests =
      subst (λ (g : LiveGrid). IsGridPassOf g pass) (sym same_grid) (record {
        cells = subst (λ passes. ArePassesOf (place_of stage_grid).cells.items passes.items) (sym same_passes) rests.passes;
        workers = subst (λ tokens. AreTokensAt (place_of stage_grid) tokens.items) (sym same_tokens) rests.tokens;
      })

  module _ (options : ServeOptions) (forms : List Form) (setting : Setting F K) (is : IsSetting options forms setting) (stage_grid grid : LiveGrid) (same_grid : grid ≡ stage_grid) (made_grid : stage_grid ≡ setting.grid) where
    -- the operator's passes are a grid's pass again, with the tokens that were put aside
    pub may_gather : (last : GridPass) → MayControl stage_grid last → IsGridPassOf grid (record { passes = last.passes; tokens = setting.pass.tokens })
    may_gather last kept = subst (λ (g : LiveGrid). IsGridPassOf g (record { passes = last.passes; tokens = setting.pass.tokens })) (sym same_grid) (record {
      cells = passes_of (place_of stage_grid).cells.items last.passes.items kept.of_grid.tables;
      workers = subst (λ (g : LiveGrid). AreTokensAt (place_of g) setting.pass.tokens.items) (sym made_grid) is.tokens;
    })

    -- each cell has members
    have_members : 1 ≤ options.members → HaveMembers (place_of stage_grid)
    have_members some partition plan there =
        let made = subst (λ (g : LiveGrid). AreCells options.members options.backups forms options.capacity (place_of g).cells.items) (sym made_grid) is.cells in
        let was = came_from (λ (c : Cell LiveWorld GridPlan (Event Request) Happened). plan_of c) (place_of stage_grid).cells.items partition plan there in
        let members : (plan_of was.0).members ≡ options.members = (made partition was.0 was.1).members_are in
        subst (λ (p : GridPlan). 1 ≤ p.members) (sym was.2) (omega (arith, some, members))

    pub has_served : {D : Type 0} (empty_looks : D → ℕ) → 1 ≤ options.members → (given : List ℕ) (journal : List Entry) → StaysServed live_key LiveTells live_call (place_of stage_grid) given journal → ServedTellsHistories given → StaysInOrder live_key
        → KeepsAnswersFirst live_key LiveTells live_call (place_of stage_grid) given → (before after : Operator) (opened closed : AtDoors) (told status : Status) (ended : Result D DoorFault) (closing : Option D) (stage_options : ServeOptions) (first last pass : GridPass) (connections : Connections LiveWorld F K GridPlan (Event Request) Happened)
        → stage_options ≡ options → first.passes.items ≡ setting.pass.passes.items
        → IsOpened options opened.book
        → HasServedClients empty_looks stage_grid given connections opened closed ended
        → HasOperated stage_grid stage_options.members told before after first last
        → AreJoinedWith live_key last.passes.items (map (λ part. Some part) connections.passes.items) pass.passes.items
        → IsGridPassOf grid pass
        → EndsAs empty_looks told status closing opened closed
        → journal ≡ connections.journal
        → HasServed empty_looks options forms given before after opened closed status grid pass journal closing
    has_served empty_looks some given journal stays tells keeps answers before after opened closed told status ended closing stage_options first last pass connections same_options same_first is_opened served operated joined whole ends journal_is =
        let as_many = served.rests.passes.as_long ∙ sym (passes_of (place_of stage_grid).cells.items last.passes.items operated.kept.of_grid.tables).as_long in
        let all : HasServedAll live_key LiveTells live_call (place_of stage_grid) given journal connections.passes.items closed.book
        = subst (λ (l : List Entry). HasServedAll live_key LiveTells live_call (place_of stage_grid) given l connections.passes.items closed.book) (sym journal_is) served.clients in
        let in_order : KeepsOrder live_key journal pass.passes.items = keeps last.passes.items connections.passes.items pass.passes.items journal as_many served.rests.named joined
        (subst (λ (l : List Entry). KeepsOrder live_key l connections.passes.items) (sym journal_is) served.in_order) in
        subst (λ (g : LiveGrid). HasServed empty_looks options forms given before after opened closed status g pass journal closing) (sym same_grid) (record {
          opened = served.opening ∙ is_opened.opening;
          cells = subst (λ (g : LiveGrid). AreCells options.members options.backups forms options.capacity (place_of g).cells.items) (sym made_grid) is.cells;
          first = first;
          may_begin = subst (λ (g : LiveGrid). MayControl g first) (sym made_grid) (may_control_by options forms setting is first same_first);
          new = subst AreNew (sym same_first) is.unseen;
          last = last;
          may_end = operated.kept;
          told = told;
          control = (subst (λ (o : ServeOptions). HasOperated stage_grid o.members told before after first last) same_options operated).control;
          theirs = connections.passes.items;
          of_grid = served.rests.passes;
          clients = all;
          gathered = joined;
          may_go_on = regained stage_grid last pass connections.passes.items operated.kept served.rests.passes.as_long joined (subst (λ (g : LiveGrid). IsGridPassOf g pass) same_grid whole);
          histories = tells (place_of stage_grid) journal pass.passes.items closed.book (have_members some)
              (stays last.passes.items connections.passes.items pass.passes.items closed.book as_many served.rests.named joined all);
          in_order = in_order;
          in_time = answers journal pass.passes.items closed.book in_order;
          ends = ends;
          read_fault = operated.read_fault;
          write_fault = operated.write_fault;
        })

-- how a server ended, told of the doors as they were before they were opened
ends_since : {D : Type 0} (empty_looks : D → ℕ) (told status : Status) (closing : Option D) (outside opened closed : AtDoors) → opened.looks ≡ outside.looks → outside.faults ≤ opened.faults
    → EndsAs empty_looks told status closing opened closed → EndsAs empty_looks told status closing outside closed
ends_since empty_looks told status (Some closing) outside opened closed looks faults ends = (ends.0, subst (λ (n : ℕ). HasLetAllIn n (empty_looks closing) closed.looks (length closed.book.arrivals)) looks ends.1)
ends_since empty_looks told status None outside opened closed looks faults ends = (
  ends.0,
  ⊎_elim
      (λ (more : opened.faults < closed.faults). inl (omega (arith, faults, more)))
      (λ (last : closed.faults ≡ 2 ^ 64 - 1). inr last) ends.1,
)

pub served_since : {D : Type 0} (empty_looks : D → ℕ) (options : ServeOptions) (forms : List Form) (given : List ℕ) (before after : Operator) (outside opened closed : AtDoors) (status : Status) (grid : LiveGrid) (pass : GridPass) (journal : List Entry) (closing : Option D)
    → opened.looks ≡ outside.looks → outside.faults ≤ opened.faults
    → HasServed empty_looks options forms given before after opened closed status grid pass journal closing → HasServed empty_looks options forms given before after outside closed status grid pass journal closing
served_since empty_looks options forms given before after outside opened closed status grid pass journal closing looks faults served = record {
  opened = served.opened;
  cells = served.cells;
  first = served.first;
  may_begin = served.may_begin;
  new = served.new;
  last = served.last;
  may_end = served.may_end;
  told = served.told;
  control = served.control;
  theirs = served.theirs;
  of_grid = served.of_grid;
  clients = served.clients;
  gathered = served.gathered;
  may_go_on = served.may_go_on;
  histories = served.histories;
  in_order = served.in_order;
  in_time = served.in_time;
  ends = ends_since empty_looks served.told status closing outside opened closed looks faults served.ends;
  read_fault = served.read_fault;
  write_fault = served.write_fault;
}

-- A server that made a grid has ended
pub has_ended : {D : Type 0} (empty_looks : D → ℕ) (words : Words) (forms : List Form) (given : List ℕ) (before after : Operator) (outside opened closed : AtDoors) (ended : Ended D) (options : ServeOptions) → AreOptions words options
    → opened.looks ≡ outside.looks → outside.faults ≤ opened.faults
    → IsSomeAnd ended.grid (λ held. HasServed empty_looks options forms given before after opened closed ended.status held.0 held.1 ended.journal ended.closed)
    → HasEnded empty_looks words forms given before after outside closed ended
has_ended empty_looks words forms given before after outside opened closed ended options read looks faults served = record { served = from ended.grid served; not_begun = begun ended.grid served }
  where
    from : (grid : Option (LiveGrid × GridPass)) → IsSomeAnd grid (λ held. HasServed empty_looks options forms given before after opened closed ended.status held.0 held.1 ended.journal ended.closed)
        → IfSome grid (λ held. HasServedFrom empty_looks words forms given before after outside closed ended.status held.0 held.1 ended.journal ended.closed)
    from None none = absurd none
    from (Some held) has = record {
      options = options;
      read = read;
      served = served_since empty_looks options forms given before after outside opened closed ended.status held.0 held.1 ended.journal ended.closed looks faults has;
    }

    begun : (grid : Option (LiveGrid × GridPass)) → IsSomeAnd grid (λ held. HasServed empty_looks options forms given before after opened closed ended.status held.0 held.1 ended.journal ended.closed)
        → IfNone grid (IsNotBegun words ended.status before after outside closed)
    begun None none = absurd none
    begun (Some held) has = tt
