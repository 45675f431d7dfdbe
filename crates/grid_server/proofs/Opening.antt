-- That a server which was just opened may serve.
use Rattle.std.proofs.Common.{◌≡◌, ℕ, ◌+◌, ◌*◌, ◌≤◌, List, map, length, Option, Some, IsSomeAnd, slice_get, ◌<◌, sym, ap, ◌∙◌, subst, arith}
use Rattle.grid_base.specs.declared.TheConstants.{PARTITIONS}
use Rattle.grid_base.specs.declared.calls.Request.{Request}
use Rattle.call_engine.specs.Limits.{RequestFits}
use Rattle.grid_edge.specs.Doors.{Book, IsOpenTo}
use Rattle.grid_edge.specs.declared.doors.Opening.{Opening}
use Rattle.partition_world.specs.declared.event.Event.{Event}
use Rattle.partition_world.specs.declared.event.Happened.{Happened}
use Rattle.live_grid.specs.declared.grid.LiveGrid.{LiveGrid}
use Rattle.live_grid.specs.declared.plan.GridPlan.{GridPlan}
use Rattle.live_grid.specs.declared.world.LiveWorld.{LiveWorld}
use Rattle.live_grid.specs.Grids.{place_of}
use Rattle.live_grid.specs.Histories.{live_key}
use Rattle.live_session.specs.Connections.{ServesCalls, AreBelow}
use Rattle.live_server.specs.declared.connections.Connections.{Connections}
use Rattle.live_server.specs.Standing.{MayServe}
use Rattle.serve_options.specs.declared.options.ServeOptions.{ServeOptions}
use Rattle.grid_server.specs.Serving.{IsOpened}
use Rattle.entry_processors.specs.declared.form.Form.{Form}
use Rattle.hand_cell.specs.Told.{Told}
use Rattle.live_grid.specs.declared.grid.GridPass.{GridPass}
use Rattle.live_control.specs.Running.{MayServe as MayControl}
use Rattle.grid_server.specs.declared.setting.Setting.{Setting}
use Rattle.grid_server.specs.Settings.{IsUnused, IsSetting}
use Rattle.grid_server.specs.Tasks.{MayMeet}

-- each request that fits frames is one that the grid's shelves take
pub serves_calls : (grid : LiveGrid) → length (place_of grid).cells.items ≡ PARTITIONS → ServesCalls RequestFits (place_of grid)
serves_calls grid count = record { cells = count; requests = λ request fits numbers. (fits, numbers) }

module _ {F K : Type 0} (options : ServeOptions) (grid : LiveGrid) (connections : Connections LiveWorld F K GridPlan (Event Request) Happened) (book : Book) (unused : IsUnused grid options.members connections) (opened : IsOpened options book) where
  -- the doors stand open for the grid's members alone
  below : (member : ℕ) → IsOpenTo book member → member < options.members
  below member open_to = subst (λ (opening : Option Opening). IsSomeAnd opening (λ o. member < o.members)) opened.opening open_to

  enough : (member : ℕ) → IsOpenTo book member → 4 * member + 4 ≤ length connections.tokens.items
  enough member open_to = let less = below member open_to in let workers = unused.workers in omega (arith, less, workers)

  pub may_serve : MayServe live_key (place_of grid) connections book
  may_serve = record {
    none_came = unused.none_came;
    none_accepted = opened.none_accepted;
    none_returned = opened.none_returned;
    no_clients = unused.no_clients;
    room = unused.room;
    passes = unused.of_grid.cells;
    named = unused.named;
    unseen = λ number partition pass e. subst (λ (seen : List (Event Request)). AreBelow live_key number 0 seen) (sym (unused.unseen partition pass e)) tt;
    tokens = unused.of_grid.workers;
    members = enough;
  }

module _ {F K : Type 0} (options : ServeOptions) (forms : List Form) (setting : Setting F K) (is : IsSetting options forms setting) where
  -- the operator's pass of the setting, by its passes
  pub may_control_by : (pass : GridPass) → pass.passes.items ≡ setting.pass.passes.items → MayControl setting.grid pass
  may_control_by pass same = record {
    of_grid = record { as_many = is.may_control.of_grid.as_many; tables = ap (map (λ (p : Told (Event Request)). p.table)) same ∙ is.may_control.of_grid.tables };
    control = λ partition p e. is.may_control.control partition p (subst (λ (ps : List (Told (Event Request))). slice_get ps partition ≡ Some p) same e);
  }

-- What may be served from the beginning, on a stage with this grid and these options, and a pass that has the operator's passes
module _ {F K : Type 0} (options : ServeOptions) (forms : List Form) (setting : Setting F K) (book : Book) (some : 1 ≤ options.members) (most : options.members ≤ 8) (is : IsSetting options forms setting) (opened : IsOpened options book) where
  pub may_meet : (o : ServeOptions) (grid : LiveGrid) (pass : GridPass) → o ≡ options → grid ≡ setting.grid → pass.passes.items ≡ setting.pass.passes.items → MayMeet o grid book setting.connections pass
  may_meet o grid pass same_options same_grid same_passes =
      subst (λ (o : ServeOptions). MayMeet o grid book setting.connections pass) (sym same_options)
      (subst (λ (grid : LiveGrid). MayMeet options grid book setting.connections pass) (sym same_grid)
      (record {
        some = some;
        most = most;
        may_control = may_control_by options forms setting is pass same_passes;
        calls = serves_calls setting.grid is.may_control.of_grid.as_many;
        may = may_serve options setting.grid setting.connections book is.connections opened;
      }))
