-- The first member of the newest row, and what it has.
use Rattle.std.proofs.Common.{◌≡◌, ℕ, zero, ◌<◌, List, [], ◌∷◌, map, All, Option, Some, None, Result, IfOk, vec_len, sym, ap, ◌∙◌, subst, arith}
use Rattle.std.specs.Option.{option_map, option_and_then}
use Rattle.grid_base.specs.declared.names.ObjectKey.{ObjectKey}
use Rattle.grid_base.specs.declared.calls.Request.{Request}
use Rattle.object_store.specs.Partitions.{Partition, record_at}
use Rattle.call_engine.specs.Objects.{partition_object}
use Rattle.partition_table.specs.declared.Row.{Row}
use Rattle.partition_table.specs.declared.RowMember.{RowMember}
use Rattle.partition_table.specs.Rows.{first_of}
use Rattle.partition_protocol.specs.World.{World as Machine}
use Rattle.partition_protocol.proofs.WellFormed.{every_run_is_well_formed}
use Rattle.partition_world.specs.ContentsOf.{contents_at}
use Rattle.partition_world.specs.declared.event.Event.{Event}
use Rattle.partition_world.specs.Events.{event_of}
use Rattle.partition_world.specs.Worlds.{run_of}
use Rattle.live_grid.specs.declared.copies.Record.{Record as Copy}
use Rattle.live_grid.specs.declared.plan.GridPlan.{GridPlan}
use Rattle.live_grid.specs.Plans.{settings_for}
use Rattle.live_grid.specs.Histories.{cells}
use Rattle.live_grid.specs.Lives.{GridWorld, IsWorldOf, grid_meaning}
use Rattle.live_grid.specs.Stored.{record_of, something_of, stored_at, stored_in}
use Rattle.live_grid.proofs.Standing.{machine_is}

first_is_below : (n : ℕ) (rs : List RowMember) (first : ℕ) → All (λ (r : RowMember). r.member < n) rs → Some first ≡ first_of rs → first < n
first_is_below n [] first all is = absurd cc
first_is_below n (r ∷ rs) first all is = let same : first ≡ r.member = cc in let less : r.member < n = all zero r (omega arith) in omega (arith, same, less)

module _ (plan : GridPlan) (history : List (Event Request)) (world : GridWorld) (is : IsWorldOf world plan history) where
  abbrev machine : Machine Request
  machine = run_of (grid_meaning (settings_for plan)) world (map event_of history)

  same_machine : machine ≡ cells plan history
  same_machine = machine_is plan world history is

  -- it has a node
  pub first_has_node : (row : Row) → row ≡ machine.service.row → (first : ℕ) → Some first ≡ first_of row.members → first < vec_len world.nodes
  first_has_node row same first at =
      let formed = every_run_is_well_formed (partition_object (settings_for plan)) plan.partition plan.members plan.backups (map event_of history) in
      let size : vec_len world.nodes ≡ plan.members = is.stands.agrees.size ∙ (ap (λ (w : Machine Request). w.members) same_machine ∙ formed.same_members) in
      let below : first < plan.members = first_is_below plan.members (cells plan history).service.row.members first formed.row.below (at ∙ (ap (λ (r : Row). first_of r.members) same ∙ ap (λ (w : Machine Request). first_of w.service.row.members) same_machine)) in
      subst (λ n. first < n) (sym size) below

  module _ (row : Row) (same : row ≡ machine.service.row) (name : ObjectKey) where
    first_there : (first : Option ℕ) → first ≡ first_of row.members → first ≡ first_of (cells plan history).service.row.members
    first_there first at = at ∙ (ap (λ (r : Row). first_of r.members) same ∙ ap (λ (w : Machine Request). first_of w.service.row.members) same_machine)

    -- what is told of its contents is what is stored
    pub stored_told : {Error : Type 0} (first : ℕ) → Some first ≡ first_of row.members → (state : Partition) → state ≡ contents_at (partition_object (settings_for plan)) machine first
        → (found : Result (Option Copy) Error) → IfOk found (λ copy. option_map record_of copy ≡ something_of (record_at state name)) → IfOk found (λ copy. option_map record_of copy ≡ stored_in plan history name)
    stored_told {Error} first at state has found told =
        let here : something_of (record_at state name) ≡ stored_in plan history name =
        ap (λ s. something_of (record_at s name)) (has ∙ ap (λ (w : Machine Request). contents_at (partition_object (settings_for plan)) w first) same_machine)
        ∙ ap (option_and_then (stored_at plan history name)) (first_there (Some first) at) in
        subst (λ v. IfOk found (λ (copy : Option Copy). option_map record_of copy ≡ v)) here told

    -- a row without members has nothing
    pub nothing_stored_there : None ≡ first_of row.members → None ≡ stored_in plan history name
    nothing_stored_there none = ap (option_and_then (stored_at plan history name)) (first_there None none)
