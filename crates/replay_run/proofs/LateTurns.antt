-- The plain call of a waiter that has left, as the code makes it.
use Rattle.std.proofs.Common.{◌≡◌, ℕ, ◌+◌, ◌-◌, ◌<◌, ◌^◌, true, false, List, [], ◌∷◌, ◌++◌, length, get_or, map, Some, Option, slice_get, refl, ap, sym, ◌∙◌, subst, arith}
use Rattle.std.specs.Option.{option_map}
use Rattle.grid_base.specs.declared.calls.Request.{Request}
use Rattle.grid_base.specs.declared.refusal.PartitionRefused.{PartitionRefused}
use Rattle.grid_base.specs.declared.refusal.PartitionRefused.TheVariants.{PartitionLost, WrongTarget, Migrating}
use Rattle.partition_protocol.specs.Arrivals.{NamedOnce, arrivals, name}
use Rattle.partition_protocol.specs.Events.{Event}
use Rattle.partition_protocol.specs.World.{World}
use Rattle.partition_protocol.proofs.Lists.{in_contains}
use Rattle.call_engine.specs.Calls.{Settings}
use Rattle.call_engine.specs.Env.{settings_of}
use Rattle.call_engine.specs.Limits.{RequestFits}
use Rattle.call_engine.specs.Objects.{partition_object}
use Rattle.partition_world.specs.Recorders.{KeepsAll}
use Rattle.partition_world.specs.Worlds.{steps_of, run_of, waiting}
use Rattle.replica_node.specs.Calls.{refused_as}
use Rattle.wait_sets.specs.declared.spot.Spot.{Spot}
use Rattle.wait_sets.specs.declared.turn.Turn.TheVariants.{Call, Refusal, Silence}
use Rattle.replay_run.specs.declared.grid.Grid.{Grid}
use Rattle.replay_run.specs.declared.tally.Reception.{Reception}
use Rattle.replay_run.specs.declared.tally.Reception.TheVariants.{Refused as WasRefused}
use Rattle.replay_run.specs.Runs.{Run, Waiter, partitions, events_at, moment_of, world_at, version_known, listening, call_of, is_full, refused_at, without, ending}
use Rattle.replay_run.specs.Shelves.{grid_meaning}
use Rattle.replay_run.specs.Tables.{Table, opened_at}
use Rattle.replay_run.specs.Tallies.{received, tallied_later}
use Rattle.replay_run.specs.Grids.{FormOf, GridWorld, StandsForEvents, IsWorld, Holds}
use Rattle.replay_run.specs.WorldCalls.{GivesUpSo, HasRoomAt, IsAppended, arrival_to, going_out}
use Rattle.replay_run.specs.WaiterCalls.{handled_count, SameCounts, HasServed, MayLeave, by_leaving}
use Rattle.replay_run.proofs.Arriving.{without_ok, comes_later}
use Rattle.replay_run.proofs.Asking.{world_within, world_there, world_is, moment_within, moment_there, named_late, told_of}
use Rattle.replay_run.proofs.EventRuns.{fewer}
use Rattle.replay_run.proofs.GivingOut.{HasGivenOut}
use Rattle.replay_run.proofs.GridCalls.{IsAfter, HasMade, call_said}
use Rattle.replay_run.proofs.LateCalls.{late_run, late_holds, late_apart, late_table, late_tally, late_few, late_made, late_full, late_left, late_refused}
use Rattle.replay_run.proofs.MadeCalls.{Became, came_so, made_grid}
use Rattle.replay_run.proofs.RunsOfLines.{run_ok}
use Rattle.replay_run.proofs.Serving.{counts_answers}
use Rattle.replay_run.specs.LineTold.{all_told}
use Rattle.line_told.specs.declared.told.Told.{Told}

-- the waiter by the request and the member that the code has
abbrev pub as_coded : Waiter → ℕ → Request → Waiter
as_coded w member request = record { line = w.line; member = member; request = request; deadline = w.deadline }

module _ {V : Type 0} {T : V → Type 0} {form : FormOf V T} {settings : Settings} (grid : Grid V T) (r : Run) (own : Option ℕ) (at : Spot) (request : Request) (w : Waiter) (may : MayLeave form settings grid r at own (Call request) w) where
  -- which is the waiter
  pub coded_same : as_coded w at.member request ≡ w
  coded_same = λ i. record { line = w.line; member = sym may.member i; request = may.turns.0 i; deadline = w.deadline }

  pub coded_may : MayLeave form settings grid r at own (Call request) (as_coded w at.member request)
  coded_may = subst (λ x. MayLeave form settings grid r at own (Call request) x) (sym coded_same) may

  abbrev its : Waiter
  its = as_coded w at.member request

  -- its partition is one of the grid's
  pub coded_low : request.partition < partitions
  coded_low = subst (λ n. n < partitions) (sym coded_may.partition) coded_may.low

  -- what the grid has once it waits no more
  abbrev pub coded_run : Run
  coded_run = late_run grid r (as_coded w at.member request) coded_may.run coded_may.there coded_may.holds

  pub coded_holds : Holds form settings grid (late_run grid r (as_coded w at.member request) coded_may.run coded_may.there coded_may.holds)
  coded_holds = late_holds grid r (as_coded w at.member request) coded_may.run coded_may.there coded_may.holds

  -- its partition's world, where the code reads it
  module _ (i : ℕ) (same : i ≡ at.partition) where
    pub coded_place : i ≡ request.partition
    coded_place = same ∙ sym coded_may.partition

    pub late_within : i < length grid.worlds.items
    late_within = world_within grid coded_run coded_holds request.partition i coded_low coded_place

    module _ (world : GridWorld) (read : world ≡ get_or grid.worlds.items i world) where
      pub late_there : slice_get grid.worlds.items request.partition ≡ Some world
      late_there = world_there grid coded_run coded_holds request.partition i coded_low coded_place world read

      pub late_world : IsWorld settings world r request.partition
      late_world =
          let is = world_is grid coded_run coded_holds request.partition i coded_low coded_place world read in
          record { stands = is.stands; setup = is.setup }

      -- it has room for one event more
      pub late_room : HasRoomAt r at.partition 0 → steps_of world + 1 < 2 ^ 32 - 1
      late_room room =
          let here = subst (λ q. HasRoomAt r q 0) (sym coded_may.partition) room in
          let steps = late_world.stands.steps in
          let waits = fewer (as_coded w at.member request) r.waiters (in_contains (as_coded w at.member request) r.waiters coded_may.there) in
          omega (arith, here, steps, waits)

      -- What the code tells of it is so.
      pub late_told : {X : Type 0} (tells : World Request → X) (told : X) → ((events : List (Event Request)) → StandsForEvents (settings_of form grid.env) world events → told ≡ tells (run_of (grid_meaning (settings_of form grid.env)) world events))
          → told ≡ tells (world_at (partition_object settings) r request.partition)
      late_told tells told by = told_of form grid coded_run coded_holds request.partition i coded_low coded_place world read tells told by

  -- the clock of its member
  module _ (i : ℕ) (same : i ≡ at.member) where
    coded_member : at.member < grid.members
    coded_member = subst (λ n. at.member < n) (sym coded_may.holds.members) coded_may.within

    pub late_clock : i < length grid.moments.items
    late_clock = moment_within grid coded_run coded_holds at.member i coded_member same

    module _ (now : ℕ) (read : now ≡ get_or grid.moments.items i now) where
      pub late_moment : now ≡ moment_of r at.member
      late_moment = moment_there grid coded_run coded_holds at.member i coded_member same now read

      -- It has a name of its own.
      pub late_named : NamedOnce (map name (arrivals (events_at request.partition r.events ++ call_of (arrival_to grid.lines at.member now request) ∷ [])))
      late_named = named_late settings r coded_may.run (as_coded w at.member request) coded_may.there grid.lines now coded_may.holds.lines late_moment

  -- Its partition isn't full, and it reached its world, which then gave out all that waited there.
  module _ (new : Grid V T) (old called world : GridWorld) (there : slice_get grid.worlds.items request.partition ≡ Some old) (line now known : ℕ) (at_line : line ≡ r.lines) (at_moment : now ≡ moment_of r at.member)
      (knew : known ≡ version_known (world_at (partition_object settings) r request.partition) at.member) (reception : Reception) (added earlier mid later : List Told)
      (after : IsAfter grid new line request.partition grid.connections world (going_out r own (waiting called at.member))) (counted : new.tally ≡ tallied_later reception grid.tally)
      (out : HasGivenOut settings called world at.member) (began : mid ≡ earlier ++ added)
      (wrote : (events : List (Event Request)) → IsAppended (grid_meaning settings) KeepsAll RequestFits called events (record { line = line; partition = at.partition; member = at.member; known = known; own = own }) r (listening r own at.member) mid later)
      (did : Became settings old called (events_at request.partition r.events) (arrival_to line at.member now request) added reception) where
    made_late : HasMade form settings new (without r its) own (ending r its) earlier later
    made_late =
        let m = coded_may in
        let o = partition_object settings in
        let ok = run_ok m.run in
        let i = in_contains its r.waiters m.there in
        made_grid grid (without r its) (without_ok o r its ok) (late_apart grid r its m.run m.there m.holds) own (ending r its) (comes_later o r its ok i)
        (record { size = m.listeners.size; each = m.listeners.each }) coded_low grid.connections (late_table grid r its m.run m.there m.holds) new old called world there known knew reception added earlier later
        (subst (λ l. IsAfter grid new l request.partition grid.connections world (going_out r own (waiting called at.member))) at_line after) out
        (call_said settings called (without r its) own (ending r its) line known (sym at_line) earlier added mid later began
        (λ events. subst (λ q. IsAppended (grid_meaning settings) KeepsAll RequestFits called events (record { line = line; partition = q; member = at.member; known = known; own = own }) r (listening r own at.member) mid later) (sym m.partition) (wrote events)))
        (late_tally grid r its m.run m.there m.holds new.tally reception counted) m.holds.tally.refused m.holds.tally.memory
        (came_so settings (ending r its) line at.member now request at_line refl at_moment refl old called (events_at request.partition r.events) added reception did)

    -- No message was handled anew.
    same_counts : SameCounts grid.connections new.connections
    same_counts c = ap (λ (t : Table). option_map handled_count (opened_at t c)) after.answered ∙ counts_answers line (going_out r own (waiting called at.member)) grid.connections c

    pub late_grid : is_full (world_at (partition_object settings) r request.partition) ≡ false → HasServed form settings grid new r own (by_leaving settings r own w) earlier later
    late_grid goes =
        let m = coded_may in
        subst (λ v. HasServed form settings grid new r own (by_leaving settings r own v) earlier later) coded_same
        (late_made grid r its m.run m.there m.holds own new earlier later m.turns.1 goes same_counts made_late)

  -- or it meets its partition full
  pub late_met : is_full (world_at (partition_object settings) r request.partition) ≡ true → GivesUpSo r (by_leaving settings r own w)
  late_met full =
      let m = coded_may in
      subst (λ v. GivesUpSo r (by_leaving settings r own v)) coded_same (late_full grid r its m.run m.there m.holds own m.turns.1 full)

-- It is refused, or leaves without an answer.

tells_refusal : (line : ℕ) (request : Request) (why : PartitionRefused) → WasRefused ≡ received (refused_at line request (refused_as why))
tells_refusal line request (PartitionLost version) = refl
tells_refusal line request (WrongTarget version) = refl
tells_refusal line request (Migrating version) = refl

module _ {V : Type 0} {T : V → Type 0} {form : FormOf V T} {settings : Settings} (grid : Grid V T) (r : Run) (own : Option ℕ) (at : Spot) (request : Request) (w : Waiter) where
  pub refusal_served : (why : PartitionRefused) → MayLeave form settings grid r at own (Refusal request why) w → (new : Grid V T) (earlier later : List Told) → new ≡ record grid { tally = tallied_later WasRefused grid.tally }
      → later ≡ earlier ++ all_told (refused_at grid.lines request (refused_as why)) → HasServed form settings grid new r own (by_leaving settings r own w) earlier later
  refusal_served why may new earlier later made is =
      late_refused grid r w may.run may.there may.holds (refused_as why) WasRefused (tells_refusal r.lines w.request why) new (tallied_later WasRefused grid.tally) made refl own earlier later may.listeners may.turns.1
      (is ∙ (λ i. earlier ++ all_told (refused_at (may.holds.lines i) (may.turns.0 i) (refused_as why))))

  pub silence_served : MayLeave form settings grid r at own (Silence request) w → (later : List Told) → HasServed form settings grid grid r own (by_leaving settings r own w) later later
  silence_served may later = late_left grid r w may.run may.there may.holds own later may.listeners may.turns.1

  -- More calls came than were refused.
  pub refusal_few : (why : PartitionRefused) → MayLeave form settings grid r at own (Refusal request why) w → (grid.tally.refused < grid.tally.arrived) × (grid.tally.memory < grid.tally.arrived)
  refusal_few why may = late_few grid r w may.run may.there may.holds
