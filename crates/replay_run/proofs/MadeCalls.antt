-- A call, one that arrives or one that waited, as the code has it: its world ran it or it found no memory, and then gave out all that waited.
use Rattle.std.proofs.Common.{◌≡◌, ℕ, ◌<◌, List, [], ◌∷◌, ◌++◌, count_by, Some, Option, slice_get, sym, subst, ◌∙◌, ◌⊎◌, ⊎_elim}
use Rattle.grid_base.specs.declared.calls.Request.{Request}
use Rattle.partition_protocol.specs.Events.{Event}
use Rattle.partition_world.specs.Worlds.{waiting}
use Rattle.call_engine.specs.Calls.{Settings}
use Rattle.call_engine.specs.Objects.{partition_object}
use Rattle.replay_run.specs.declared.grid.Grid.{Grid}
use Rattle.replay_run.specs.declared.tally.Reception.{Reception}
use Rattle.replay_run.specs.Runs.{Run, Arrival, events_at, world_at, version_known, partitions}
use Rattle.replay_run.specs.Counts.{is_refused, is_out_of_memory}
use Rattle.replay_run.specs.Tables.{Table}
use Rattle.replay_run.specs.Grids.{FormOf, GridWorld, HasTable, IsTally, AreListening}
use Rattle.replay_run.specs.WorldCalls.{arrival_to, going_out, IsCalledSo, IsSkippedSo}
use Rattle.replay_run.proofs.Arriving.{MayCome}
use Rattle.replay_run.proofs.GivingOut.{HasGivenOut}
use Rattle.replay_run.proofs.GridCalls.{HoldsApart, HasSaid, IsAfter, HasMade, call_ran, call_skipped}
use Rattle.replay_run.proofs.RunFacts.{RunOk}
use Rattle.replay_run.proofs.Tallies.{HasTallied}
use Rattle.line_told.specs.declared.told.Told.{Told}

-- what became of it, as it came at its moment to its member
abbrev pub Became : Settings → GridWorld → GridWorld → List (Event Request) → Arrival → List Told → Reception → Type 0
Became settings old called events a added reception = IsCalledSo settings old called events a added reception ⊎ IsSkippedSo settings old called events a added reception

-- the same of any arrival that makes that event

ran_as : (settings : Settings) (old called : GridWorld) (events : List (Event Request)) (a : Arrival) (added : List Told) (reception : Reception) → IsCalledSo settings old called events (arrival_to a.made a.member a.now a.request) added reception → IsCalledSo settings old called events a added reception
ran_as settings old called events a added reception d = record { called = record { stands = d.called.stands; setup = d.called.setup; waiting = d.called.waiting; told = d.called.told }; so = d.so }

missed_as : (settings : Settings) (old called : GridWorld) (events : List (Event Request)) (a : Arrival) (added : List Told) (reception : Reception) → IsSkippedSo settings old called events (arrival_to a.made a.member a.now a.request) added reception → IsSkippedSo settings old called events a added reception
missed_as settings old called events a added reception d = record { skipped = record { stands = d.skipped.stands; setup = d.skipped.setup; waiting = d.skipped.waiting; told = d.skipped.told }; so = d.so }

-- as the code has its line, its member and its moment
module _ (settings : Settings) (a : Arrival) (line member now : ℕ) (request : Request) (at_line : line ≡ a.made) (at_member : member ≡ a.member) (at_moment : now ≡ a.now) (its : request ≡ a.request) where
  coded : arrival_to line member now request ≡ arrival_to a.made a.member a.now a.request
  coded = λ i. arrival_to (at_line i) (at_member i) (at_moment i) (its i)

  pub came_so : (old called : GridWorld) (events : List (Event Request)) (added : List Told) (reception : Reception) → Became settings old called events (arrival_to line member now request) added reception → Became settings old called events (arrival_to a.made a.member a.now a.request) added reception
  came_so old called events added reception = subst (λ x. Became settings old called events x added reception) coded

module _ {V : Type 0} {T : V → Type 0} {form : FormOf V T} {settings : Settings} (grid : Grid V T) (r : Run) (ok : RunOk (partition_object settings) r) (h : HoldsApart form settings grid r) (own : Option ℕ) (a : Arrival) (may : MayCome r a)
    (are : AreListening grid.listeners.items r own) (low : a.request.partition < partitions) (table : Table) (come_table : HasTable table (record r { arrivals = r.arrivals ++ a ∷ [] }))
    (new : Grid V T) (old called world : GridWorld) (there : slice_get grid.worlds.items a.request.partition ≡ Some old) (known : ℕ) (knew : known ≡ version_known (world_at (partition_object settings) r a.request.partition) a.member) (reception : Reception) (added earlier later : List Told)
    (after : IsAfter grid new r.lines a.request.partition table world (going_out r own (waiting called a.member)))
    (out : HasGivenOut settings called world a.member)
    (wrote : HasSaid settings called r own a known earlier added later)
    (tally : (next : Run) → next.arrivals ≡ r.arrivals ++ a ∷ [] → next.waiters ≡ r.waiters → HasTallied reception grid.tally next → IsTally new.tally next)
    (rows : grid.tally.refused ≡ count_by (is_refused r) r.arrivals) (shortages : grid.tally.memory ≡ count_by (is_out_of_memory r) r.arrivals) where
  same_world : old ≡ (h.worlds a.request.partition low).world
  same_world =
      let both : Some old ≡ Some (h.worlds a.request.partition low).world = sym there ∙ (h.worlds a.request.partition low).there in
      cc

  -- It was made, or found no memory.
  pub made_grid : Became settings old called (events_at a.request.partition r.events) (arrival_to a.made a.member a.now a.request) added reception → HasMade form settings new r own a earlier later
  made_grid did = ⊎_elim
      (λ d. call_ran grid r ok h own a may are low table come_table new called world known knew reception added earlier later after out wrote tally rows shortages
      (subst (λ w. IsCalledSo settings w called (events_at a.request.partition r.events) a added reception) same_world (ran_as settings old called (events_at a.request.partition r.events) a added reception d)))
      (λ d. call_skipped grid r ok h own a may are low table come_table new called world known knew reception added earlier later after out wrote tally rows shortages
      (subst (λ w. IsSkippedSo settings w called (events_at a.request.partition r.events) a added reception) same_world (missed_as settings old called (events_at a.request.partition r.events) a added reception d)))
      did
