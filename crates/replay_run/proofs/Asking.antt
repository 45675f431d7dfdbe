-- The world of a call's partition, where the code reads it.
use Rattle.std.proofs.Common.{◌≡◌, ℕ, ◌+◌, ◌-◌, ◌*◌, ◌<◌, ◌^◌, true, List, [], ◌∷◌, length, get_or, map, Result, Err, None, Some, Contains, inl, inr, slice_get, refl, ap, sym, subst, ◌∙◌, ◌++◌, ◌⊎◌, arith}
use Rattle.std.specs.Result.{IsErrAnd}
use Rattle.std.specs.Prelude.{Option, unwrap_or}
use Rattle.std.proofs.lemmas.Bool.{eq-eqb}
use Rattle.std.proofs.lemmas.Option.{slice_get_within, slice_get-get_or}
use Rattle.grid_base.specs.Objects.{Object}
use Rattle.grid_base.specs.declared.calls.Request.{Request}
use Rattle.partition_protocol.specs.Events.{Event}
use Rattle.partition_protocol.specs.World.{World, trail}
use Rattle.partition_protocol.specs.Arrivals.{NamedOnce, arrivals, name}
use Rattle.call_engine.specs.declared.env.GridEnv.{GridEnv}
use Rattle.call_engine.specs.Calls.{Settings}
use Rattle.call_engine.specs.Env.{settings_of}
use Rattle.call_engine.specs.Limits.{RequestFits}
use Rattle.call_engine.specs.Objects.{partition_object}
use Rattle.object_store.specs.Partitions.{Partition}
use Rattle.partition_world.specs.declared.entry.Entry.{Entry}
use Rattle.partition_world.specs.RecordedEntries.{entry_of}
use Rattle.table_service.specs.Services.{Setup}
use Rattle.partition_world.specs.Worlds.{steps_of, run_of, setup_of, node_count, Comes}
use Rattle.partition_world.proofs.Places.{read_there}
use Rattle.line_told.specs.declared.told.Told.{Told}
use Rattle.replay_run.specs.declared.grid.Grid.{Grid}
use Rattle.replay_run.specs.Runs.{Run, Arrival, events_at, moment_of, world_at, call_of, Appended, Waiter, arrival_at, without, ending, arrived, happening, partitions}
use Rattle.replay_run.specs.Rebalancing.{most_line_events}
use Rattle.replay_run.specs.Shelves.{grid_meaning}
use Rattle.replay_run.specs.Grids.{FormOf, GridWorld, StandsForEvents, IsWorld, Holds, Stands, AreFew}
use Rattle.replay_run.specs.ScriptRuns.{IsRun, IsNext, call_asked, waiter_asked}
use Rattle.replay_run.specs.WorldCalls.{IsCalledSo, IsSkippedSo, arrival_to}
use Rattle.replay_run.specs.declared.tally.Reception.{Reception}
use Rattle.replay_run.proofs.Arriving.{its_event, maybe_one, events_of_more}
use Rattle.replay_run.proofs.RunFacts.{is_of, named}
use Rattle.replay_run.proofs.RunsOfLines.{run_ok}
use Rattle.replay_run.proofs.HistoryTexts.{indexed_world}
use Rattle.replay_run.proofs.WorldRuns.{run_is}
use Rattle.partition_world.specs.Recorders.{KeepsAll}

-- a failure that is handed on
pub handed_on : {T E : Type 0} (r : Result T E) (e why : E) → IsErrAnd r (λ y. y ≡ e) → r ≡ Err why → e ≡ why
handed_on r e why ensured is = sym (subst (λ x. IsErrAnd x (λ y. y ≡ e)) is ensured)

-- what a call did, in an environment that makes these settings
abbrev pub Did : Settings → GridWorld → GridWorld → List (Event Request) → Arrival → List Told → List Told → Reception → Type 0
Did settings old new events a before after reception = (told : List Told) × (after ≡ before ++ told) × (IsCalledSo settings old new events a told reception ⊎ IsSkippedSo settings old new events a told reception)

pub did_by : {V : Type 0} {T : V → Type 0} (form : FormOf V T) (env : GridEnv V T) (settings : Settings) → settings_of form env ≡ settings → (old new : GridWorld) (events : List (Event Request)) (a : Arrival) (before after : List Told) (reception : Reception)
    → (StandsForEvents (settings_of form env) old events → NamedOnce (map name (arrivals (events ++ call_of a ∷ []))) → Did (settings_of form env) old new events a before after reception)
    → StandsForEvents settings old events → NamedOnce (map name (arrivals (events ++ call_of a ∷ []))) → Did settings old new events a before after reception
did_by form env settings goes_by old new events a before after reception = subst (λ s. StandsForEvents s old events → NamedOnce (map name (arrivals (events ++ call_of a ∷ []))) → Did s old new events a before after reception) goes_by

pub stands_by : {V : Type 0} {T : V → Type 0} (form : FormOf V T) (env : GridEnv V T) (settings : Settings) → settings_of form env ≡ settings → (world : GridWorld) (events : List (Event Request))
    → StandsForEvents settings world events → StandsForEvents (settings_of form env) world events
stands_by form env settings goes_by world events = subst (λ s. StandsForEvents s world events) (sym goes_by)

module _ {V : Type 0} {T : V → Type 0} {form : FormOf V T} {settings : Settings} (grid : Grid V T) (r : Run) (h : Holds form settings grid r) (p i : ℕ) (low : p < partitions) (same : i ≡ p) where
  -- it is there
  pub world_within : i < length grid.worlds.items
  world_within = let within = slice_get_within grid.worlds.items p (h.worlds p low).world (h.worlds p low).there in omega (arith, within, same)

  module _ (world : GridWorld) (read : world ≡ get_or grid.worlds.items i world) where
    pub world_there : slice_get grid.worlds.items p ≡ Some world
    world_there = (h.worlds p low).there ∙ ap Some (sym (read_there grid.worlds.items p i (h.worlds p low).world world same (h.worlds p low).there read))

    pub world_is : IsWorld settings world r p
    world_is = indexed_world grid.worlds.items r p i world (h.worlds p low) same read

    -- it has room for one event more
    pub world_room : length r.arrivals + length r.waiters + most_line_events * r.lines + 1 < 2 ^ 32 - 1 → AreFew r → steps_of world + 1 < 2 ^ 32 - 1
    world_room room few = let own = few p in omega (arith, room, world_is.stands.steps, own)

-- a node of each member

pub nodes_by : (settings : Settings) (world : GridWorld) (events : List (Event Request)) → StandsForEvents settings world events → node_count world ≡ (setup_of world).members
nodes_by settings world events stands = stands.agrees.size ∙ sym (ap (λ (x : Setup). x.members) stands.agrees.setup)

pub nodes_of : (settings : Settings) (world : GridWorld) (r : Run) (p : ℕ) → IsWorld settings world r p → node_count world ≡ r.members
nodes_of settings world r p is = nodes_by settings world (events_at p r.events) is.stands ∙ ap (λ (x : Setup). x.members) is.setup

-- also once it ran the call, or skipped it
pub nodes_did : (settings : Settings) (old new : GridWorld) (events : List (Event Request)) (a : Arrival) (before after : List Told) (reception : Reception) → Did settings old new events a before after reception → node_count new ≡ (setup_of old).members
nodes_did settings old new events a before after reception (told, is, inl did) = nodes_by settings new (events ++ call_of a ∷ []) did.called.stands ∙ ap (λ (x : Setup). x.members) did.called.setup
nodes_did settings old new events a before after reception (told, is, inr did) = nodes_by settings new events did.skipped.stands ∙ ap (λ (x : Setup). x.members) did.skipped.setup

-- the clock of a member, where the code reads it
module _ {V : Type 0} {T : V → Type 0} {form : FormOf V T} {settings : Settings} (grid : Grid V T) (r : Run) (h : Holds form settings grid r) (member i : ℕ) (within : member < grid.members) (same : i ≡ member) where
  pub moment_within : i < length grid.moments.items
  moment_within =
      let clocks = ap length h.moments ∙ h.clocks in
      let members = h.members in
      omega (arith, within, same, clocks, members)

  pub moment_there : (now : ℕ) → now ≡ get_or grid.moments.items i now → now ≡ moment_of r member
  moment_there now read =
      let there = ap (λ ms. slice_get ms member) (sym h.moments) ∙ ap (slice_get grid.moments.items) (sym same) ∙ slice_get-get_or grid.moments.items i now moment_within ∙ ap Some (sym read) in
      sym (ap (λ (o : Option ℕ). unwrap_or o 0) there)

-- The call that comes has a name of its own, where a run has its event next.
named_event : (settings : Settings) (r : Run) (a : Arrival) (appended : List Appended) → IsRun (partition_object settings) (arrived r a (its_event a ∷ []) appended)
    → NamedOnce (map name (arrivals (events_at a.request.partition r.events ++ call_of a ∷ [])))
named_event settings r a appended run = subst (λ es. NamedOnce (map name (arrivals es))) its (named o then (run_ok run).members (run_ok run).of_arrivals a.request.partition)
  where
    o : Object Request Partition
    o = partition_object settings

    then : Run
    then = arrived r a (its_event a ∷ []) appended

    its : events_at a.request.partition then.events ≡ events_at a.request.partition r.events ++ call_of a ∷ []
    its =
        let here : is_of a.request.partition a ≡ true = eq-eqb a.request.partition a.request.partition refl in
        events_of_more a.request.partition r.events a ∙ ap (λ b. events_at a.request.partition r.events ++ maybe_one b (call_of a)) here

-- as the code has it, of one that arrives
pub named_next : (settings : Settings) (r : Run) → IsRun (partition_object settings) r → (member line now : ℕ) (request : Request) → IsNext r request → line ≡ r.lines → now ≡ moment_of r member
    → NamedOnce (map name (arrivals (events_at request.partition r.events ++ call_of (arrival_to line member now request) ∷ [])))
named_next settings r run member line now request next at_line at_moment =
    let a = arrival_at r member request in
    let e : call_of (arrival_to line member now request) ≡ call_of a = λ i. call_of (arrival_to (at_line i) member (at_moment i) request) in
    subst (λ x. NamedOnce (map name (arrivals (events_at request.partition r.events ++ x ∷ [])))) (sym e)
    (named_event settings r a (happening (partition_object settings) r None a) (call_asked [] r None member request run next))

-- and of one that waited
pub named_late : (settings : Settings) (r : Run) → IsRun (partition_object settings) r → (w : Waiter) → Contains r.waiters w → (line now : ℕ) → line ≡ r.lines → now ≡ moment_of r w.member
    → NamedOnce (map name (arrivals (events_at w.request.partition r.events ++ call_of (arrival_to line w.member now w.request) ∷ [])))
named_late settings r run w there line now at_line at_moment =
    let a = ending r w in
    let e : call_of (arrival_to line w.member now w.request) ≡ call_of a = λ i. call_of (arrival_to (at_line i) w.member (at_moment i) w.request) in
    subst (λ x. NamedOnce (map name (arrivals (events_at w.request.partition r.events ++ x ∷ [])))) (sym e)
    (named_event settings (without r w) a (happening (partition_object settings) (without r w) None a) (waiter_asked [] r None w run there))

-- It may come next in its partition's world.
pub call_comes : (settings : Settings) (world : GridWorld) (events : List (Event Request)) (a : Arrival) → StandsForEvents settings world events → steps_of world + 1 < 2 ^ 32 - 1
    → RequestFits a.request → NamedOnce (map name (arrivals (events ++ call_of a ∷ []))) → Comes (grid_meaning settings) KeepsAll RequestFits world events (call_of a)
call_comes settings world events a stands room fits once = record {
  stands = stands;
  may = record { room = (let steps = stands.steps in omega (arith, room, steps)); within = fits; once = once };
}

-- What the code tells of a partition's world is so in the run.
pub told_of : {X V : Type 0} {T : V → Type 0} {settings : Settings} (form : FormOf V T) (grid : Grid V T) (r : Run) → Holds form settings grid r → (p i : ℕ) → p < partitions → i ≡ p → (world : GridWorld) → world ≡ get_or grid.worlds.items i world
    → (tells : World Request → X) (told : X) → ((events : List (Event Request)) → StandsForEvents (settings_of form grid.env) world events → told ≡ tells (run_of (grid_meaning (settings_of form grid.env)) world events))
    → told ≡ tells (world_at (partition_object settings) r p)
told_of form grid r h p i low same world read tells told by =
    let is = world_is grid r h p i low same world read in
    subst (λ x. StandsForEvents x world (events_at p r.events) → told ≡ tells (run_of (grid_meaning x) world (events_at p r.events))) h.goes_by (by (events_at p r.events)) is.stands
    ∙ ap tells (run_is world r p is)

-- the history that it tells
pub told_history : {V : Type 0} {T : V → Type 0} {settings : Settings} (form : FormOf V T) (grid : Grid V T) (r : Run) → Stands form settings grid r → (p i : ℕ) → p < partitions → i ≡ p → (world : GridWorld) → world ≡ get_or grid.worlds.items i world
    → (entries : List (Entry Request)) → ((events : List (Event Request)) → StandsForEvents (settings_of form grid.env) world events → map entry_of entries ≡ trail (run_of (grid_meaning (settings_of form grid.env)) world events))
    → map entry_of entries ≡ trail (world_at (partition_object settings) r p)
told_history form grid r s p i low same world read entries = told_of form grid r s.holds p i low same world read trail (map entry_of entries)
