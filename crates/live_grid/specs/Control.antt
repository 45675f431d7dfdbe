-- An operator's event in a partition, and in all of them.
use Rattle.std.specs.Prelude.{◌≡◌, ℕ, ◌<◌, ◌≤◌, Bool, true, false, if◌then◌else◌, List, [], ◌∷◌, ◌++◌, map, length, Result, Ok, Err, Some, slice_get, slice_set}
use Rattle.std.specs.List.{list_all, filter}
use Rattle.grid_base.specs.declared.TheConstants.{PARTITIONS}
use Rattle.grid_base.specs.declared.calls.Request.{Request}
use Rattle.hand_cell.specs.declared.names.Key.{Key}
use Rattle.hand_cell.specs.declared.names.Key.TheVariants.{Control}
use Rattle.hand_cell.specs.declared.stands.RunRefused.{RunRefused}
use Rattle.hand_cell.specs.declared.stands.RunRefused.TheVariants.{Memory as NoMemory, Exhausted}
use Rattle.hand_cell.specs.Names.{has, NoneOf}
use Rattle.hand_cell.specs.Ready.{most_events}
use Rattle.hand_cell.specs.Told.{Told, having_seen}
use Rattle.job_queues.specs.Roster.{Roster, roster_of}
use Rattle.partition_threads.specs.Turns.{Follows}
use Rattle.partition_world.specs.declared.event.Event.{Event}
use Rattle.partition_world.specs.declared.event.Happened.{Happened}
use Rattle.partition_world.specs.declared.event.Happened.TheVariants as happened
use Rattle.live_grid.specs.declared.grid.GridPass.{GridPass}
use Rattle.live_grid.specs.declared.grid.LiveGrid.{LiveGrid}
use Rattle.live_grid.specs.declared.plan.GridPlan.{GridPlan}
use Rattle.live_grid.specs.Grids.{place_of}
use Rattle.live_grid.specs.Histories.{live_key}
use Rattle.live_grid.specs.Outcomes.{LiveGives}

-- at the limit, which the refusal tells, or below it for want of memory
abbrev pub IsWhyUnrun : ℕ → RunRefused → Type 0
IsWhyUnrun events NoMemory = events < most_events
IsWhyUnrun events (Exhausted told) = (events ≡ most_events) × (told ≡ most_events)

module _ (plan : GridPlan) (event : Event Request) (was is : Told (Event Request)) where
  -- The event came after all that the pass had seen, and its outcome there is the protocol's; nothing else that is new to
  -- the pass has one of its names
  pub record HasRun (outcome : Happened) : Type 0 where
    pub before : List (Event Request)
    pub after : List (Event Request)
    pub pass : is ≡ having_seen was (was.seen ++ before ++ event ∷ after)
    pub none_before : NoneOf live_key was.names before
    pub none_after : NoneOf live_key was.names after
    pub outcome_is : LiveGives plan (was.seen ++ before) event outcome

  -- The event wasn't run, and nothing that is new to the pass has one of its names
  pub record WasRefused (why : RunRefused) : Type 0 where
    pub follows : Follows live_key was is
    pub why_is : IsWhyUnrun (length is.seen) why

  abbrev pub CameTo : Result Happened RunRefused → Type 0
  CameTo (Ok outcome) = HasRun outcome
  CameTo (Err why) = WasRefused why

-- the cells of a grid, and the plans that they were made for, in the order of their partitions
abbrev pub cells_of : LiveGrid → Roster GridPlan
cells_of grid = roster_of (place_of grid).cells.items

-- A pass of each cell of the grid, in their order
pub record IsPassOfGrid (grid : LiveGrid) (pass : GridPass) : Type 0 where
  pub as_many : length (place_of grid).cells.items ≡ PARTITIONS
  pub tables : map (λ (p : Told (Event Request)). p.table) pass.passes.items ≡ (cells_of grid).tables

-- the pass of the partition may run an operator's events
abbrev pub HasControlAt : GridPass → ℕ → Type 0
HasControlAt pass partition = (p : Told (Event Request)) → slice_get pass.passes.items partition ≡ Some p → has p.names Control ≡ true

-- and so may each pass
abbrev pub HasControl : GridPass → Type 0
HasControl pass = (partition : ℕ) → HasControlAt pass partition

abbrev pub is_nothing : Happened → Bool
is_nothing happened.Nothing = true
is_nothing outcome = false

-- what an event comes to in all partitions: nothing exactly where it does in each
abbrev pub in_all : List Happened → Happened
in_all outcomes = if list_all is_nothing outcomes then happened.Nothing else happened.Done

module _ (grid : LiveGrid) (event : Event Request) (old new : GridPass) where
  -- The event was tried in the first partitions, in their order, and came to this in each; the other passes are as they were
  pub record WasTried (came : List (Result Happened RunRefused)) : Type 0 where
    pub each : (partition : ℕ) (plan : GridPlan) (was is : Told (Event Request)) (one : Result Happened RunRefused)
        → slice_get (cells_of grid).plans partition ≡ Some plan → slice_get old.passes.items partition ≡ Some was → slice_get new.passes.items partition ≡ Some is
        → slice_get came partition ≡ Some one → CameTo plan event was is one
    pub others : (partition : ℕ) → length came ≤ partition → slice_get new.passes.items partition ≡ slice_get old.passes.items partition
    pub tokens : new.tokens ≡ old.tokens

  -- The event came to this in the partition, and the other passes are as they were
  pub record CameToAt (partition : ℕ) (came : Result Happened RunRefused) : Type 0 where
    pub plan : GridPlan
    pub was : Told (Event Request)
    pub is : Told (Event Request)
    pub plan_there : slice_get (cells_of grid).plans partition ≡ Some plan
    pub was_there : slice_get old.passes.items partition ≡ Some was
    pub passes : new.passes.items ≡ slice_set old.passes.items partition is
    pub tokens : new.tokens ≡ old.tokens
    pub here : CameTo plan event was is came

  -- It was run in every partition
  pub record HasRunInAll (answer : Happened) : Type 0 where
    pub outcomes : List Happened
    pub as_many : length outcomes ≡ PARTITIONS
    pub tried : WasTried (map Ok outcomes)
    pub answer_is : answer ≡ in_all outcomes

  -- It was run in the first partitions, and refused in the one behind them
  pub record WasRefusedInOne (why : RunRefused) : Type 0 where
    pub outcomes : List Happened
    pub few : length outcomes < PARTITIONS
    pub tried : WasTried (map Ok outcomes ++ Err why ∷ [])

  abbrev pub CameToInAll : Result Happened RunRefused → Type 0
  CameToInAll (Ok answer) = HasRunInAll answer
  CameToInAll (Err why) = WasRefusedInOne why

-- An operator's events as passes see them

abbrev pub is_control : Key → Bool
is_control Control = true
is_control key = false

-- the operator's events among these
abbrev pub controls_in : List (Event Request) → List (Event Request)
controls_in events = filter (λ event. is_control (live_key event)) events

-- What is new to the pass has these events of an operator, and no others
pub record HasNewControls (was is : Told (Event Request)) (events : List (Event Request)) : Type 0 where
  pub later : List (Event Request)
  pub longer : is.seen ≡ was.seen ++ later
  pub controls : controls_in later ≡ events

-- what is new to a pass of an operator's events where one came to this
abbrev pub run_by : Event Request → Result Happened RunRefused → List (Event Request)
run_by event (Ok outcome) = event ∷ []
run_by event (Err why) = []

-- each pass has these new, by its partition
abbrev pub HaveNewControls : GridPass → GridPass → (ℕ → List (Event Request)) → Type 0
HaveNewControls old new events = (partition : ℕ) (was is : Told (Event Request)) → slice_get old.passes.items partition ≡ Some was → slice_get new.passes.items partition ≡ Some is
    → HasNewControls was is (events partition)
