-- What is known of the sessions' calls while the sessions are joined to the grid's pass, the last one first.
use Rattle.std.specs.Prelude.{◌≡◌, ℕ, ◌+◌, ◌*◌, ◌<◌, ◌≤◌, List, [], map, length, filter, All, Contains, true, Some, slice_get}
use Rattle.grid_base.specs.declared.calls.Request.{Request}
use Rattle.hand_cell.specs.Names.{has_number}
use Rattle.hand_cell.specs.Ready.{most_events}
use Rattle.hand_cell.specs.Told.{Told}
use Rattle.partition_world.specs.declared.event.Event.{Event}
use Rattle.live_grid.specs.declared.grid.GridPass.{GridPass}
use Rattle.live_grid.specs.declared.grid.LiveGrid.{LiveGrid}
use Rattle.live_grid.specs.declared.plan.GridPlan.{GridPlan}
use Rattle.live_grid.specs.Control.{controls_in}
use Rattle.counted_calls.specs.Calls.{call_of, calls_from}
use Rattle.counted_calls.specs.Sessions.{IsPlanHere, Ran, WasTold, event_of, is_answered}
use Rattle.counted_calls.specs.declared.requests.TheConstants.{PARTITION, SESSIONS, CALLS}

module _ (plan : GridPlan) (key : List ℕ) where
  -- It is a call of one of the sessions, and its outcome was told by what was seen
  pub record IsCounted (seen : List (Event Request)) (one : Ran) : Type 0 where
    pub session : one.conn < SESSIONS
    pub below : one.number < CALLS
    pub told : WasTold plan seen (event_of key one) one.outcome

  -- Below the limit each call was run of each session from one on
  pub record AreAllThere (from many : ℕ) (seen : List (Event Request)) : Type 0 where
    pub many_are : many + CALLS * from ≡ CALLS * SESSIONS
    pub each : (conn number : ℕ) → from ≤ conn → conn < SESSIONS → number < CALLS → Contains (calls_from from seen) (call_of key conn number)

  -- The sessions from one on are joined: the calls in what was seen of connections from that one on are theirs, and so many of them were
  -- answered by their object. No operator's event is in it
  pub record AreGathered (from answered : ℕ) (seen : List (Event Request)) : Type 0 where
    pub uncontrolled : controls_in seen ≡ []
    pub ran : List Ran
    pub as_many : length (calls_from from seen) ≡ length ran
    pub theirs : All (Contains (map (event_of key) ran)) (calls_from from seen)
    pub each : All (IsCounted seen) ran
    pub few : length ran + CALLS * from ≤ CALLS * SESSIONS
    pub count : answered ≡ length (filter is_answered ran)
    pub whole : length seen < most_events → AreAllThere from (length ran) seen

-- It has the numbers of all connections from one on for names, and Control, and has seen no operator's event
pub record HasNamesFrom (from : ℕ) (pass : Told (Event Request)) : Type 0 where
  pub control : pass.names.control ≡ true
  pub numbers : (number : ℕ) → from ≤ number → has_number pass.names.numbers number ≡ true
  pub uncontrolled : controls_in pass.seen ≡ []

-- so it is with the pass of each partition
abbrev pub HaveNamesFrom : ℕ → List (Told (Event Request)) → Type 0
HaveNamesFrom from passes = (partition : ℕ) (pass : Told (Event Request)) → slice_get passes partition ≡ Some pass → HasNamesFrom from pass

-- The sessions from one on are joined to the grid's pass. Only those that aren't joined yet have their names
pub record HasGathered (grid : LiveGrid) (key : List ℕ) (from answered : ℕ) (pass : GridPass) : Type 0 where
  pub plan : GridPlan
  pub plan_here : IsPlanHere grid plan
  pub last : Told (Event Request)
  pub last_there : slice_get pass.passes.items PARTITION ≡ Some last
  pub named : HaveNamesFrom from pass.passes.items
  pub gathered : AreGathered plan key from answered last.seen
