-- What a session that has made its calls knows of them.
use Rattle.std.specs.Prelude.{◌≡◌, ℕ, ◌<◌, ◌≤◌, cond, Bool, true, false, List, ◌++◌, map, length, filter, All, Contains, Some, slice_get}
use Rattle.grid_base.specs.declared.calls.Request.{Request}
use Rattle.hand_cell.specs.declared.outcome.LiveOutcome.{LiveOutcome}
use Rattle.hand_cell.specs.declared.outcome.LiveOutcome.TheVariants as live
use Rattle.hand_cell.specs.Names.{has_number}
use Rattle.hand_cell.specs.Ready.{most_events}
use Rattle.hand_cell.specs.Told.{Told}
use Rattle.partition_world.specs.declared.event.Event.{Event}
use Rattle.partition_world.specs.declared.event.Happened.{Happened}
use Rattle.session_calls.specs.declared.session.SessionPass.{SessionPass}
use Rattle.session_calls.specs.Openings.{HasAllPasses}
use Rattle.session_calls.specs.Sessions.{IsSessionOf, pass_at}
use Rattle.live_grid.specs.declared.grid.LiveGrid.{LiveGrid}
use Rattle.live_grid.specs.declared.plan.GridPlan.{GridPlan}
use Rattle.live_grid.specs.declared.world.LiveWorld.{LiveWorld}
use Rattle.live_grid.specs.Control.{cells_of}
use Rattle.live_grid.specs.Grids.{place_of}
use Rattle.live_grid.specs.Outcomes.{LiveTells}
use Rattle.counted_calls.specs.Calls.{call_of, calls_by, numbers_below}
use Rattle.counted_calls.specs.declared.requests.TheConstants.{PARTITION, LEADER}

-- a call whose event was run: whose it is, its number, and its outcome
pub record Ran : Type 0 where
  pub conn : ℕ
  pub number : ℕ
  pub outcome : LiveOutcome

abbrev pub event_of : List ℕ → Ran → Event Request
event_of key one = call_of key one.conn one.number

-- its object answered it
abbrev pub is_reply : LiveOutcome → Bool
is_reply (live.Replied reply) = true
is_reply other = false

-- how much an outcome counts
abbrev pub counting : LiveOutcome → ℕ
counting outcome = cond (is_reply outcome) 1 0

abbrev pub is_answered : Ran → Bool
is_answered one = is_reply one.outcome

module _ (plan : GridPlan) where
  -- By a beginning of what was seen, which has the event, this is its outcome
  pub record WasTold (seen : List (Event Request)) (event : Event Request) (outcome : LiveOutcome) : Type 0 where
    pub before : List (Event Request)
    pub after : List (Event Request)
    pub whole : seen ≡ before ++ after
    pub there : Contains before event
    pub told : LiveTells plan before event outcome

  module _ (key : List ℕ) where
    -- It is one of the connection's first so many, and its outcome was told by what was seen
    pub record WasMade (conn calls : ℕ) (seen : List (Event Request)) (one : Ran) : Type 0 where
      pub conn_is : one.conn ≡ conn
      pub below : one.number < calls
      pub told : WasTold seen (event_of key one) one.outcome

    -- The connection's calls in what was seen are of its first so many, and so many of them were answered by their object. Below the limit
    -- they are all of these, in their order: a call that wasn't run came at the limit
    pub record HaveBeenMade (conn calls answered : ℕ) (seen : List (Event Request)) : Type 0 where
      pub ran : List Ran
      pub own : calls_by conn seen ≡ map (event_of key) ran
      pub each : All (WasMade conn calls seen) ran
      pub few : length ran ≤ calls
      pub count : answered ≡ length (filter is_answered ran)
      pub whole : length seen < most_events → map (λ (one : Ran). one.number) ran ≡ numbers_below calls

-- a session of the grid
abbrev pub GridSession : Type 0
GridSession = SessionPass LiveWorld GridPlan (Event Request) Happened

-- The plan of the grid's cell at the partition of the calls
pub record IsPlanHere (grid : LiveGrid) (plan : GridPlan) : Type 0 where
  pub there : slice_get (cells_of grid).plans PARTITION ≡ Some plan

-- each pass of the session has the connection's number for a name
abbrev pub HasNumber : ℕ → GridSession → Type 0
HasNumber conn session = (partition : ℕ) (pass : Told (Event Request)) → pass_at session partition ≡ Some (Some pass) → has_number pass.names.numbers conn ≡ true

-- A session of the connection at the leader, of which no call is under way. By what its pass of the partition has seen, its first so many
-- calls were made, and so many of them answered
pub record HasMade (grid : LiveGrid) (key : List ℕ) (conn calls answered : ℕ) (session : GridSession) : Type 0 where
  pub of_grid : IsSessionOf (place_of grid) session
  pub rests : HasAllPasses session
  pub conn_is : session.conn ≡ conn
  pub member_is : session.member ≡ LEADER
  pub plan : GridPlan
  pub plan_here : IsPlanHere grid plan
  pub pass : Told (Event Request)
  pub there : pass_at session PARTITION ≡ Some (Some pass)
  pub named : HasNumber conn session
  pub made : HaveBeenMade plan key conn calls answered pass.seen
