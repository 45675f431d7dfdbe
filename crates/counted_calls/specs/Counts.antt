-- What four sessions' calls come to: the theorem.
use Rattle.std.specs.Prelude.{◌≡◌, ℕ, ℤ, pos, ◌*◌, ◌<◌, List, length, Option, Some, Contains, slice_get}
use Rattle.std.specs.Option.{option_and_then}
use Rattle.entry_processors.specs.declared.form.Form.{Form}
use Rattle.entry_processors.specs.Processors.{Add, counted}
use Rattle.entry_processors.specs.Places.{item_at}
use Rattle.grid_base.specs.declared.calls.Request.{Request}
use Rattle.hand_cell.specs.Ready.{most_events}
use Rattle.hand_cell.specs.Told.{Told}
use Rattle.object_store.specs.Records.{Record, entry_in}
use Rattle.partition_world.specs.declared.event.Event.{Event}
use Rattle.live_grid.specs.declared.grid.GridPass.{GridPass}
use Rattle.live_grid.specs.declared.grid.LiveGrid.{LiveGrid}
use Rattle.live_grid.specs.declared.plan.GridPlan.{GridPlan}
use Rattle.live_grid.specs.Grids.{AreCells, place_of}
use Rattle.live_grid.specs.Outcomes.{IsRepliedIn}
use Rattle.live_grid.specs.Plans.{settings_for}
use Rattle.live_grid.specs.Stored.{stored_in}
use Rattle.counted_calls.specs.Calls.{call_of, calls_in, id_of, name_of}
use Rattle.counted_calls.specs.Gathered.{HaveNamesFrom}
use Rattle.counted_calls.specs.Sessions.{IsPlanHere}
use Rattle.counted_calls.specs.declared.counting.Counted.{Counted}
use Rattle.counted_calls.specs.declared.requests.TheConstants.{PARTITION, SESSIONS, CALLS}

-- the first processor adds
abbrev pub IsAdding : GridPlan → Type 0
IsAdding plan = item_at (settings_for plan).forms (pos 1) ≡ Some Add

-- the number that is stored of the key, which is 0 where nothing is; none where what is stored is no number
abbrev pub number_stored : GridPlan → List (Event Request) → List ℕ → Option ℤ
number_stored plan history key = counted (option_and_then (λ (kept : Record). (entry_in kept).value) (stored_in plan history (name_of key)))

module _ (plan : GridPlan) (key : List ℕ) (history : List (Event Request)) where
  -- The calls in the history are those of the sessions, and each was answered by its object
  pub record AreAnswered : Type 0 where
    pub each : (conn number : ℕ) → conn < SESSIONS → number < CALLS → Contains (calls_in history) (call_of key conn number)
    pub as_many : length (calls_in history) ≡ CALLS * SESSIONS
    pub replied : (conn number : ℕ) → conn < SESSIONS → number < CALLS → (reply : List ℕ) × IsRepliedIn plan history (id_of conn number) reply

  -- Each call in the history is counted; below the limit these are all calls, and each was answered. What is stored is the total; where the
  -- first processor adds it is the count, in any case
  pub record AreCounted (counts : Counted) : Type 0 where
    pub count : counts.answered ≡ length (calls_in history)
    pub answered : length history < most_events → AreAnswered
    pub all : length history < most_events → counts.answered ≡ CALLS * SESSIONS
    pub stored : counts.total ≡ number_stored plan history key
    pub agree : IsAdding plan → counts.total ≡ Some (pos counts.answered)

-- The last turn of the pass has seen this history of the partition, by which the calls are counted. It has every name of each partition,
-- and no operator's event was run in any
pub record HasCounted (forms : List Form) (capacity : ℕ) (key : List ℕ) (grid : LiveGrid) (pass : GridPass) (counts : Counted) : Type 0 where
  pub cells : AreCells 3 1 forms capacity (place_of grid).cells.items
  pub plan : GridPlan
  pub plan_there : IsPlanHere grid plan
  pub last : Told (Event Request)
  pub last_there : slice_get pass.passes.items PARTITION ≡ Some last
  pub named : HaveNamesFrom 0 pass.passes.items
  pub came_to : AreCounted plan key last.seen counts
