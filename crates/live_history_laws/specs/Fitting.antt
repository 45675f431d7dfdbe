-- When the entries of a partition, or of an object of it, are what one thread could have seen.
use Rattle.std.specs.Prelude.{◌≡◌, ◌≢◌, ℕ, Bool, true, List, ◌++◌, Contains}
use Rattle.grid_base.specs.Objects.{Object}
use Rattle.grid_base.specs.declared.names.CallId.{CallId}
use Rattle.grid_base.specs.declared.calls.Request.{Request}
use Rattle.hand_cell.specs.declared.outcome.LiveOutcome.{LiveOutcome}
use Rattle.hand_cell.specs.declared.outcome.LiveOutcome.TheVariants as live
use Rattle.partition_protocol.specs.History.{Entry, Executed, Called, IsLegal}
use Rattle.partition_world.specs.Answers.{id_of}
use Rattle.partition_world.specs.declared.event.Event.{Event}
use Rattle.partition_world.specs.declared.event.Event.TheVariants as event
use Rattle.live_grid.specs.declared.plan.GridPlan.{GridPlan}
use Rattle.live_grid.specs.Outcomes.{IsRepliedIn, LiveTells}
use Rattle.live_history_laws.specs.Entries.{StandsBefore, CameIn, HasEntry, StandsNowhere}
use Rattle.live_history_laws.specs.Reopenings.{reopened, resets_in}

-- What an outcome says of a call's entry: a reply stands there, a refused call stands nowhere, and one whose member is gone may stand or not
abbrev pub StandsAs : List (Entry Request) → CallId → Request → ℕ → LiveOutcome → Type 0
StandsAs entries id request now (live.Replied reply) = HasEntry entries id request now reply
StandsAs entries id request now live.MemberGone = Unit {0}
StandsAs entries id request now refused = StandsNowhere entries id

-- The entries begin with those that came with the first of two parts of a history
pub record IsSplit (plan : GridPlan) (before after : List (Event Request)) (entries : List (Entry Request)) : Type 0 where
  pub early : List (Entry Request)
  pub late : List (Entry Request)
  pub whole : entries ≡ early ++ late
  pub came_early : (call : Executed Request) → Contains early (Called call) → CameIn before call
  pub came_late : (call : Executed Request) → Contains late (Called call) → CameIn after call
  pub reopened_early : resets_in early ≡ reopened plan before

-- The entries are those of one object, used by one thread, of the requests that it takes
pub record Fits {State : Type 0} (o : Object Request State) (takes : Request → Bool) (plan : GridPlan) (history : List (Event Request)) (entries : List (Entry Request)) : Type 0 where
  -- each reply is the one that a single object gives a single thread there, where a reopening empties it
  pub legal : IsLegal o o.empty entries
  -- each call in it came with an event of the history, and is one that the object takes
  pub came : (call : Executed Request) → Contains entries (Called call) → (takes call.call ≡ true) × CameIn history call
  -- no call stands twice
  pub once : (first second : Executed Request) → StandsBefore entries (Called first) (Called second) → id_of first ≢ id_of second
  -- a call whose outcome was told, now or after less of the history, stands in it as the outcome says
  pub told : (before after : List (Event Request)) (member : ℕ) (id : CallId) (request : Request) (now : ℕ) (outcome : LiveOutcome) → history ≡ before ++ after
      → Contains before (event.Call member id request now) → takes request ≡ true → LiveTells plan before (event.Call member id request now) outcome → StandsAs entries id request now outcome
  -- no call stands before one that was replied to before it came
  pub ordered : (before after : List (Event Request)) (first second : Executed Request) (reply : List ℕ) → history ≡ before ++ after
      → IsRepliedIn plan before (id_of second) reply → StandsBefore entries (Called first) (Called second) → CameIn before first
  -- at each moment, the calls and reopenings until then stand before those that came later
  pub split : (before after : List (Event Request)) → history ≡ before ++ after → IsSplit plan before after entries
  -- the resets are the reopenings of the partition, in their order
  pub resets : resets_in entries ≡ reopened plan history
