-- How a session's next call is started, and the sessions as threads have them.
use Rattle.std.specs.Prelude.{◌≡◌, ℕ, true, List, [], Option, Some, None, IfOk, slice_get}
use Rattle.grid_base.specs.declared.calls.Request.{Request}
use Rattle.hand_cell.specs.declared.names.Key.TheVariants.{Call}
use Rattle.hand_cell.specs.Names.{has_number, IsNewKey}
use Rattle.hand_cell.specs.Told.{Told}
use Rattle.partition_threads.specs.declared.workers.WorkerTokens.{WorkerTokens}
use Rattle.partition_threads.specs.declared.workplace.Workplace.{Workplace}
use Rattle.partition_threads.specs.Workplaces.{IsTokenAt}
use Rattle.partition_world.specs.declared.event.Event.{Event}
use Rattle.partition_world.specs.declared.event.Happened.{Happened}
use Rattle.session_calls.specs.declared.session.Started.{Started}
use Rattle.session_calls.specs.Calls.{HasStarted}
use Rattle.session_calls.specs.Sessions.{pass_at}
use Rattle.live_grid.specs.declared.grid.LiveGrid.{LiveGrid}
use Rattle.live_grid.specs.declared.plan.GridPlan.{GridPlan}
use Rattle.live_grid.specs.declared.world.LiveWorld.{LiveWorld}
use Rattle.live_grid.specs.Histories.{live_key, live_call}
use Rattle.counted_calls.specs.Calls.{id_of, request_of}
use Rattle.counted_calls.specs.Sessions.{GridSession, HasMade}
use Rattle.counted_calls.specs.declared.requests.TheConstants.{PARTITION, CALLS}
use Rattle.counted_calls.specs.declared.threads.Caller.{Caller}

abbrev pub GridPlace : Type 0
GridPlace = Workplace LiveWorld GridPlan (Event Request) Happened

-- No call of the session is under way at the partition, and its call of this number is new there
pub record IsFree (number : ℕ) (session : GridSession) : Type 0 where
  pub pass : Told (Event Request)
  pub there : pass_at session PARTITION ≡ Some (Some pass)
  pub named : has_number pass.names.numbers session.conn ≡ true
  pub unused : IsNewKey live_key (Call (id_of session.conn number)) pass.seen

-- It is the session as it was, but for its tokens
pub record IsSameSession (old new : GridSession) : Type 0 where
  pub passes : new.passes.items ≡ old.passes.items
  pub member : new.member ≡ old.member
  pub conn : new.conn ≡ old.conn

-- The session's call of this number was started, maybe after looks that found the worker's queue full
pub record WasStarted (place : GridPlace) (key : List ℕ) (number : ℕ) (old new : GridSession) (started : Started LiveWorld GridPlan (Event Request) Happened) : Type 0 where
  pub before : GridSession
  pub same : IsSameSession old before
  pub start : HasStarted live_key live_call place before new (request_of key old.conn number) 0 started

-- threads

-- the session of the connection has made no call yet
abbrev pub MayMake : LiveGrid → List ℕ → ℕ → Caller → Type 0
MayMake grid key conn caller = HasMade grid key conn 0 0 caller.session

-- it has made its calls, and so many were answered by their object, where it found memory for all
abbrev pub HasMadeAll : LiveGrid → List ℕ → ℕ → Caller → Type 0
HasMadeAll grid key conn caller = IfOk caller.came (λ answered. HasMade grid key conn CALLS answered caller.session)

-- each is the session of the connection of its place

abbrev pub MayAllMake : LiveGrid → List ℕ → List Caller → Type 0
MayAllMake grid key callers = (conn : ℕ) (caller : Caller) → slice_get callers conn ≡ Some caller → MayMake grid key conn caller

abbrev pub HaveAllMade : LiveGrid → List ℕ → List Caller → Type 0
HaveAllMade grid key callers = (conn : ℕ) (caller : Caller) → slice_get callers conn ≡ Some caller → HasMadeAll grid key conn caller

-- the worker's tokens, if they are there, are those of its number, and it holds no call
abbrev pub IsWorker : GridPlace → ℕ → Option (WorkerTokens LiveWorld GridPlan (Event Request) Happened) → Type 0
IsWorker place number None = Unit {0}
IsWorker place number (Some tokens) = IsTokenAt place number tokens.queue × (tokens.held.items ≡ [])
