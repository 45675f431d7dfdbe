-- What a session's calls do.
use Rattle.std.specs.Prelude.{◌≡◌, ℕ, ◌%◌, true, List, Some, None, slice_get, slice_set}
use Rattle.grid_base.specs.declared.calls.Request.{Request}
use Rattle.grid_base.specs.declared.names.CallId.{CallId}
use Rattle.hand_cell.specs.declared.names.Key.{Key}
use Rattle.hand_cell.specs.declared.names.Key.TheVariants.{Call}
use Rattle.hand_cell.specs.declared.outcome.LiveOutcome.{LiveOutcome}
use Rattle.hand_cell.specs.Names.{has, IsNewKey}
use Rattle.hand_cell.specs.Told.{Told}
use Rattle.job_queues.specs.Ends.{after_empty_look}
use Rattle.job_queues.specs.Roster.{roster_of}
use Rattle.job_queues.specs.Terms.{Terms}
use Rattle.job_queues.specs.Tokens.{Token, after_full_look}
use Rattle.partition_threads.specs.declared.starting.Obstacle.{Obstacle}
use Rattle.partition_threads.specs.declared.starting.Obstacle.TheVariants.{Busy, Memory}
use Rattle.partition_threads.specs.declared.workplace.Workplace.{Workplace}
use Rattle.partition_threads.specs.Starting.{IsAwaited}
use Rattle.session_calls.specs.declared.calls.Finished.{Finished}
use Rattle.session_calls.specs.declared.calls.Finished.TheVariants.{Ready, NotYet}
use Rattle.session_calls.specs.declared.session.SessionPass.{SessionPass}
use Rattle.session_calls.specs.declared.session.Started.{Started}
use Rattle.session_calls.specs.Clause.{HasCalled}
use Rattle.session_calls.specs.Sessions.{pass_at, HasPassAt}

module _ {T P E O : Type 0} where
  -- No call of the session is under way at the partition, and its pass there has the name of this call, which is new
  pub record MayCall (key_of : E → Key) (fits : Request → Type 0) (session : SessionPass T P E O) (request : Request) : Type 0 where
    pub pass : Told E
    pub there : pass_at session request.partition ≡ Some (Some pass)
    pub named : has pass.names (Call request.id) ≡ true
    pub unused : IsNewKey key_of (Call request.id) pass.seen
    pub within : fits request

  -- The call of these terms is under way: with a pass of the cell at its partition, and with a name that the pass has and that was new
  pub record IsUnderWay (key_of : E → Key) (place : Workplace T P E O) (terms : Terms P E) (started : Started T P E O) : Type 0 where
    pub awaited : IsAwaited terms started.awaited
    pub here : slice_get (roster_of place.cells.items).tables started.partition ≡ Some terms.first.table
    pub plan : slice_get (roster_of place.cells.items).plans started.partition ≡ Some terms.plan
    pub key : key_of terms.event ≡ Call started.id
    pub named : has terms.first.names (Call started.id) ≡ true
    pub unused : IsNewKey key_of (Call started.id) terms.first.seen

  -- The session's pass of the partition is away with the call of this request, to the session's member at this moment
  pub record HasStarted (key_of : E → Key) (call_of : ℕ → Request → ℕ → E) (place : Workplace T P E O) (old new : SessionPass T P E O) (request : Request) (now : ℕ) (started : Started T P E O) : Type 0 where
    pub terms : Terms P E
    pub pass : pass_at old request.partition ≡ Some (Some terms.first)
    pub event : terms.event ≡ call_of old.member request now
    pub under_way : IsUnderWay key_of place terms started
    pub id : started.id ≡ request.id
    pub partition : started.partition ≡ request.partition
    pub away : HasPassAt old new request.partition None

  -- the token for the partition found its queue full: its count of full looks rose
  pub record FoundFull (old new : SessionPass T P E O) (partition : ℕ) : Type 0 where
    pub token : Token P
    pub was : slice_get old.tokens.items (partition % 4) ≡ Some token
    pub rose : new.tokens.items ≡ slice_set old.tokens.items (partition % 4) (after_full_look token)

  abbrev pub IsWhyUnstarted : SessionPass T P E O → SessionPass T P E O → ℕ → Obstacle → Type 0
  IsWhyUnstarted old new partition Busy = FoundFull old new partition
  IsWhyUnstarted old new partition Memory = new.tokens.items ≡ old.tokens.items

  -- All passes are as before. Busy comes only where the worker's queue was full
  pub record HasRefused (old new : SessionPass T P E O) (partition : ℕ) (why : Obstacle) : Type 0 where
    pub same_passes : new.passes.items ≡ old.passes.items
    pub same_member : new.member ≡ old.member
    pub same_conn : new.conn ≡ old.conn
    pub why_is : IsWhyUnstarted old new partition why

  -- The call is under way, and its pass is away
  pub record MayFinish (key_of : E → Key) (place : Workplace T P E O) (terms : Terms P E) (session : SessionPass T P E O) (started : Started T P E O) : Type 0 where
    pub under_way : IsUnderWay key_of place terms started
    pub away : pass_at session started.partition ≡ Some None

  -- the same call
  pub record IsSameCall (started again : Started T P E O) : Type 0 where
    pub same_id : again.id ≡ started.id
    pub same_partition : again.partition ≡ started.partition

  -- The call is under way as before, and nothing else has changed: its parcel was found empty once more
  pub record IsNotYet (key_of : E → Key) (place : Workplace T P E O) (terms : Terms P E) (started again : Started T P E O) (old new : SessionPass T P E O) : Type 0 where
    pub under_way : IsUnderWay key_of place terms again
    pub same_call : IsSameCall started again
    pub rose : again.awaited.end ≡ after_empty_look started.awaited.end
    pub same_session : new ≡ old

module _ {T P E O : Type 0} (key_of : E → Key) (tells : P → List E → E → LiveOutcome → Type 0) where
  -- The call with this name has come to its outcome, and its pass is back at the partition
  pub record HasReturned (terms : Terms P E) (id : CallId) (partition : ℕ) (old new : SessionPass T P E O) (outcome : LiveOutcome) : Type 0 where
    pub pass : Told E
    pub back : HasPassAt old new partition (Some pass)
    pub called : HasCalled key_of tells terms id pass outcome

  -- a call that was started has
  abbrev pub IsReady : Terms P E → Started T P E O → SessionPass T P E O → SessionPass T P E O → LiveOutcome → Type 0
  IsReady terms started old new outcome = HasReturned terms started.id started.partition old new outcome

  abbrev pub HasEnded : Workplace T P E O → Terms P E → Started T P E O → SessionPass T P E O → SessionPass T P E O → Finished T P E O → Type 0
  HasEnded place terms started old new (Ready outcome) = IsReady terms started old new outcome
  HasEnded place terms started old new (NotYet again) = IsNotYet key_of place terms started again old new
