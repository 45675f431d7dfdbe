-- What a session's call comes to that is made at once, where that can be.
use Rattle.std.specs.Prelude.{◌≡◌, ℕ, true, List, Some, None, slice_get, slice_set}
use Rattle.grid_base.specs.declared.names.CallId.{CallId}
use Rattle.grid_base.specs.declared.calls.Request.{Request}
use Rattle.hand_cell.specs.declared.names.Key.{Key}
use Rattle.hand_cell.specs.declared.names.Key.TheVariants.{Call}
use Rattle.hand_cell.specs.declared.outcome.LiveOutcome.{LiveOutcome}
use Rattle.hand_cell.specs.Names.{has, IsNewKey}
use Rattle.job_queues.specs.declared.call.BegunCall.{BegunCall}
use Rattle.job_queues.specs.Calls.{IsBegun}
use Rattle.job_queues.specs.Roster.{roster_of}
use Rattle.job_queues.specs.Terms.{Terms}
use Rattle.partition_threads.specs.declared.making.Made.{Made as Came}
use Rattle.partition_threads.specs.declared.making.Made.TheVariants as came
use Rattle.partition_threads.specs.declared.starting.Obstacle.{Obstacle}
use Rattle.partition_threads.specs.declared.workplace.Workplace.{Workplace}
use Rattle.session_calls.specs.declared.making.Made.{Made}
use Rattle.session_calls.specs.declared.making.Made.TheVariants.{Ready, Started, Kept}
use Rattle.session_calls.specs.declared.session.SessionPass.{SessionPass}
use Rattle.session_calls.specs.declared.session.Started.{Started as StartedCall}
use Rattle.session_calls.specs.Calls.{HasStarted, IsUnderWay, HasReturned, HasRefused, IsWhyUnstarted}
use Rattle.session_calls.specs.Sessions.{pass_at, HasPassAt}

module _ {T P E O : Type 0} where
  -- the session's passes, tokens and numbers are as before
  pub record IsAsBefore (old new : SessionPass T P E O) : Type 0 where
    pub same_passes : new.passes.items ≡ old.passes.items
    pub same_tokens : new.tokens.items ≡ old.tokens.items
    pub same_member : new.member ≡ old.member
    pub same_conn : new.conn ≡ old.conn

  -- what a call came to was taken in: its pass is at the partition again, where it is back
  abbrev pub HasTakenIn : SessionPass T P E O → SessionPass T P E O → CallId → ℕ → Came T P E O → Made T P E O → Type 0
  HasTakenIn old new id partition (came.Done done) (Ready outcome) = HasPassAt old new partition (Some done.pass) × (outcome ≡ done.outcome)
  HasTakenIn old new id partition (came.Started awaited) (Started started) = IsAsBefore old new × (started ≡ record { id = id; partition = partition; awaited = awaited })
  HasTakenIn old new id partition (came.Kept call met) (Kept again why) = IsAsBefore old new × (again ≡ call) × (why ≡ met)
  HasTakenIn old new id partition _ _ = ⊥

module _ {T P E O : Type 0} (call_of : ℕ → Request → ℕ → E) (place : Workplace T P E O) where
  -- These are the terms of a session's call of this request, to the session's member at this moment, with the pass that is there
  pub record AreTermsOf (session : SessionPass T P E O) (request : Request) (now : ℕ) (terms : Terms P E) : Type 0 where
    pub pass : pass_at session request.partition ≡ Some (Some terms.first)
    pub event : terms.event ≡ call_of session.member request now
    pub plan : slice_get (roster_of place.cells.items).plans request.partition ≡ Some terms.plan

module _ {T P E O : Type 0} (key_of : E → Key) (call_of : ℕ → Request → ℕ → E) (tells : P → List E → E → LiveOutcome → Type 0) (place : Workplace T P E O) where
  -- The call was run on these terms and is under way, and its name is one that the pass has and that was new
  pub record IsRunning (terms : Terms P E) (call : BegunCall T P E O) : Type 0 where
    pub begun : IsBegun key_of tells call_of (roster_of place.cells.items) terms call None
    pub named : has terms.first.names (Call call.id) ≡ true
    pub unused : IsNewKey key_of (Call call.id) terms.first.seen

  -- The session keeps the call, and its pass is away
  pub record MayGoOn (terms : Terms P E) (session : SessionPass T P E O) (call : BegunCall T P E O) : Type 0 where
    pub running : IsRunning terms call
    pub same_member : call.member ≡ session.member
    pub away : pass_at session call.partition ≡ Some None

  -- The call was handed over, and nothing else has changed
  pub record IsHandedOver (terms : Terms P E) (id : CallId) (partition : ℕ) (old new : SessionPass T P E O) (started : StartedCall T P E O) : Type 0 where
    pub under_way : IsUnderWay key_of place terms started
    pub same_id : started.id ≡ id
    pub same_partition : started.partition ≡ partition
    pub same_session : IsAsBefore old new

  -- The session keeps the call still. Busy comes only where the worker's queue was full
  pub record IsKeptStill (terms : Terms P E) (id : CallId) (partition : ℕ) (old new : SessionPass T P E O) (call : BegunCall T P E O) (why : Obstacle) : Type 0 where
    pub running : IsRunning terms call
    pub same_member : call.member ≡ old.member
    pub same_id : call.id ≡ id
    pub same_partition : call.partition ≡ partition
    pub same_session : HasRefused old new partition why

  -- what a call of this name came to that the session kept
  abbrev pub CameTo : Terms P E → CallId → ℕ → SessionPass T P E O → SessionPass T P E O → Made T P E O → Type 0
  CameTo terms id partition old new (Ready outcome) = HasReturned key_of tells terms id partition old new outcome
  CameTo terms id partition old new (Started started) = IsHandedOver terms id partition old new started
  CameTo terms id partition old new (Kept call why) = IsKeptStill terms id partition old new call why

  -- The call was made at once: it has its outcome, and its pass is back
  pub record IsMadeAtOnce (old new : SessionPass T P E O) (request : Request) (now : ℕ) (outcome : LiveOutcome) : Type 0 where
    pub terms : Terms P E
    pub terms_are : AreTermsOf call_of place old request now terms
    pub returned : HasReturned key_of tells terms request.id request.partition old new outcome

  -- The call has run and is under way, and the session keeps it, with its pass. Busy comes only where the worker's queue was full
  pub record IsKept (old new : SessionPass T P E O) (request : Request) (now : ℕ) (call : BegunCall T P E O) (why : Obstacle) : Type 0 where
    pub terms : Terms P E
    pub terms_are : AreTermsOf call_of place old request now terms
    pub running : IsRunning terms call
    pub same_member : call.member ≡ old.member
    pub same_id : call.id ≡ request.id
    pub same_partition : call.partition ≡ request.partition
    pub away : new.passes.items ≡ slice_set old.passes.items request.partition None
    pub member : new.member ≡ old.member
    pub conn : new.conn ≡ old.conn
    pub why_is : IsWhyUnstarted old new request.partition why

  -- what a call of a session came to
  abbrev pub HasMade : SessionPass T P E O → SessionPass T P E O → Request → ℕ → Made T P E O → Type 0
  HasMade old new request now (Ready outcome) = IsMadeAtOnce old new request now outcome
  HasMade old new request now (Started started) = HasStarted key_of call_of place old new request now started
  HasMade old new request now (Kept call why) = IsKept old new request now call why
