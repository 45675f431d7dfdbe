-- What a call comes to that its caller makes.
use Rattle.std.specs.Prelude.{◌≡◌, ℕ, List, Some, None, slice_get}
use Rattle.grid_base.specs.declared.calls.Request.{Request}
use Rattle.grid_base.specs.declared.names.CallId.{CallId}
use Rattle.hand_cell.specs.declared.names.Key.{Key}
use Rattle.hand_cell.specs.declared.outcome.LiveOutcome.{LiveOutcome}
use Rattle.hand_cell.specs.Told.{Told}
use Rattle.job_queues.specs.Answers.{IsDone}
use Rattle.job_queues.specs.Roster.{Roster}
use Rattle.job_queues.specs.Terms.{Terms}
use Rattle.job_queues.specs.Tokens.{Token}
use Rattle.partition_threads.specs.declared.making.Made.{Made}
use Rattle.partition_threads.specs.declared.making.Made.TheVariants.{Done, Started, Kept}
use Rattle.partition_threads.specs.Starting.{IsAwaited, HasMet}
use Rattle.partition_threads.specs.Steps.{IsRun}

module _ {T P E O : Type 0} (key_of : E → Key) (tells : P → List E → E → LiveOutcome → Type 0) (call_of : ℕ → Request → ℕ → E) (roster : Roster P) where
  -- A call with this name, at a member and a partition, that was made on these terms: it is answered, its answer is awaited on them, or it
  -- has run on them and is under way
  abbrev pub CameTo : Terms P E → ℕ → ℕ → CallId → Made T P E O → Type 0
  CameTo terms member partition id (Done done) = IsDone key_of tells terms done
  CameTo terms member partition id (Started awaited) = IsAwaited terms awaited
  CameTo terms member partition id (Kept call why) = IsRun key_of tells call_of roster terms member partition id call None

  -- The call was made on its terms: with this pass, at the cell of its partition
  pub record HasMade (pass : Told E) (member : ℕ) (request : Request) (now : ℕ) (made : Made T P E O) : Type 0 where
    pub terms : Terms P E
    pub plan : slice_get roster.plans request.partition ≡ Some terms.plan
    pub first : terms.first ≡ pass
    pub event : terms.event ≡ call_of member request now
    pub came : CameTo terms member request.partition request.id made

module _ {T P E O : Type 0} where
  -- the count of full looks rose exactly where the queue was found full
  abbrev pub HasTold : Token P → Token P → Made T P E O → Type 0
  HasTold old new (Kept call why) = HasMet why old new
  HasTold old new (Started awaited) = new ≡ old
  HasTold old new (Done done) = new ≡ old
