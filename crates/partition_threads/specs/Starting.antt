-- A call that was started, or wasn't.
use Rattle.std.specs.Prelude.{◌≡◌, ℕ, Some, slice_get}
use Rattle.grid_base.specs.declared.calls.Request.{Request}
use Rattle.hand_cell.specs.Told.{Told}
use Rattle.job_queues.specs.Jobs.{Awaits}
use Rattle.job_queues.specs.Roster.{Roster}
use Rattle.job_queues.specs.Terms.{Terms}
use Rattle.job_queues.specs.Tokens.{Token, after_full_look}
use Rattle.partition_threads.specs.declared.starting.Awaited.{Awaited}
use Rattle.partition_threads.specs.declared.starting.Obstacle.{Obstacle}
use Rattle.partition_threads.specs.declared.starting.Obstacle.TheVariants.{Busy, Memory}
use Rattle.partition_threads.specs.declared.starting.StartRefused.{StartRefused}

-- The count of full looks rose where the queue was found full, and only there
abbrev pub HasMet : {P : Type 0} → Obstacle → Token P → Token P → Type 0
HasMet Busy old new = new ≡ after_full_look old
HasMet Memory old new = new ≡ old

module _ {T P E O : Type 0} where
  -- It is the receiver's side of a parcel that was made on these terms
  abbrev pub IsAwaited : Terms P E → Awaited T P E O → Type 0
  IsAwaited terms awaited = Awaits terms awaited.parcel awaited.end

  -- The answer is awaited on the terms of this call: with this pass, at the cell of its partition
  pub record HasStarted (call_of : ℕ → Request → ℕ → E) (roster : Roster P) (pass : Told E) (member : ℕ) (request : Request) (now : ℕ) (awaited : Awaited T P E O) : Type 0 where
    pub terms : Terms P E
    pub plan : slice_get roster.plans request.partition ≡ Some terms.plan
    pub first : terms.first ≡ pass
    pub event : terms.event ≡ call_of member request now
    pub awaits : IsAwaited terms awaited

  -- The pass comes back as it was. Busy comes only where the count of full looks rose
  abbrev pub IsUnstarted : Told E → Token P → Token P → StartRefused T P E O → Type 0
  IsUnstarted pass old new refused = (refused.pass ≡ pass) × HasMet refused.why old new
