-- When a job may be done.
use Rattle.std.specs.Prelude.{◌≡◌, ℕ, All, List, None}
use Rattle.std.specs.Arc.{arc_value}
use Rattle.std.specs.declared.sync.Arc.{Arc}
use Rattle.std.specs.declared.alloc.Global.{Global}
use Rattle.crossbeam_queue.specs.Fifo.{Held}
use Rattle.grid_base.specs.declared.calls.Request.{Request}
use Rattle.hand_cell.specs.declared.names.Key.{Key}
use Rattle.hand_cell.specs.declared.outcome.LiveOutcome.{LiveOutcome}
use Rattle.job_queues.specs.declared.job.Job.{Job}
use Rattle.job_queues.specs.declared.job.Work.{Work}
use Rattle.job_queues.specs.declared.job.Work.TheVariants.{New, Begun}
use Rattle.job_queues.specs.declared.parcel.Parcel.{Parcel}
use Rattle.job_queues.specs.declared.queue.JobQueue.{JobQueue}
use Rattle.job_queues.specs.declared.terms.ParcelSide.TheVariants.{Sender, Receiver}
use Rattle.job_queues.specs.Calls.{IsNew, IsBegun}
use Rattle.job_queues.specs.Ends.{End, IsEndOf}
use Rattle.job_queues.specs.Roster.{Roster}
use Rattle.job_queues.specs.Terms.{Terms}
use Rattle.job_queues.specs.Tokens.{capacity_of}

module _ {T P E O : Type 0} where
  abbrev pub member_of : Work T P E O → ℕ
  member_of (New call) = call.member
  member_of (Begun call) = call.member

  abbrev pub partition_of : Work T P E O → ℕ
  partition_of (New call) = call.request.partition
  partition_of (Begun call) = call.partition

module _ {T P E O : Type 0} (key_of : E → Key) (tells : P → List E → E → LiveOutcome → Type 0) (call_of : ℕ → Request → ℕ → E) (fits : Request → Type 0) (roster : Roster P) where
  -- on these cells and these terms the call may be run, or has run and is under way
  abbrev pub IsWorkOn : Terms P E → Work T P E O → Type 0
  IsWorkOn terms (New call) = IsNew key_of call_of fits roster terms call
  IsWorkOn terms (Begun call) = IsBegun key_of tells call_of roster terms call None

  -- A job may be done on these cells: its call may be run or go on there, and its end is the sender's of a parcel that was made on
  -- the call's terms
  pub record IsJobFor (job : Job T P E O) : Type 0 where
    pub terms : Terms P E
    pub work : IsWorkOn terms job.work
    pub parcel : IsEndOf (arc_value job.parcel) job.end
    pub side : job.end.side ≡ Sender terms

  -- At one moment the queue held as many jobs as it has room for
  abbrev pub WasFull : JobQueue T P E O → Type 0
  WasFull queue = Held (capacity_of queue) (λ jobs. All IsJobFor jobs)

module _ {T P E O : Type 0} where
  -- The end is the receiver's of a parcel that was made on these terms
  pub record Awaits (terms : Terms P E) (shared : Arc (Parcel T P E O) Global) (end : End T P E O) : Type 0 where
    pub parcel : IsEndOf (arc_value shared) end
    pub side : end.side ≡ Receiver terms
