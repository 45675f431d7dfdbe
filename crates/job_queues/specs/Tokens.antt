-- What contracts see of the passes of a queue.
use Rattle.std.specs.Prelude.{◌≡◌, ℕ, ◌+◌, min, []}
use Rattle.atomic_table.specs.Seated.{TableId}
use Rattle.crossbeam_queue.specs.Passes.{Pass, view, ruled_capacity}
use Rattle.job_queues.specs.declared.queue.JobQueue.{JobQueue}
use Rattle.job_queues.specs.declared.roster.QueueSide.{QueueSide}
use Rattle.job_queues.specs.declared.roster.QueueSide.TheVariants.{Ready}
use Rattle.job_queues.specs.Roster.{Roster}
use Rattle.job_queues.specs.QueueRule.{roster_in}

-- of which queue it is, the cells that the queue was made for, and how often it found the queue full, and empty
pub record Token (P : Type 0) : Type 0 where
  pub queue : TableId
  pub roster : Roster P
  pub full : ℕ
  pub empty : ℕ

module _ {J P : Type 0} where
  abbrev pub token : Pass J (QueueSide P) → ℕ → ℕ → Token P
  token seat full empty = record { queue = seat.table_id; roster = roster_in (view seat); full = full; empty = empty }

  -- no slot is out with it, and it knows for which cells the queue is
  abbrev pub IsReady : Pass J (QueueSide P) → Type 0
  IsReady seat = (seat.me.1 ≡ []) × (view seat ≡ Ready (roster_in (view seat)))

module _ {T P E O : Type 0} where
  abbrev pub IsTokenOf : JobQueue T P E O → Token P → Type 0
  IsTokenOf queue token = token.queue ≡ queue.queue.table.shared.table_id

  -- how many jobs the queue has room for
  abbrev pub capacity_of : JobQueue T P E O → ℕ
  capacity_of queue = ruled_capacity queue.queue

module _ {P : Type 0} where
  -- they are of one queue
  pub record IsSameQueue (old new : Token P) : Type 0 where
    pub queue : new.queue ≡ old.queue
    pub roster : new.roster ≡ old.roster

  -- its count of full looks has risen
  abbrev pub after_full_look : Token P → Token P
  after_full_look t = record { queue = t.queue; roster = t.roster; full = min (t.full + 1) 18446744073709551615; empty = t.empty }

  -- its count of empty looks has risen
  abbrev pub after_empty_look : Token P → Token P
  after_empty_look t = record { queue = t.queue; roster = t.roster; full = t.full; empty = min (t.empty + 1) 18446744073709551615 }
