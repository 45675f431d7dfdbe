-- Of which worker's queue a token is.
use Rattle.std.specs.Prelude.{◌≡◌, ℕ, List, Some, slice_get, map, length}
use Rattle.atomic_table.specs.Seated.{TableId}
use Rattle.job_queues.specs.declared.queue.JobQueue.{JobQueue}
use Rattle.job_queues.specs.Roster.{Roster, roster_of}
use Rattle.job_queues.specs.Tokens.{Token}
use Rattle.partition_threads.specs.declared.workplace.Workplace.{Workplace}

module _ {T P E O : Type 0} where
  abbrev pub queue_ids : List (JobQueue T P E O) → List TableId
  queue_ids queues = map (λ q. q.queue.table.shared.table_id) queues

  -- The token is of that worker's queue, which was made for the cells of the place
  pub record IsTokenAt (place : Workplace T P E O) (worker : ℕ) (token : Token P) : Type 0 where
    pub queue : slice_get (queue_ids place.queues.items) worker ≡ Some token.queue
    pub roster : token.roster ≡ roster_of place.cells.items

  -- each token is of the worker of its place
  abbrev pub AreTokensAt : Workplace T P E O → List (Token P) → Type 0
  AreTokensAt place tokens = (k : ℕ) (token : Token P) → slice_get tokens k ≡ Some token → IsTokenAt place k token

  -- Each token is of the queue of its place, made for these cells
  pub record AreTokensOf (roster : Roster P) (queues : List (JobQueue T P E O)) (tokens : List (Token P)) : Type 0 where
    pub as_long : length queues ≡ length tokens
    pub queue : (k : ℕ) (token : Token P) → slice_get tokens k ≡ Some token → slice_get (queue_ids queues) k ≡ Some token.queue
    pub roster_is : (k : ℕ) (token : Token P) → slice_get tokens k ≡ Some token → token.roster ≡ roster
