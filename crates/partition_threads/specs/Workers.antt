-- What a worker's steps leave.
use Rattle.std.specs.Prelude.{◌≡◌}
use Rattle.job_queues.specs.Tokens.{Token, after_empty_look}
use Rattle.partition_threads.specs.declared.workers.Looked.{Looked}
use Rattle.partition_threads.specs.declared.workers.Looked.TheVariants.{Empty}

-- the count of empty looks rose exactly where the queue was found empty
abbrev pub HasLooked : {P : Type 0} → Looked → Token P → Token P → Type 0
HasLooked Empty old new = new ≡ after_empty_look old
HasLooked _ old new = new ≡ old
